use Rattle.std.proofs.Common.{sym, ◌∙◌, inl}
use Rattle.http_edge.proofs.ReadingLaws.{no_lines}
use Rattle.http_edge.proofs.reading.refusal_of.Goals as goal

pub returns-then-has_end : goal.returns-then-has_end
returns-then-has_end c = (sym c.has_end.ensures ∙ c.if-has_end.true, no_lines c.args.input.now c.requires)

pub returns : goal.returns
returns c = inl (sym c.has_end.ensures ∙ c.if-has_end.false)
