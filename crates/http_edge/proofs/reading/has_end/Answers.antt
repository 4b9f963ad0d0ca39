use Rattle.std.proofs.Common.{sym, ◌∙◌}
use Rattle.http_edge.proofs.ReadingLaws.{end_stop, end_pass, end_found}
use Rattle.http_edge.proofs.reading.has_end.Goals as goal

pub returns-then-is_end : goal.returns-then-is_end
returns-then-is_end c = sym (c.bytes.invariant ∙ end_found c.bytes.rest.now _ _ c.in-Some.ensures (sym c.is_end.ensures ∙ c.if-is_end.true))

pub bytes-preserved : goal.bytes-preserved
bytes-preserved c = c.bytes.invariant ∙ end_pass c.bytes.rest.now _ _ c.in-Some.ensures (sym c.is_end.ensures ∙ c.if-is_end.false)

pub returns : goal.returns
returns c = sym (c.bytes.invariant ∙ end_stop c.bytes.rest.now c.in_default.ensures)
