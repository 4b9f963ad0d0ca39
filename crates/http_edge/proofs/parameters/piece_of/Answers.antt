use Rattle.std.proofs.Common.{sym, ◌∙◌}
use Rattle.http_edge.proofs.ParameterLaws.{plain_decoded, plain_utf8}
use Rattle.http_edge.proofs.parameters.piece_of.Goals as goal

pub returns-then-is_plain-clause-read : goal.returns-then-is_plain-clause-read
returns-then-is_plain-clause-read c =
    let plain = sym c.is_plain.ensures ∙ c.if-is_plain.true in
    (plain_decoded c.args.raw.now plain, plain_utf8 c.args.raw.now plain)
