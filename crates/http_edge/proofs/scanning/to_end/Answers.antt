use Rattle.std.proofs.Common.{arith}
use Rattle.http_edge.proofs.LineLaws.{split_to_end}
use Rattle.http_edge.proofs.scanning.to_end.Goals as goal

pub returns-in_err-rest : goal.returns-in_err-rest
returns-in_err-rest c = grind (arith, split_to_end c.args.text.now c.in_ok-value.value.now c.in_ok-value.rest.now c.in_ok-value.ensures.found, c.in_err-rest.ensures.read)

pub returns-clause-read : goal.returns-clause-read
returns-clause-read c = grind (arith, split_to_end c.args.text.now c.in_ok-value.value.now c.in_ok-value.rest.now c.in_ok-value.ensures.found, c.in_ok-rest.ensures.read)
