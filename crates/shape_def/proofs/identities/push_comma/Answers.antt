use Rattle.std.proofs.Common.{arith}
use Rattle.shape_def.proofs.Writing.{with_byte}
use Rattle.shape_def.proofs.identities.push_comma.Goals as goal

pub returns-clause-utf8 : goal.returns-clause-utf8
returns-clause-utf8 c = with_byte _ _ 44 (omega arith) c.in_ok-push.ensures.items
