use Rattle.std.proofs.Common.{arith}
use Rattle.shape_def.proofs.Writing.{with_byte}
use Rattle.shape_def.proofs.identities.push_table.Goals as goal

pub returns-clause-utf8 : goal.returns-clause-utf8
returns-clause-utf8 c = λ before. c.in_ok-push_name-2.ensures.utf8 (with_byte _ _ 46 (omega arith) c.in_ok-push.ensures.items (c.in_ok-push_name.ensures.utf8 before))
