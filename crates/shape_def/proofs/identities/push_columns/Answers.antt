use Rattle.std.specs.Prelude.{codes}
use Rattle.shape_def.proofs.Writing.{with_part, columns_utf8}
use Rattle.shape_def.proofs.identities.push_columns.Goals as goal

pub returns-in-Some-clause-utf8 : goal.returns-in-Some-clause-utf8
returns-in-Some-clause-utf8 c = λ before. c.in_ok-push_names.ensures.utf8 (with_part _ (codes " columns ") _ c.in_ok-extend_from_slice.ensures.items columns_utf8 before)
