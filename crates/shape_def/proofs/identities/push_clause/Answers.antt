use Rattle.std.specs.Prelude.{codes}
use Rattle.shape_def.proofs.Writing.{with_part, where_utf8}
use Rattle.shape_def.proofs.identities.push_clause.Goals as goal

pub returns-in-Some-clause-utf8 : goal.returns-in-Some-clause-utf8
returns-in-Some-clause-utf8 c = λ before. with_part _ c.as_bytes-words.result.now _ c.in_ok-extend_from_slice-2.ensures.items c.as_bytes-words.ensures.utf8 (with_part _ (codes " where ") _ c.in_ok-extend_from_slice.ensures.items where_utf8 before)
