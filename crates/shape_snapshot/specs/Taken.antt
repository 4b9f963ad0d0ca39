-- Rows that were taken, and what stays of them.
use Rattle.std.specs.Prelude.{◌≡◌, List, [], ◌∷◌, ◌++◌, ℕ, None}
use Rattle.std.specs.Ordering.{nat_cmp}
use Rattle.std.specs.Cmp.Lexicographic.{slice_cmp}
use Rattle.std.specs.BTreeSet.{contains}
use Rattle.shape_base.specs.declared.limits.Limits.{Limits}
use Rattle.shape_base.specs.Tables.{Table}
use Rattle.shape_json.specs.ShapeHistory.{Reader}
use Rattle.chunked_log.specs.Chunked.{Holds}
use Rattle.shape_snapshot.specs.declared.kept.Kept.{Kept}
use Rattle.shape_snapshot.specs.Refusals.{is_taken_key, log_of, refusal_of}

-- there is no cause to refuse any of the later rows behind those before it
abbrev pub AreAllTaken : Reader → Limits → Table → Table → Type 0
AreAllTaken r l before [] = Unit {0}
AreAllTaken r l before (row ∷ later) = (refusal_of r l before row ≡ None) × AreAllTaken r l (before ++ row ∷ []) later

-- These rows were taken: there was no cause to refuse any, the keys are those of the selected ones, and the log has an insert for each of them, at `0_1`, `0_2` and on.
pub record HasTaken (r : Reader) (l : Limits) (kept : Kept) (rows : Table) : Type 0 where
  pub good : AreAllTaken r l [] rows
  pub keys : (key : List ℕ) → contains (slice_cmp nat_cmp) kept.keys key ≡ is_taken_key r.knows rows key
  pub log : Holds kept.log (log_of r.knows rows)
