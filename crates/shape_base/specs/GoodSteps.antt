-- A good history, said of each step.
use Rattle.std.specs.Prelude.{◌≡◌, ℕ, ◌≤◌, Bool, true, false, not, take, drop, length, map, Some, IfSome, slice_get}
use Rattle.std.specs.List.{list_any, AllByRecursion, range_with_len}
use Rattle.shape_base.specs.declared.definition.TableDef.{TableDef}
use Rattle.shape_base.specs.declared.served.Served.{Served}
use Rattle.shape_base.specs.declared.change.Tx.{Tx}
use Rattle.shape_base.specs.declared.history.Step.{Step}
use Rattle.shape_base.specs.declared.history.Step.TheVariants.{Commit, Define}
use Rattle.shape_base.specs.declared.history.History.{History}
use Rattle.shape_base.specs.Tables.{Table, same_def, changes_of, table_after, def_after, FitsDef, AreGoodChanges, IsStepInRange, RiseFrom}

-- the step is a commit with a change of table t under another definition than d
abbrev pub changes_otherwise : ℕ → TableDef → Step → Bool
changes_otherwise t d (Commit tx) = list_any (λ c. not (same_def c.definition d)) (changes_of t tx)
changes_otherwise t d (Define e rows) = false

-- such a step stands among those past the first i, up to the first k
abbrev pub stands_between : History → ℕ → TableDef → ℕ → ℕ → Bool
stands_between h t d i k = list_any (changes_otherwise t d) (drop i (take k h.steps))

-- Table t of a good history, step by step; `slice_get h.steps k` is the step past the first k.
pub record IsGoodTableByStep (h : History) (t : ℕ) (served : Served) : Type 0 where
  -- the rows of the base may stand under the definition declared first
  pub base : (d : TableDef) → def_after h t 0 ≡ Some d → FitsDef served d (table_after h t 0)
  -- the changes of each commit are good, from the table and its definition just before it
  pub commits : (k : ℕ) (tx : Tx) (d : TableDef) → slice_get h.steps k ≡ Some (Commit tx) → def_after h t k ≡ Some d → AreGoodChanges served d (changes_of t tx) (table_after h t k)
  -- the rows of each new definition may stand under it
  pub defines : (k : ℕ) (d : TableDef) (rows : Table) → slice_get h.steps k ≡ Some (Define d rows) → d.table ≡ t → FitsDef served d rows
  -- where a definition comes back, a change of the table under another definition stands between
  pub returns : (i k : ℕ) (d : TableDef) (rows : Table) → i ≤ k → slice_get h.steps k ≡ Some (Define d rows) → d.table ≡ t → def_after h t i ≡ Some d → stands_between h t d i k ≡ true

-- A good history, where each table is good step by step.
pub record IsGoodByStep (h : History) : Type 0 where
  pub bases : length h.base ≡ length h.tables
  pub placed : map (λ (d : TableDef). d.table) h.defs ≡ range_with_len 0 (length h.tables)
  pub served : AllByRecursion (IsStepInRange (length h.tables)) h.steps
  pub rise : RiseFrom 0 h.steps
  pub good : (t : ℕ) → IfSome (slice_get h.tables t) (λ served. IsGoodTableByStep h t served)
