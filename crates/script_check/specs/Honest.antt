-- When a snapshot is honest for a history whose every commit is known, and why it is not.
use Rattle.std.specs.Prelude.{◌≡◌, ℕ, ◌<◌, ◌≤◌, Bool, true, false, List, map, length, slice_index_or, Some}
use Rattle.std.specs.List.Sorted.{IsPermutation}
use Rattle.shape_base.specs.declared.change.Tx.{Tx}
use Rattle.shape_base.specs.declared.history.Step.{Step}
use Rattle.shape_base.specs.declared.definition.TableDef.{TableDef}
use Rattle.shape_base.specs.declared.history.History.{History}
use Rattle.shape_base.specs.Tables.{commits_of, def_after, table_after}
use Rattle.shape_base.specs.Snapshot.{IsTakenAt, count_at}
use Rattle.shape_base.specs.Visibility.{Visibility, is_visible}
use Rattle.script_check.specs.declared.snapshot.Snapshot as raw

-- the transaction ids of the commits, in order
abbrev pub xids_of : List Step → List ℕ
xids_of steps = map (λ (tx : Tx). tx.xid) (commits_of steps)

-- transaction i of the list, from 0, is visible
abbrev pub shows : Visibility → List ℕ → ℕ → Bool
shows v xids i = is_visible v (slice_index_or xids i 0)

-- just the first c of the transactions are visible
pub record IsPrefixShown (v : Visibility) (xids : List ℕ) (c : ℕ) : Type 0 where
  pub bound : c ≤ length xids
  pub shown : (i : ℕ) → i < c → shows v xids i ≡ true
  pub others : (i : ℕ) → c ≤ i → i < length xids → shows v xids i ≡ false

-- The transaction in this place is visible although one before it is not, and it is the first such.
pub record IsOutOfTurn (v : Visibility) (xids : List ℕ) (place : ℕ) : Type 0 where
  pub there : place < length xids
  pub visible : shows v xids place ≡ true
  pub gap : ℕ
  pub before : gap < place
  pub hidden : shows v xids gap ≡ false
  pub first : (i j : ℕ) → i < j → j < place → shows v xids i ≡ false → shows v xids j ≡ false

-- after the first k steps there were c commits, and the table of d had the definition d
pub record IsDefinedAt (h : History) (d : TableDef) (c k : ℕ) : Type 0 where
  pub there : k ≤ length h.steps
  pub commits : count_at h k ≡ c
  pub definition : def_after h d.table k ≡ Some d

-- The snapshot was taken after the first k steps: it shows just the commits among them, and its definition and its rows, up to their order, are the table's then.
pub record IsHonestAt (h : History) (s : raw.Snapshot) (k : ℕ) : Type 0 where
  pub there : k ≤ length h.steps
  pub shown : IsPrefixShown s.visibility (xids_of h.steps) (count_at h k)
  pub taken : IsTakenAt h s.definition s.rows k

-- the commits that it shows are the first c, and after them the table never has its definition
pub record IsOtherDefinition (h : History) (s : raw.Snapshot) : Type 0 where
  pub count : ℕ
  pub shown : IsPrefixShown s.visibility (xids_of h.steps) count
  pub other : (k : ℕ) → IsDefinedAt h s.definition count k → ⊥

-- The commits that it shows are the first c. After them the table has its definition at some step, and its rows at none of these.
pub record HasOtherRows (h : History) (s : raw.Snapshot) : Type 0 where
  pub count : ℕ
  pub shown : IsPrefixShown s.visibility (xids_of h.steps) count
  pub step : ℕ
  pub defined : IsDefinedAt h s.definition count step
  pub other : (k : ℕ) → IsDefinedAt h s.definition count k → IsPermutation (table_after h s.definition.table k) s.rows → ⊥
