-- Snapshots of a table, and what they owe a history.
use Rattle.std.specs.Prelude.{◌≡◌, ℕ, zero, suc, ◌+◌, ◌<◌, ◌≤◌, nat_le, Bool, true, false, List, length, take, Option, None, Some, IsSome, IfSome, slice_get}
use Rattle.std.specs.List.Sorted.{IsPermutation}
use Rattle.shape_base.specs.declared.definition.Column.{Column}
use Rattle.shape_base.specs.declared.definition.TableDef.{TableDef}
use Rattle.shape_base.specs.declared.change.Tx.{Tx}
use Rattle.shape_base.specs.declared.history.History.{History}
use Rattle.shape_base.specs.Tables.{Table, table_after, def_after, commits_of}
use Rattle.shape_base.specs.Visibility.{Visibility, is_visible}

-- Which transactions it shows, the OID and columns of its table, and its rows.
pub record Snapshot : Type 0 where
  pub visibility : Visibility
  pub oid : ℕ
  pub columns : List Column
  pub rows : Table

-- the snapshot's definition, where its table is the served table t
abbrev pub definition_in : Snapshot → ℕ → TableDef
definition_in s t = record { table = t; oid = s.oid; columns = s.columns }

-- The rows are those of the table after the first k steps, in any order, and the definition is the table's then.
pub record IsTakenAt (h : History) (d : TableDef) (taken : Table) (k : ℕ) : Type 0 where
  pub definition : def_after h d.table k ≡ Some d
  pub rows : IsPermutation (table_after h d.table k) taken

-- commit n, from 1
abbrev pub commit_at : History → ℕ → Option Tx
commit_at h zero = None
commit_at h (suc n) = slice_get (commits_of h.steps) n

-- how many of the first k steps are commits
abbrev pub count_at : History → ℕ → ℕ
count_at h k = length (commits_of (take k h.steps))

-- commit n is visible exactly where it stands in the first k steps
abbrev pub IsShownRightly : History → Visibility → ℕ → ℕ → Type 0
IsShownRightly h v k n = IfSome (commit_at h n) (λ (tx : Tx). is_visible v tx.xid ≡ nat_le n (count_at h k))

-- The snapshot s of table t was taken after the first k steps, where commit q was the last one taken before (0 for none).
pub record IsHonest (h : History) (t : ℕ) (s : Snapshot) (k q : ℕ) : Type 0 where
  pub taken : IsTakenAt h (definition_in s t) s.rows k
  pub last : 0 < q → IsShownRightly h s.visibility k q
  pub later : q ≤ count_at h k → (n : ℕ) → q < n → n ≤ count_at h k + 1 → IsShownRightly h s.visibility k n

abbrev pub is_tx_visible : Visibility → Option Tx → Bool
is_tx_visible v None = false
is_tx_visible v (Some tx) = is_visible v tx.xid

-- no commit was taken before, or the snapshot shows the last one that was
abbrev pub shows_last : History → Visibility → ℕ → Bool
shows_last h v zero = true
shows_last h v (suc n) = is_tx_visible v (commit_at h (suc n))

-- The snapshot fits the history: for each served table that ever has its definition it is honest, whatever was taken before that it shows.
abbrev pub Fits : History → Snapshot → Type 0
Fits h s = (t : ℕ) → IsSome (slice_get h.tables t) → (i : ℕ) → def_after h t i ≡ Some (definition_in s t)
    → (k : ℕ) × ((q : ℕ) → shows_last h s.visibility q ≡ true → IsHonest h t s k q)
