-- What a transaction does, and what those who are given one rely on.
use Rattle.std.specs.Prelude.{◌≡◌, ℕ, ◌<◌, List, [], ◌∷◌, length, map, Option, slice_get}
use Rattle.std.specs.List.{AllByRecursion}
use Rattle.std.specs.Option.{IsSomeAnd}
use Rattle.shape_base.specs.declared.definition.TableDef.{TableDef}
use Rattle.shape_base.specs.declared.change.Change.{Change}
use Rattle.shape_base.specs.declared.change.ChangeKind.{ChangeKind}
use Rattle.shape_base.specs.declared.change.ChangeKind.TheVariants.{Insert, Update, Delete, Truncate}
use Rattle.shape_base.specs.declared.change.Tx.{Tx}

-- What it does: its LSN, its id, and its changes, each with the definition under which it came. Where it ends and how large it is says nothing of that.
abbrev pub Meaning : Type 0
Meaning = (ℕ × ℕ) × List (Option TableDef × ChangeKind)

abbrev pub meaning : Tx → Meaning
meaning tx = ((tx.lsn, tx.xid), map (λ (c : Change). (slice_get tx.defs c.def, c.kind)) tx.changes)

-- each row of a change is as wide as its definition
abbrev pub IsAsWide : TableDef → ChangeKind → Type 0
IsAsWide d (Insert new) = length new ≡ length d.columns
IsAsWide d (Update old new) = (length old ≡ length d.columns) × (length new ≡ length d.columns)
IsAsWide d (Delete old) = length old ≡ length d.columns
IsAsWide d Truncate = Unit {0}

-- a change's place of a definition is in range, and its rows are as wide
abbrev pub IsUnder : List TableDef → Change → Type 0
IsUnder defs c = IsSomeAnd (slice_get defs c.def) (λ d. IsAsWide d c.kind)

-- It is whole: each change is under one of its definitions and as wide as it, and it has fewer than 2^63 changes.
pub record IsWhole (tx : Tx) : Type 0 where
  pub under : AllByRecursion (IsUnder tx.defs) tx.changes
  pub few : length tx.changes < 9223372036854775808

-- their LSNs rise strictly, from above this one
abbrev pub LsnsRise : ℕ → List Tx → Type 0
LsnsRise base [] = Unit {0}
LsnsRise base (tx ∷ txs) = (base < tx.lsn) × LsnsRise tx.lsn txs
