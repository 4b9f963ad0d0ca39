-- Tests of what a good history owes as a whole: its tables are in their places, and its commits in order.
use Rattle.std.specs.Prelude.{ℕ, ◌+◌, Bool, true, false, ◌==◌, nat_lt, if◌then◌else◌, List, [], ◌∷◌, length, Option, None, Some, slice_get}
use Rattle.std.specs.Option.{option_and_then}
use Rattle.std.specs.List.{list_all}
use Rattle.shape_base.specs.declared.definition.TableDef.{TableDef}
use Rattle.shape_base.specs.declared.change.Change.{Change}
use Rattle.shape_base.specs.declared.history.Step.{Step}
use Rattle.shape_base.specs.declared.history.Step.TheVariants.{Commit, Define}
use Rattle.shape_base.specs.declared.history.History.{History}

-- the definitions stand in their places, from place i on
abbrev pub are_placed : ℕ → List TableDef → Bool
are_placed i [] = true
are_placed i (d ∷ ds) = if d.table == i then are_placed (i + 1) ds else false

-- there is a base and a definition for each served table
abbrev pub is_whole : History → Bool
is_whole h = if length h.base == length h.tables then (if length h.defs == length h.tables then are_placed 0 h.defs else false) else false

-- there is a definition, and it is one of a served table
abbrev pub is_served : ℕ → Option TableDef → Bool
is_served tables None = false
is_served tables (Some d) = nat_lt d.table tables

-- the last LSN after a step, where the step is in order
abbrev pub check_order : ℕ → Step → ℕ → Option ℕ
check_order tables (Commit tx) low = if nat_lt low tx.lsn then (if list_all (λ (c : Change). is_served tables (slice_get tx.defs c.def)) tx.changes then Some tx.lsn else None) else None
check_order tables (Define d rows) low = if nat_lt d.table tables then Some low else None

abbrev pub check_orders : ℕ → List Step → ℕ → Option ℕ
check_orders tables [] low = Some low
check_orders tables (x ∷ ss) low = option_and_then (check_orders tables ss) (check_order tables x low)
