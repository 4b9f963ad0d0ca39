-- Steps that leave each table's definition as it was declared.
use Rattle.std.specs.Prelude.{◌≡◌, ℕ, Bool, true, false, List, take, Option, None, Some, slice_get}
use Rattle.std.specs.List.{list_all}
use Rattle.shape_base.specs.declared.definition.TableDef.{TableDef}
use Rattle.shape_base.specs.declared.change.Change.{Change}
use Rattle.shape_base.specs.declared.history.Step.{Step}
use Rattle.shape_base.specs.declared.history.Step.TheVariants.{Commit, Define}
use Rattle.shape_base.specs.declared.history.History.{History}
use Rattle.shape_base.specs.Tables.{same_def}

-- the definition is equal to one that is there
abbrev pub is_same : Option TableDef → TableDef → Bool
is_same None d = false
is_same (Some e) d = same_def e d

-- the definition is the one that was declared of its table
abbrev pub is_declared : List TableDef → Option TableDef → Bool
is_declared defs None = true
is_declared defs (Some d) = is_same (slice_get defs d.table) d

-- Each change came under the declared definition, and a new definition is the declared one again.
abbrev pub keeps : List TableDef → Step → Bool
keeps defs (Commit tx) = list_all (λ (c : Change). is_declared defs (slice_get tx.defs c.def)) tx.changes
keeps defs (Define d rows) = is_declared defs (Some d)

-- the first k steps leave each definition as it was declared
abbrev pub IsKeptTo : History → ℕ → Type 0
IsKeptTo h k = list_all (keeps h.defs) (take k h.steps) ≡ true
