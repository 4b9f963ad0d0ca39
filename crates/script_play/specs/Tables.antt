-- The served tables, and their catalogue, of the tables that a script declares.
use Rattle.std.specs.Prelude.{◌≡◌, ℕ, ◌+◌, ◌<◌, true, List, [], ◌∷◌, length, map}
use Rattle.shape_base.specs.declared.definition.Column.{Column}
use Rattle.shape_base.specs.declared.definition.TableDef.{TableDef}
use Rattle.shape_base.specs.declared.served.Served.{Served}
use Rattle.script.specs.declared.table.Declaration.{Declaration}
use Rattle.script.specs.Tables.{is_key}
use Rattle.script_play.specs.declared.steps.Step.{Step}
use Rattle.script_play.specs.declared.steps.Step.TheVariants as steps

abbrev pub names_of : List Column → List (List ℕ)
names_of columns = map (λ (c : Column). c.name) columns

-- a declared table, as it is served
pub record IsServed (d : Declaration) (s : Served) : Type 0 where
  pub ns : s.ns ≡ d.ns
  pub name : s.name ≡ d.name
  pub key : s.key ≡ names_of d.key

-- the same of each, in order
abbrev pub AreServed : List Declaration → List Served → Type 0
AreServed [] [] = Unit {0}
AreServed [] (s ∷ ss) = ⊥
AreServed (d ∷ ds) [] = ⊥
AreServed (d ∷ ds) (s ∷ ss) = IsServed d s × AreServed ds ss

-- the first definitions of tables, the first of which stands in a place
abbrev pub catalog_of : ℕ → List Declaration → List TableDef
catalog_of place [] = []
catalog_of place (d ∷ ds) = record { table = place; oid = d.oid; columns = d.columns } ∷ catalog_of (place + 1) ds

-- the key has a column, and none twice
abbrev pub HasKey : Declaration → Type 0
HasKey d = is_key d.key ≡ true

abbrev pub HasFewColumns : Declaration → Type 0
HasFewColumns d = length d.columns < 4294967296

-- the key of a table that a record declares
abbrev pub StepHasKey : Step → Type 0
StepHasKey (steps.Declares d) = HasKey d
StepHasKey steps.Passes = Unit {0}
StepHasKey (steps.Brings e) = Unit {0}
StepHasKey steps.Ends = Unit {0}
StepHasKey (steps.Refused cause) = Unit {0}
