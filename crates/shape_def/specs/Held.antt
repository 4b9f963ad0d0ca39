-- A definition of a table with a clause over its columns.
use Rattle.std.specs.Prelude.{◌≡◌, ℕ, List, Option, None, Some, Ok}
use Rattle.shape_base.specs.declared.definition.Column.{Column}
use Rattle.shape_base.specs.declared.definition.TableDef.{TableDef}
use Rattle.where_grammar.specs.Tree.{Tree}
use Rattle.where_eval.specs.declared.checked.Checked.{Checked}
use Rattle.where_eval.specs.Checked.{IsChecked}
use Rattle.shape_def.specs.Clauses.{answer_in}

-- a definition, and a clause's text
pub record Conditioned : Type 0 where
  pub definition : TableDef
  pub clause : Option (List ℕ)

-- what was checked is the clause of this text over these columns
pub record IsHeldFor (c : List Column) (text : List ℕ) (held : Checked) : Type 0 where
  pub tree : Tree
  pub read : answer_in text ≡ Ok tree
  pub checked : IsChecked held c tree

-- a clause is there exactly where what was checked is
abbrev pub IsHeld : List Column → Option (List ℕ) → Option Checked → Type 0
IsHeld c None None = Unit {0}
IsHeld c None (Some checked) = ⊥
IsHeld c (Some text) None = ⊥
IsHeld c (Some text) (Some checked) = IsHeldFor c text checked
