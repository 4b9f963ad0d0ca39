-- What a shape's definition is, and why there is none.
use Rattle.std.specs.Prelude.{◌≡◌, ℕ, ◌+◌, Bool, true, false, not, ◌||◌, if◌then◌else◌, List, [], ◌∷◌, Option, None, Some, is_none, slice_get}
use Rattle.std.specs.Option.{option_or, option_map}
use Rattle.std.specs.List.{list_any}
use Rattle.shape_base.specs.declared.definition.Column.{Column}
use Rattle.shape_base.specs.declared.definition.TableDef.{TableDef}
use Rattle.shape_base.specs.declared.served.Served.{Served}
use Rattle.shape_base.specs.Tables.{same_text, place_of, key_places}
use Rattle.shape_base.specs.Shape.{Knows}
use Rattle.column_names.specs.Names.{has_name_twice}
use Rattle.shape_def.specs.declared.faults.DefError.{DefError}
use Rattle.shape_def.specs.declared.faults.DefError.TheVariants as errors
use Rattle.shape_def.specs.Identity.{Names}
use Rattle.shape_def.specs.Clauses.{truth_under, refusal_of_clause}

-- the column is chosen; where no columns are chosen all are
abbrev pub is_chosen : Option Names → List ℕ → Bool
is_chosen None name = true
is_chosen (Some names) name = list_any (same_text name) names

-- the places of the columns whose names pass; the first column has place i
abbrev pub places_from : (List ℕ → Bool) → ℕ → List Column → List ℕ
places_from passes i [] = []
places_from passes i (c ∷ cs) = if passes c.name then i ∷ places_from passes (i + 1) cs else places_from passes (i + 1) cs

-- the places of the chosen columns, in the definition's order
abbrev pub selected_places : TableDef → Option Names → List ℕ
selected_places d chosen = places_from (is_chosen chosen) 0 d.columns

-- the definition lacks a key column, or two of its columns have one name
abbrev pub is_key_missing : Served → TableDef → Bool
is_key_missing served d = has_name_twice d.columns || is_none (key_places served d)

-- a chosen name has no place
abbrev pub has_strange_name : (List ℕ → Option ℕ) → Option Names → Bool
has_strange_name place None = false
has_strange_name place (Some names) = list_any (λ name. is_none (place name)) names

-- a key column is not chosen
abbrev pub leaves_out : (List ℕ → Bool) → Names → Bool
leaves_out passes key = list_any (λ name. not (passes name)) key

-- why columns cannot be chosen
abbrev pub refusal_of_choice : (List ℕ → Option ℕ) → Names → Option Names → Option DefError
refusal_of_choice place key chosen =
    if has_strange_name place chosen then Some (errors.UnknownColumn None) else
    if leaves_out (is_chosen chosen) key then Some errors.KeyNotSelected else None

-- The first refusal, in their order: the key, the chosen columns, the clause.
abbrev pub refusal_of : Served → TableDef → Option Names → Option (List ℕ) → Option DefError
refusal_of served d chosen clause =
    if is_key_missing served d then Some errors.KeyMissing else
    option_or (refusal_of_choice (place_of d.columns) served.key chosen) (refusal_of_clause d.columns clause)

-- an error is this refusal; want of memory may come always
abbrev pub IsRefusal : Option DefError → DefError → Type 0
IsRefusal refusal errors.OutOfMemory = Unit {0}
IsRefusal refusal errors.KeyMissing = refusal ≡ Some errors.KeyMissing
IsRefusal refusal (errors.UnknownColumn atom) = refusal ≡ Some (errors.UnknownColumn atom)
IsRefusal refusal errors.KeyNotSelected = refusal ≡ Some errors.KeyNotSelected
IsRefusal refusal (errors.Syntax place) = refusal ≡ Some (errors.Syntax place)
IsRefusal refusal (errors.TooDeep place) = refusal ≡ Some (errors.TooDeep place)
IsRefusal refusal (errors.TypeMismatch atom) = refusal ≡ Some (errors.TypeMismatch atom)
IsRefusal refusal (errors.BadLiteral atom) = refusal ≡ Some (errors.BadLiteral atom)

-- what a definition of these parts knows
abbrev pub knows_of : Served → TableDef → List ℕ → List ℕ → Option (List ℕ) → Knows
knows_of served d key selected clause = record { served = served; definition = d; key = key; selected = selected; truth = truth_under d.columns clause }

-- It knows the served table, its definition, the places of its key and of the chosen columns, and the truth of each row; nothing was refused.
pub record IsDefined (s : Knows) (table : Served) (d : TableDef) (chosen : Option Names) (clause : Option (List ℕ)) : Type 0 where
  pub served : s.served ≡ table
  pub definition : s.definition ≡ d
  pub key : key_places table d ≡ Some s.key
  pub selected : s.selected ≡ selected_places d chosen
  pub truth : s.truth ≡ truth_under d.columns clause
  pub allowed : refusal_of table d chosen clause ≡ None

-- what a definition knows where this refuses it
abbrev pub knows_by : Served → TableDef → Option Names → Option (List ℕ) → Option DefError → Option Knows
knows_by served d chosen clause (Some error) = None
knows_by served d chosen clause None = option_map (λ key. knows_of served d key (selected_places d chosen) clause) (key_places served d)

abbrev pub knows_with : TableDef → Option Names → Option (List ℕ) → Option Served → Option Knows
knows_with d chosen clause None = None
knows_with d chosen clause (Some served) = knows_by served d chosen clause (refusal_of served d chosen clause)

-- What the definition for a request knows: over the served table in a place, its definition, the chosen columns and the clause; nothing where it is refused.
unfoldable pub knows_for : List Served → ℕ → TableDef → Option Names → Option (List ℕ) → Option Knows
knows_for tables table d chosen clause = knows_with d chosen clause (slice_get tables table)
