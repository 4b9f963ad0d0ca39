-- Tests of what a good history owes, one table at a time.
use Rattle.std.specs.Prelude.{ℕ, Bool, true, false, ◌||◌, ◌==◌, if◌then◌else◌, List, [], ◌∷◌, length, map, Option, None, Some, slice_get}
use Rattle.std.specs.Option.{option_map, option_and_then}
use Rattle.std.specs.List.{list_any, list_all, flat_map}
use Rattle.shape_base.specs.declared.value.Value.{Value}
use Rattle.shape_base.specs.declared.definition.TableDef.{TableDef}
use Rattle.shape_base.specs.declared.change.Change.{Change}
use Rattle.shape_base.specs.declared.change.Tx.{Tx}
use Rattle.shape_base.specs.declared.change.ChangeKind.{ChangeKind}
use Rattle.shape_base.specs.declared.change.ChangeKind.TheVariants.{Insert, Update, Delete, Truncate}
use Rattle.shape_base.specs.declared.served.Served.{Served}
use Rattle.shape_base.specs.declared.history.Step.{Step}
use Rattle.shape_base.specs.declared.history.Step.TheVariants.{Commit, Define}
use Rattle.shape_base.specs.Tables.{Values, Table, Own, same_text, same_row, same_def, changed, changes_of, since_changes, key_places, key_values, lacks_key}
use Rattle.shape_base.specs.Shape.{quoted, words_of}
use Rattle.shape_model.specs.declared.checks.Standing.{Standing}

-- the key values of a row as one text, as in its key text
abbrev pub value_text : Value → List ℕ
value_text v = 47 ∷ quoted (words_of v)

abbrev pub values_text : List ℕ → Values → List ℕ
values_text key row = flat_map value_text (key_values key row)

-- each text is new: it was not seen before, and does not come twice
abbrev pub are_new : (List ℕ → Bool) → List (List ℕ) → Bool
are_new seen [] = true
are_new seen (x ∷ xs) = if seen x then false else are_new (λ q. same_text q x || seen q) xs

abbrev pub are_keyed : List ℕ → Table → Bool
are_keyed key rows = if list_any (lacks_key key) rows then false else are_new (λ q. false) (map (values_text key) rows)

abbrev pub fit_key : Option (List ℕ) → Table → Bool
fit_key None rows = true
fit_key (Some key) rows = are_keyed key rows

-- each row is as wide as the definition
abbrev pub are_wide : TableDef → Table → Bool
are_wide d rows = list_all (λ row. length row == length d.columns) rows

-- the rows may stand under the definition
abbrev pub fit_def : Served → TableDef → Table → Bool
fit_def served d rows = if are_wide d rows then fit_key (key_places served d) rows else false

abbrev pub is_old_there : ChangeKind → Table → Bool
is_old_there (Insert new) rows = true
is_old_there (Update old new) rows = list_any (same_row old) rows
is_old_there (Delete old) rows = list_any (same_row old) rows
is_old_there Truncate rows = true

abbrev pub if_fit : Served → TableDef → Table → Option Table
if_fit served d rows = if fit_def served d rows then Some rows else None

-- a change that came under this definition, where there is one, is one of table t
abbrev pub is_own : ℕ → Option TableDef → Bool
is_own t None = false
is_own t (Some d) = d.table == t

-- the transaction has a change of table t
abbrev pub touches : ℕ → Tx → Bool
touches t tx = list_any (λ (c : Change). is_own t (slice_get tx.defs c.def)) tx.changes

-- the table after a change, where the change is good
abbrev pub check_change : Served → TableDef → TableDef → ChangeKind → Table → Option Table
check_change served d came kind rows = if same_def came d then (if is_old_there kind rows then if_fit served d (changed kind rows) else None) else None

-- the table after changes, where all are good
abbrev pub check_changes : Served → TableDef → List Own → Table → Option Table
check_changes served d [] rows = Some rows
check_changes served d (c ∷ cs) rows = option_and_then (check_changes served d cs) (check_change served d c.definition c.kind rows)

abbrev pub check_define : Served → TableDef → Table → Standing → Option Standing
check_define served e new s = if list_any (same_def e) s.since then None else (if fit_def served e new then Some (record { def = e; rows = new; since = e ∷ s.since }) else None)

-- how the table stands after a step, where the step is good for it
abbrev pub check_step : Served → ℕ → Step → Standing → Option Standing
check_step served t (Commit tx) s = option_map (λ rows. record { def = s.def; rows = rows; since = since_changes (changes_of t tx) s.def s.since }) (check_changes served s.def (changes_of t tx) s.rows)
check_step served t (Define e new) s = if e.table == t then check_define served e new s else Some s

abbrev pub check_steps : Served → ℕ → List Step → Standing → Option Standing
check_steps served t [] s = Some s
check_steps served t (x ∷ ss) s = option_and_then (check_steps served t ss) (check_step served t x s)
