-- A request that nothing refuses, and whose table is served and defined, has a reader.
use Rattle.std.proofs.Common.{◌≡◌, ℕ, zero, suc, ◌<◌, Bool, true, false, ◌||◌, List, [], ◌∷◌, length, refl, sym, ◌∙◌, ap, subst, arith, Option, None, Some}
use Rattle.std.specs.Bool.{if◌then◌else◌}
use Rattle.std.specs.Option.{option_map, option_and_then, option_or}
use Rattle.std.specs.Prelude.{is_none, slice_get, slice_set}
use Rattle.shape_base.specs.declared.ask.Ask.{Ask}
use Rattle.shape_base.specs.declared.definition.TableDef.{TableDef}
use Rattle.shape_base.specs.declared.registry_event.RegistryEvent.{RegistryEvent}
use Rattle.shape_base.specs.declared.served.Served.{Served}
use Rattle.shape_base.specs.Tables.{place_of, key_places}
use Rattle.shape_base.specs.Shape.{Knows}
use Rattle.shape_base.specs.RegistryHistory.{redefinitions, redefined, catalog_after, definition_after}
use Rattle.shape_json.specs.ShapeHistory.{Reader}
use Rattle.shape_def.specs.declared.faults.DefError.{DefError}
use Rattle.shape_def.specs.declared.faults.DefError.TheVariants as errors
use Rattle.shape_def.specs.Identity.{Names}
use Rattle.shape_def.specs.Clauses.{unread_under, refusal_of_clause}
use Rattle.shape_def.specs.Definition.{selected_places, is_key_missing, refusal_of_choice, refusal_of, knows_of, knows_by, knows_with, knows_for}
use Rattle.http_edge.specs.Lawful.{definition_code, refusal_under, refusal_of_limit, refusal_to_register}
use Rattle.column_names.specs.Names.{has_name_twice}
use Rattle.core_law.specs.Situation.{Options, Server, known_of, reader_under, reader_for}
use Rattle.core_law.specs.Reached.{HasTable}

-- ---- a catalogue keeps its length

length_set : {A : Type 0} (xs : List A) (i : ℕ) (x : A) → length (slice_set xs i x) ≡ length xs
length_set [] i x = refl
length_set (y ∷ ys) zero x = refl
length_set (y ∷ ys) (suc i) x = ap (λ n. suc n) (length_set ys i x)

length_all : (defs news : List TableDef) → length (redefined defs news) ≡ length defs
length_all defs [] = refl
length_all defs (d ∷ news) = length_all (slice_set defs d.table d) news ∙ length_set defs d.table d

pub catalog_length : (first : List TableDef) (es : List RegistryEvent) → length (catalog_after first es) ≡ length first
catalog_length first es = length_all first (redefinitions es)

-- what stands in a place
record There {A : Type 0} (o : Option A) : Type 0 where
  item : A
  is : o ≡ Some item

there_at : {A : Type 0} (xs : List A) (i : ℕ) → i < length xs → There (slice_get xs i)
there_at [] i h = absurd (omega (arith, h))
there_at (x ∷ xs) zero h = record { item = x; is = refl }
there_at (x ∷ xs) (suc i) h = there_at xs i (omega (arith, h))

-- ---- definitions

first_none : {A : Type 0} (a b : Option A) → option_or a b ≡ None → a ≡ None
first_none None b e = refl
first_none (Some x) b e = cc

none_mapped : {A B : Type 0} (f : A → B) (o : Option A) → option_map f o ≡ None → o ≡ None
none_mapped f None e = refl
none_mapped f (Some x) e = cc

second_false : (a b : Bool) → (a || b) ≡ false → b ≡ false
second_false true b e = cc
second_false false b e = e

some_places : (places : Option (List ℕ)) → is_none places ≡ false → places ≡ None → ⊥
some_places None e h = cc
some_places (Some key) e h = cc

keyed_if : (served : Served) (d : TableDef) (missing : Bool) (error : DefError) (rest : Option DefError) → is_key_missing served d ≡ missing → (if missing then Some error else rest) ≡ None → key_places served d ≡ None → ⊥
keyed_if served d true error rest is e none = cc
keyed_if served d false error rest is e none = some_places (key_places served d) (second_false (has_name_twice d.columns) (is_none (key_places served d)) is) none

-- a definition that is not refused has its key
keyed : (served : Served) (d : TableDef) (chosen : Option Names) (clause : Option (List ℕ)) → refusal_of served d chosen clause ≡ None → key_places served d ≡ None → ⊥
keyed served d chosen clause allowed none = keyed_if served d (is_key_missing served d) errors.KeyMissing (option_or (refusal_of_choice (place_of d.columns) served.key chosen) (refusal_of_clause d.columns clause)) refl allowed none

known_by : (served : Served) (d : TableDef) (chosen : Option Names) (clause : Option (List ℕ)) (refused : Option DefError) → refusal_of served d chosen clause ≡ refused → refused ≡ None → knows_by served d chosen clause refused ≡ None → ⊥
known_by served d chosen clause (Some error) is allowed e = cc
known_by served d chosen clause None is allowed e = keyed served d chosen clause is (none_mapped (λ key. knows_of served d key (selected_places d chosen) clause) (key_places served d) e)

known : (tables : List Served) (table : ℕ) (served : Served) (d : TableDef) (chosen : Option Names) (clause : Option (List ℕ)) → slice_get tables table ≡ Some served → refusal_of served d chosen clause ≡ None → knows_for tables table d chosen clause ≡ None → ⊥
unfolding knows_for
known tables table served d chosen clause at allowed e = known_by served d chosen clause (refusal_of served d chosen clause) refl allowed (ap (knows_with d chosen clause) (sym at) ∙ e)

-- ---- requests

pub has_reader : (o : Options) (v : Server) (ask : Ask) → HasTable o ask → refusal_to_register (known_of o v) v.registry ask ≡ None → reader_for o v.registry ask ≡ None → ⊥
has_reader o v ask has allowed none =
    let served = there_at o.tables ask.table has.served in
    let d = there_at (catalog_after o.catalog v.registry) ask.table (subst (λ n. ask.table < n) (sym (catalog_length o.catalog v.registry)) has.defined) in
    let first : refusal_under ask (slice_get o.tables ask.table) (definition_after o.catalog v.registry ask.table) ≡ None = first_none _ (refusal_of_limit (known_of o v) v.registry) allowed in
    let under : option_map definition_code (refusal_of served.item d.item ask.columns ask.clause) ≡ None = ap (λ found. refusal_under ask found (Some d.item)) (sym served.is) ∙ ap (refusal_under ask (slice_get o.tables ask.table)) (sym d.is) ∙ first in
    let reads : reader_under o ask d.item ≡ None = ap (option_and_then (reader_under o ask)) (sym d.is) ∙ none in
    known o.tables ask.table served.item d.item ask.columns ask.clause served.is (none_mapped definition_code (refusal_of served.item d.item ask.columns ask.clause) under)
    (none_mapped {B = Reader} (λ (knows : Knows). record { knows = knows; unread = unread_under knows.definition.columns ask.clause }) (knows_for o.tables ask.table d.item ask.columns ask.clause) reads)
