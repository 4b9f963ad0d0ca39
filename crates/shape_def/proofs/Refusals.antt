-- Refusals in their order.
use Rattle.std.proofs.Common.{◌≡◌, ◌<◌, length, get_or, Result, Ok, Err, IfOk, IfSome, ℕ, Bool, true, false, List, refl, sym, ◌∙◌, ap, subst, Option, None, Some, is_none, ◌||◌}
use Rattle.std.proofs.lemmas.Bool.{or_right}
use Rattle.std.specs.Bool.{if◌then◌else◌}
use Rattle.std.specs.Option.{option_or, option_map}
use Rattle.std.specs.List.{slice_get}
use Rattle.std.specs.Result.{IfErr}
use Rattle.std.proofs.lemmas.Option.{slice_get-get_or}
use Rattle.shape_base.specs.declared.definition.Column.{Column}
use Rattle.shape_base.specs.declared.definition.TableDef.{TableDef}
use Rattle.shape_base.specs.declared.served.Served.{Served}
use Rattle.shape_base.specs.Tables.{place_of, places_of, key_places}
use Rattle.column_names.specs.Names.{has_name_twice}
use Rattle.shape_def.specs.declared.faults.DefError.{DefError}
use Rattle.shape_def.specs.declared.faults.DefError.TheVariants as errors
use Rattle.shape_def.specs.Identity.{Names}
use Rattle.shape_def.specs.Clauses.{refusal_of_clause, truth_under}
use Rattle.shape_def.specs.Definition.{is_chosen, places_from, is_key_missing, has_strange_name, leaves_out, refusal_of_choice, refusal_of, IsRefusal, knows_of, IsDefined, selected_places, knows_by, knows_with, knows_for}
use Rattle.shape_base.specs.Shape.{IsTest, Knows}
use Rattle.shape_def.proofs.Lawful.{is_lawful}

-- a definition with its key, and one without
pub key_there : (served : Served) (d : TableDef) (key : List ℕ) → key_places served d ≡ Some key → has_name_twice d.columns ≡ false → is_key_missing served d ≡ false
key_there served d key is once = rw (once, is) refl

pub key_lacks : (served : Served) (d : TableDef) → key_places served d ≡ None → is_key_missing served d ≡ true
key_lacks served d is = ap (λ (o : Option (List ℕ)). has_name_twice d.columns || is_none o) is ∙ or_right (has_name_twice d.columns) true refl

pub key_twice : (served : Served) (d : TableDef) → has_name_twice d.columns ≡ true → is_key_missing served d ≡ true
key_twice served d h = rw h refl

abbrev pub IsKeyRefusal : Served → TableDef → DefError → Type 0
IsKeyRefusal served d e = IsRefusal (if is_key_missing served d then Some errors.KeyMissing else None) e

pub key_refused : (served : Served) (d : TableDef) → is_key_missing served d ≡ true → IsKeyRefusal served d errors.KeyMissing
key_refused served d h = rw h refl

-- nothing is refused
none_refused : (e : DefError) (other : Option DefError) → IsRefusal None e → IsRefusal other e
none_refused errors.OutOfMemory other h = tt
none_refused errors.KeyMissing other h = cc
none_refused (errors.UnknownColumn atom) other h = cc
none_refused errors.KeyNotSelected other h = cc
none_refused (errors.Syntax place) other h = cc
none_refused (errors.TooDeep place) other h = cc
none_refused (errors.TypeMismatch atom) other h = cc
none_refused (errors.BadLiteral atom) other h = cc

by_key : (missing : Bool) (other : Option DefError) (e : DefError) → IsRefusal (if missing then Some errors.KeyMissing else None) e → IsRefusal (if missing then Some errors.KeyMissing else other) e
by_key true other e h = h
by_key false other e h = none_refused e other h

first_refused : (r s : Option DefError) (e : DefError) → IsRefusal r e → IsRefusal (option_or r s) e
first_refused None s e h = none_refused e s h
first_refused (Some x) s e h = h

abbrev pub Refused : Served → TableDef → Option Names → Option (List ℕ) → DefError → Type 0
Refused served d chosen clause e = IsRefusal (refusal_of served d chosen clause) e

pub refused_by_key : (served : Served) (d : TableDef) (chosen : Option Names) (clause : Option (List ℕ)) (e : DefError) → IsKeyRefusal served d e → Refused served d chosen clause e
refused_by_key served d chosen clause e h = by_key (is_key_missing served d) _ e h

past_key : (served : Served) (d : TableDef) (chosen : Option Names) (clause : Option (List ℕ)) → is_key_missing served d ≡ false → refusal_of served d chosen clause ≡ option_or (refusal_of_choice (place_of d.columns) served.key chosen) (refusal_of_clause d.columns clause)
past_key served d chosen clause h = rw h refl

pub refused_by_choice : (served : Served) (d : TableDef) (key : List ℕ) (chosen : Option Names) (clause : Option (List ℕ)) (place : List ℕ → Option ℕ) (e : DefError) → place ≡ place_of d.columns → key_places served d ≡ Some key → has_name_twice d.columns ≡ false
    → IsRefusal (refusal_of_choice place served.key chosen) e → Refused served d chosen clause e
refused_by_choice served d key chosen clause place e same is once h =
    let choice : IsRefusal (refusal_of_choice (place_of d.columns) served.key chosen) e = subst (λ (f : List ℕ → Option ℕ). IsRefusal (refusal_of_choice f served.key chosen) e) same h in
    subst (λ r. IsRefusal r e) (sym (past_key served d chosen clause (key_there served d key is once))) (first_refused _ (refusal_of_clause d.columns clause) e choice)

past_choice : (served : Served) (d : TableDef) (key : List ℕ) (chosen : Option Names) (clause : Option (List ℕ)) (place : List ℕ → Option ℕ) → place ≡ place_of d.columns → key_places served d ≡ Some key → has_name_twice d.columns ≡ false
    → refusal_of_choice place served.key chosen ≡ None → refusal_of served d chosen clause ≡ refusal_of_clause d.columns clause
past_choice served d key chosen clause place same is once none =
    past_key served d chosen clause (key_there served d key is once)
    ∙ ap (λ r. option_or r (refusal_of_clause d.columns clause)) (ap (λ (f : List ℕ → Option ℕ). refusal_of_choice f served.key chosen) (sym same) ∙ none)

pub refused_by_clause : (served : Served) (d : TableDef) (key : List ℕ) (chosen : Option Names) (clause : Option (List ℕ)) (place : List ℕ → Option ℕ) (e : DefError) → place ≡ place_of d.columns → key_places served d ≡ Some key → has_name_twice d.columns ≡ false
    → refusal_of_choice place served.key chosen ≡ None → IsRefusal (refusal_of_clause d.columns clause) e → Refused served d chosen clause e
refused_by_clause served d key chosen clause place e same is once none h = subst (λ r. IsRefusal r e) (sym (past_choice served d key chosen clause place same is once none)) h

-- what choosing allows
none_left : (strange left : Bool) → (if strange then Some (errors.UnknownColumn None) else if left then Some errors.KeyNotSelected else None) ≡ None → left ≡ false
none_left true left h = cc
none_left false true h = cc
none_left false false h = refl

key_chosen : (place : List ℕ → Option ℕ) (key : Names) (chosen : Option Names) → refusal_of_choice place key chosen ≡ None → leaves_out (is_chosen chosen) key ≡ false
key_chosen place key chosen h = none_left (has_strange_name place chosen) (leaves_out (is_chosen chosen) key) h

-- what is defined

pub is_defined : (copied served : Served) (d e : TableDef) (key selected : List ℕ) (chosen : Option Names) (clause held : Option (List ℕ)) (place : List ℕ → Option ℕ) → copied ≡ served → e ≡ d → held ≡ clause → place ≡ place_of d.columns → key_places served d ≡ Some key → has_name_twice d.columns ≡ false
    → selected ≡ places_from (is_chosen chosen) 0 d.columns → refusal_of_choice place served.key chosen ≡ None → refusal_of_clause d.columns clause ≡ None → IsDefined (knows_of copied e key selected held) served d chosen clause
is_defined copied served d e key selected chosen clause held place copy same kept finds is once places none allowed = record {
  served = copy;
  definition = same;
  key = is;
  selected = places;
  truth = ap (λ (x : TableDef). truth_under x.columns held) same ∙ ap (λ o. truth_under d.columns o) kept;
  allowed = past_choice served d key chosen clause place finds is once none ∙ allowed;
}

pub is_test : (copied served : Served) (d e : TableDef) (key selected : List ℕ) (chosen : Option Names) (held : Option (List ℕ)) (place : List ℕ → Option ℕ) → copied ≡ served → e ≡ d → key_places served d ≡ Some key → has_name_twice d.columns ≡ false
    → selected ≡ places_from (is_chosen chosen) 0 d.columns → refusal_of_choice place served.key chosen ≡ None → IsTest (knows_of copied e key selected held)
is_test copied served d e key selected chosen held place copy same is once places none = is_lawful copied served d e key selected (is_chosen chosen) held copy same is once places (key_chosen place served.key chosen none)

-- what the places of the key say

pub key_not_found : (served : Served) (d : TableDef) (columns : List Column) (found : Option (List ℕ)) → columns ≡ d.columns → found ≡ places_of columns served.key → found ≡ None → IsKeyRefusal served d errors.KeyMissing
key_not_found served d columns found same by none = key_refused served d (key_lacks served d (ap (λ (cs : List Column). places_of cs served.key) (sym same) ∙ sym by ∙ none))

pub key_found : (served : Served) (d : TableDef) (columns : List Column) (found : Option (List ℕ)) (key : List ℕ) → columns ≡ d.columns → found ≡ places_of columns served.key → found ≡ Some key → key_places served d ≡ Some key
key_found served d columns found key same by is = ap (λ (cs : List Column). places_of cs served.key) (sym same) ∙ sym by ∙ is

-- the served table in a place

served_at : (tables : List Served) (i j : ℕ) (s : Served) → i < length tables → j ≡ i → s ≡ get_or tables j s → slice_get tables i ≡ Some s
served_at tables i j s lt place is = slice_get-get_or tables i s lt ∙ ap (λ (x : Served). Some x) (ap (λ k. get_or tables k s) (sym place) ∙ sym is)

pub defined_at : {A E : Type 0} (r : Result A E) (Q : Served → A → Type 0) (tables : List Served) (i j : ℕ) (s : Served) → i < length tables → j ≡ i → s ≡ get_or tables j s → IfOk r (λ a. Q s a) → IfOk r (λ a. IfSome (slice_get tables i) (λ served. Q served a))
defined_at r Q tables i j s lt place is h = subst (λ (o : Option Served). IfOk r (λ a. IfSome o (λ served. Q served a))) (sym (served_at tables i j s lt place is)) h

pub refused_at : {A E : Type 0} (r : Result A E) (Q : Served → E → Type 0) (tables : List Served) (i j : ℕ) (s : Served) → i < length tables → j ≡ i → s ≡ get_or tables j s → IfErr r (λ e. Q s e) → IfErr r (λ e. IfSome (slice_get tables i) (λ served. Q served e))
refused_at r Q tables i j s lt place is h = subst (λ (o : Option Served). IfErr r (λ e. IfSome o (λ served. Q served e))) (sym (served_at tables i j s lt place is)) h

-- what the definition for a request knows

pub defined_knows : (tables : List Served) (table : ℕ) (served : Served) (d : TableDef) (chosen : Option Names) (clause : Option (List ℕ)) (s : Knows) → slice_get tables table ≡ Some served → IsDefined s served d chosen clause → knows_for tables table d chosen clause ≡ Some s
unfolding knows_for
defined_knows tables table served d chosen clause s is h =
    ap (knows_with d chosen clause) is ∙ ap (knows_by served d chosen clause) h.allowed
    ∙ ap (option_map (λ key. knows_of served d key (selected_places d chosen) clause)) h.key ∙ ap (λ (k : Knows). Some k) same
  where
    same : knows_of served d s.key (selected_places d chosen) clause ≡ s
    same = let table = sym h.served in let columns = sym h.definition in let places = sym h.selected in let truth = sym h.truth in
        λ i. record { served = table i; definition = columns i; key = s.key; selected = places i; truth = truth i }

pub known_at : {A E : Type 0} (r : Result A E) (knows : A → Knows) (tables : List Served) (i j : ℕ) (s : Served) (d : TableDef) (chosen : Option Names) (clause : Option (List ℕ)) → i < length tables → j ≡ i → s ≡ get_or tables j s
    → IfOk r (λ a. IsDefined (knows a) s d chosen clause) → IfOk r (λ a. knows_for tables i d chosen clause ≡ Some (knows a))
known_at (Ok a) knows tables i j s d chosen clause lt place is h = defined_knows tables i s d chosen clause (knows a) (served_at tables i j s lt place is) h
known_at (Err e) knows tables i j s d chosen clause lt place is h = tt
