-- Keys of declared tables, and the tables as they are served.
use Rattle.std.proofs.Common.{◌≡◌, ℕ, zero, suc, ◌+◌, ◌<◌, ◌≤◌, Bool, true, false, List, [], ◌∷◌, length, drop, get_or, refl, sym, ap, subst, arith, Option, None, Some}
use Rattle.std.specs.Prelude.{is_some, if◌then◌else◌, ◌==◌}
use Rattle.std.specs.List.{AllByRecursion}
use Rattle.std.specs.Option.{option_map}
use Rattle.std.proofs.lemmas.Bool.{or_parts}
use Rattle.std.proofs.lemmas.List.{length-map, drop_all}
use Rattle.shape_base.specs.declared.definition.Column.{Column}
use Rattle.shape_base.specs.declared.served.Served.{Served}
use Rattle.shape_base.specs.Tables.{same_text, place_of}
use Rattle.shape_base.proofs.Lemmas.{Decides-same_text}
use Rattle.column_names.specs.Names.{has_name_twice}
use Rattle.script.specs.Tables.{is_key}
use Rattle.script.specs.declared.table.Declaration.{Declaration}
use Rattle.script_play.specs.Tables.{names_of, IsServed, AreServed, HasKey}

place_none : (a n : List ℕ) (o : Option ℕ) (s : Bool) → same_text a n ≡ s → is_some (if s then Some 0 else option_map (λ q. q + 1) o) ≡ false → (same_text a n ≡ false) × (is_some o ≡ false)
place_none a n o true e h = cc
place_none a n None false e h = (e, refl)
place_none a n (Some p) false e h = cc

-- no column has a name that has no place
absent : (cs : List Column) (name d : List ℕ) (j : ℕ) → is_some (place_of cs name) ≡ false → j < length cs → get_or (names_of cs) j d ≡ name → ⊥
absent [] name d j h lt e = absurd (omega arith)
absent (c ∷ cs) name d zero h lt e =
    let parts = place_none name c.name (place_of cs name) (same_text name c.name) refl h in
    let t = (Decides-same_text name c.name).1 (sym e) in cc
absent (c ∷ cs) name d (suc j) h lt e = absent cs name d j (place_none name c.name (place_of cs name) (same_text name c.name) refl h).1 (omega (arith, lt)) e

-- names of which none stands twice
pub differ : (cs : List Column) → has_name_twice cs ≡ false → (i j : ℕ) (d : List ℕ) → i < j → j < length (names_of cs) → get_or (names_of cs) i d ≡ get_or (names_of cs) j d → ⊥
differ [] h i j d lt in_range e = absurd (omega arith)
differ (c ∷ cs) h zero zero d lt in_range e = absurd (omega arith)
differ (c ∷ cs) h zero (suc j) d lt in_range e = absent cs c.name d j (or_parts (is_some (place_of cs c.name)) (has_name_twice cs) h).0 (omega (arith, in_range, length-map cs (λ (x : Column). x.name))) (sym e)
differ (c ∷ cs) h (suc i) zero d lt in_range e = absurd (omega arith)
differ (c ∷ cs) h (suc i) (suc j) d lt in_range e = differ cs (or_parts (is_some (place_of cs c.name)) (has_name_twice cs) h).1 i j d (omega (arith, lt)) (omega (arith, in_range)) e

key_parts : (key : List Column) (none twice : Bool) → (length key == 0) ≡ none → has_name_twice key ≡ twice → (if none then false else if twice then false else true) ≡ true → (0 < length key) × (has_name_twice key ≡ false)
key_parts [] none twice e f h = let g : none ≡ true = sym e in cc
key_parts (c ∷ cs) true twice e f h = cc
key_parts (c ∷ cs) false true e f h = cc
key_parts (c ∷ cs) false false e f h = (omega arith, f)

-- a key has a name, and none twice
pub some_name : (key : List Column) → is_key key ≡ true → 0 < length (names_of key)
some_name key h = omega (arith, (key_parts key _ _ refl refl h).0, length-map key (λ (x : Column). x.name))

pub key_differs : (key : List Column) → is_key key ≡ true → (i j : ℕ) (d : List ℕ) → i < j → j < length (names_of key) → get_or (names_of key) i d ≡ get_or (names_of key) j d → ⊥
key_differs key h = differ key (key_parts key _ _ refl refl h).1

-- ---- tables

pub served_alike : (ds : List Declaration) (ss : List Served) → AreServed ds ss → length ds ≡ length ss
served_alike [] [] a = refl
served_alike [] (s ∷ ss) a = absurd a
served_alike (d ∷ ds) [] a = absurd a
served_alike (d ∷ ds) (s ∷ ss) a = ap suc (served_alike ds ss a.1)

pub none_served : (ds : List Declaration) (n : ℕ) → length ds ≤ n → AreServed (drop n ds) []
none_served ds n h = subst (λ (xs : List Declaration). AreServed xs []) (sym (drop_all n ds h)) tt

-- a table as it is served
pub served_for : (d : Declaration) → HasKey d → (s : Served) × IsServed d s
served_for d h = (record { ns = d.ns; name = d.name; key = names_of d.key; some = some_name d.key h; distinct = key_differs d.key h }, record { ns = refl; name = refl; key = refl })

pub tables_for : (ds : List Declaration) → AllByRecursion HasKey ds → (ss : List Served) × AreServed ds ss
tables_for [] h = ([], tt)
tables_for (d ∷ ds) h = let one = served_for d h.0 in let more = tables_for ds h.1 in (one.0 ∷ more.0, (one.1, more.1))
