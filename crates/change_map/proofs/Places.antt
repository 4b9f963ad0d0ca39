-- The places of a test are in range.
use Rattle.std.proofs.Common.{◌≡◌, ℕ, ◌+◌, ◌<◌, Bool, true, false, List, [], ◌∷◌, length, map, refl, sym, subst, arith, Option, None, Some, ◌||◌, ◌==◌}
use Rattle.std.proofs.lemmas.Bool.{and_parts}
use Rattle.std.specs.Prelude.{nat_le, nat_lt}
use Rattle.std.specs.Bool.{if◌then◌else◌}
use Rattle.std.specs.List.{list_any, list_all, AllByRecursion, IsDistinct}
use Rattle.std.proofs.lemmas.Bool.Decides.{nat_tests, Decides-eqb}
use Rattle.std.specs.Ordering.{nat_cmp, is_lt}
use Rattle.std.specs.Cmp.Lexicographic.{slice_cmp}
use Rattle.shape_base.specs.declared.definition.Column.{Column}
use Rattle.shape_base.specs.declared.definition.TableDef.{TableDef}
use Rattle.shape_base.specs.Visibility.{rise_between}
use Rattle.shape_base.specs.Tables.{same_text, place_of, places_of, with_place}
use Rattle.shape_base.specs.Shape.{Knows, IsTest, name_at, put_place, by_name}

-- each place is below n
abbrev pub AreBelow : ℕ → List ℕ → Type 0
AreBelow n ps = AllByRecursion (λ p. p < n) ps

rising_below : (low n : ℕ) (ps : List ℕ) → rise_between low n ps ≡ true → AreBelow n ps
rising_below low n [] h = tt
rising_below low n (p ∷ ps) h =
    let one = and_parts (nat_le low p) _ h in let two = and_parts (nat_lt p n) _ one.1 in
    (grind (arith, nat_tests), rising_below (p + 1) n ps two.1)

pub selected_below : (s : Knows) → IsTest s → AreBelow (length s.definition.columns) s.selected
selected_below s test = rising_below 0 (length s.definition.columns) s.selected test.selected

put_step : (n p q : ℕ) (qs rest : List ℕ) (b : Bool) → p < n → AreBelow n (q ∷ qs) → AreBelow n rest → AreBelow n (if b then p ∷ q ∷ qs else q ∷ rest)
put_step n p q qs rest true h k ih = (h, k)
put_step n p q qs rest false h k ih = (k.0, ih)

put_below : (d : TableDef) (n p : ℕ) (ps : List ℕ) → p < n → AreBelow n ps → AreBelow n (put_place d p ps)
put_below d n p [] h k = (h, tt)
put_below d n p (q ∷ qs) h k = put_step n p q qs (put_place d p qs) (is_lt (slice_cmp nat_cmp (name_at d p) (name_at d q))) h k (put_below d n p qs h k.1)

order_below : (d : TableDef) (n : ℕ) (ps : List ℕ) → AreBelow n ps → AreBelow n (by_name d ps)
order_below d n [] h = tt
order_below d n (p ∷ ps) h = put_below d n p (by_name d ps) h.0 (order_below d n ps h.1)

pub ordered_below : (s : Knows) → IsTest s → AreBelow (length s.definition.columns) (by_name s.definition s.selected)
ordered_below s test = order_below s.definition (length s.definition.columns) s.selected (selected_below s test)

any_step : (n p q : ℕ) (qs : List ℕ) (b : Bool) → (p == q) ≡ b → (b || list_any (λ r. p == r) qs) ≡ true → AreBelow n (q ∷ qs) → (list_any (λ r. p == r) qs ≡ true → p < n) → p < n
any_step n p q qs true e h k ih = subst (λ x. x < n) (sym ((Decides-eqb p q).0 e)) k.0
any_step n p q qs false e h k ih = ih h

any_below : (n p : ℕ) (qs : List ℕ) → list_any (λ q. p == q) qs ≡ true → AreBelow n qs → p < n
any_below n p [] h k = cc
any_below n p (q ∷ qs) h k = any_step n p q qs (p == q) refl h k (λ rest. any_below n p qs rest k.1)

all_below : (n : ℕ) (qs ps : List ℕ) → list_all (λ p. list_any (λ q. p == q) qs) ps ≡ true → AreBelow n qs → AreBelow n ps
all_below n qs [] h k = tt
all_below n qs (p ∷ ps) h k = let both = and_parts (list_any (λ q. p == q) qs) _ h in (any_below n p qs both.0 k, all_below n qs ps both.1 k)

-- the key's places are in range of a row that is as wide as the definition
pub key_in_row : (s : Knows) (n : ℕ) (key : List ℕ) → IsTest s → key ≡ s.key → n ≡ length s.definition.columns → AreBelow n key
key_in_row s n key test is wide = subst (λ ps. AreBelow n ps) (sym is) (subst (λ m. AreBelow m s.key) (sym wide) (all_below (length s.definition.columns) s.selected s.key test.holds_key (selected_below s test)))

some_place : (o : Option ℕ) (os : Option (List ℕ)) (ps : List ℕ) → with_place o os ≡ Some ps → 0 < length ps
some_place None os ps e = cc
some_place (Some p) None ps e = cc
some_place (Some p) (Some qs) ps e = let is : p ∷ qs ≡ ps = cc in subst (λ xs. 0 < length xs) is (omega arith)

some_places : (cs : List Column) (names : List (List ℕ)) (ps : List ℕ) → 0 < length names → places_of cs names ≡ Some ps → 0 < length ps
some_places cs [] ps h e = absurd (omega (arith, h))
some_places cs (name ∷ names) ps h e = some_place (place_of cs name) (places_of cs names) ps e

-- there is a key column
pub some_key : (s : Knows) → IsTest s → 0 < length s.key
some_key s test = some_places s.definition.columns s.served.key s.key s.served.some test.places

-- places, beside a definition that is the shape's
pub selected_in : (s : Knows) (d : TableDef) (ps : List ℕ) → IsTest s → d ≡ s.definition → ps ≡ s.selected → AreBelow (length d.columns) ps
selected_in s d ps test p q = subst (λ (e : TableDef). AreBelow (length e.columns) ps) (sym p) (subst (λ xs. AreBelow (length s.definition.columns) xs) (sym q) (selected_below s test))

pub ordered_in : (s : Knows) (d : TableDef) (ps : List ℕ) → IsTest s → d ≡ s.definition → ps ≡ by_name s.definition s.selected → AreBelow (length d.columns) ps
ordered_in s d ps test p q = subst (λ (e : TableDef). AreBelow (length e.columns) ps) (sym p) (subst (λ xs. AreBelow (length s.definition.columns) xs) (sym q) (ordered_below s test))

-- no two selected columns have one name
pub names_in : (s : Knows) (d : TableDef) (ps : List ℕ) → IsTest s → d ≡ s.definition → ps ≡ s.selected → IsDistinct same_text (map (name_at d) ps)
names_in s d ps test p q = subst (λ (e : TableDef). IsDistinct same_text (map (name_at e) ps)) (sym p) (subst (λ (xs : List ℕ). IsDistinct same_text (map (name_at s.definition) xs)) (sym q) test.names)
