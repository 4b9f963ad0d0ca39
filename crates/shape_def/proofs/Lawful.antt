-- The laws of a definition's test.
use Rattle.std.proofs.Common.{◌≡◌, ◌≢◌, ℕ, zero, suc, ◌+◌, ◌<◌, ◌≤◌, Bool, true, false, not, List, [], ◌∷◌, length, map, drop, get_or, refl, sym, ◌∙◌, ap, subst, arith, zero-add, Option, None, Some, is_some, ◌||◌, ◌&&◌, ◌==◌}
use Rattle.std.proofs.lemmas.Bool.{false_from_ne_true, and_from, or_right, or_parts}
use Rattle.std.specs.Prelude.{nat_le, nat_lt, AllPairs}
use Rattle.std.specs.Bool.{if◌then◌else◌}
use Rattle.std.specs.Option.{option_map}
use Rattle.std.specs.List.{list_any, list_all, AllByRecursion, IsDistinct}
use Rattle.std.proofs.lemmas.Bool.Decides.{nat_tests, Decides-eqb}
use Rattle.shape_base.specs.declared.definition.Column.{Column}
use Rattle.shape_base.specs.declared.definition.TableDef.{TableDef}
use Rattle.shape_base.specs.declared.served.Served.{Served}
use Rattle.shape_base.specs.Visibility.{rise_between}
use Rattle.shape_base.specs.Tables.{same_text, place_of, places_of, with_place, key_places}
use Rattle.shape_base.specs.Shape.{IsTest, name_at}
use Rattle.shape_base.proofs.Lemmas.{Decides-same_text}
use Rattle.shape_def.specs.Identity.{Names}
use Rattle.shape_def.specs.Definition.{places_from, leaves_out, knows_of}
use Rattle.column_names.specs.Names.{has_name_twice}

-- ---- the places of different names are different

one_more : (o : Option ℕ) (p : ℕ) → option_map (λ q. q + 1) o ≡ Some p → (q : ℕ) × (o ≡ Some q) × (p ≡ q + 1)
one_more None p e = cc
one_more (Some q) p e = let same : q + 1 ≡ p = cc in (q, refl, sym same)

place_step : (a b n : List ℕ) (o r : Option ℕ) (p : ℕ) (s t : Bool) → same_text a n ≡ s → same_text b n ≡ t → (if s then Some 0 else option_map (λ q. q + 1) o) ≡ Some p → (if t then Some 0 else option_map (λ q. q + 1) r) ≡ Some p
    → ((q : ℕ) → o ≡ Some q → r ≡ Some q → a ≡ b) → a ≡ b
place_step a b n o r p true true e f h k ih = (Decides-same_text a n).0 e ∙ sym ((Decides-same_text b n).0 f)
place_step a b n o r p true false e f h k ih = let none : 0 ≡ p = cc in let more = one_more r p k in let is = more.2 in absurd (omega (arith, none, is))
place_step a b n o r p false true e f h k ih = let none : 0 ≡ p = cc in let more = one_more o p h in let is = more.2 in absurd (omega (arith, none, is))
place_step a b n o r p false false e f h k ih =
    let x = one_more o p h in let y = one_more r p k in let same : y.0 ≡ x.0 = omega (arith, x.2, y.2) in
    ih x.0 x.1 (y.1 ∙ ap Some same)

one_place : (cs : List Column) (a b : List ℕ) (p : ℕ) → place_of cs a ≡ Some p → place_of cs b ≡ Some p → a ≡ b
one_place [] a b p h k = cc
one_place (c ∷ cs) a b p h k = place_step a b c.name (place_of cs a) (place_of cs b) p (same_text a c.name) (same_text b c.name) refl refl h k (λ q. one_place cs a b q)

with_both : (o : Option ℕ) (os : Option (List ℕ)) (p : ℕ) (ps : List ℕ) → with_place o os ≡ Some (p ∷ ps) → (o ≡ Some p) × (os ≡ Some ps)
with_both None os p ps e = cc
with_both (Some q) None p ps e = cc
with_both (Some q) (Some qs) p ps e = let same : q ∷ qs ≡ p ∷ ps = cc in let heads : q ≡ p = cc in let tails : qs ≡ ps = cc in (ap Some heads, ap Some tails)

no_places : (o : Option ℕ) (os : Option (List ℕ)) → with_place o os ≡ Some [] → ⊥
no_places None os e = cc
no_places (Some q) None e = cc
no_places (Some q) (Some qs) e = cc

apart_from : (cs : List Column) (a : List ℕ) (p : ℕ) (names : Names) (key : List ℕ) → place_of cs a ≡ Some p → places_of cs names ≡ Some key → ((k : ℕ) (d : List ℕ) → k < length names → a ≢ get_or names k d) → AllByRecursion (λ q. (p == q) ≡ false) key
apart_from cs a p names [] h e apart = tt
apart_from cs a p [] (q ∷ qs) h e apart = cc
apart_from cs a p (b ∷ names) (q ∷ qs) h e apart =
    let parts = with_both (place_of cs b) (places_of cs names) q qs e in
    (false_from_ne_true (p == q) (λ is. apart 0 [] (omega arith) (one_place cs a b q (h ∙ ap Some ((Decides-eqb p q).0 is)) parts.0)), apart_from cs a p names qs h parts.1 (λ k d lt. apart (suc k) d (omega (arith, lt))))

distinct_places : (cs : List Column) (names : Names) (key : List ℕ) → AllPairs (λ x y. x ≢ y) names → places_of cs names ≡ Some key → IsDistinct (λ p q. p == q) key
unfolding IsDistinct
distinct_places cs names [] apart e = tt
distinct_places cs [] (q ∷ qs) apart e = cc
distinct_places cs (b ∷ names) (q ∷ qs) apart e =
    let parts = with_both (place_of cs b) (places_of cs names) q qs e in
    (apart_from cs b q names qs parts.0 parts.1 (λ k d lt. apart 0 (suc k) d (omega arith) (omega (arith, lt))), distinct_places cs names qs (λ i j d lt in_range. apart (suc i) (suc j) d (omega (arith, lt)) (omega (arith, in_range))) parts.1)

-- ---- the selected places rise

and_three : (a b c : Bool) → a ≡ true → b ≡ true → c ≡ true → (a && (b && c)) ≡ true
and_three a b c h k l = rw (h, k, l) refl

rise_step : (b : Bool) (low i high : ℕ) (rest : List ℕ) → low ≤ i → i < high → rise_between (i + 1) high rest ≡ true → rise_between low high rest ≡ true → rise_between low high (if b then i ∷ rest else rest) ≡ true
rise_step true low i high rest h k r s = and_three (nat_le low i) (nat_lt i high) _ (grind (arith, nat_tests)) (grind (arith, nat_tests)) r
rise_step false low i high rest h k r s = s

rise_from : (passes : List ℕ → Bool) (cs : List Column) (low i high : ℕ) → low ≤ i → i + length cs ≡ high → rise_between low high (places_from passes i cs) ≡ true
rise_from passes [] low i high h e = refl
rise_from passes (c ∷ cs) low i high h e =
    rise_step (passes c.name) low i high (places_from passes (i + 1) cs) h (omega (arith, e)) (rise_from passes cs (i + 1) (i + 1) high (omega arith) (omega (arith, e))) (rise_from passes cs low (i + 1) high (omega (arith, h)) (omega (arith, e)))

-- ---- the key's places are among them

any_here : (p i : ℕ) (rest : List ℕ) → p ≡ i → list_any (λ q. p == q) (i ∷ rest) ≡ true
any_here p i rest e = rw ((Decides-eqb p i).1 e) refl

any_later : (b : Bool) (p i : ℕ) (rest : List ℕ) → list_any (λ q. p == q) rest ≡ true → list_any (λ q. p == q) (if b then i ∷ rest else rest) ≡ true
any_later true p i rest h = or_right (p == i) _ h
any_later false p i rest h = h

among_step : (passes : List ℕ → Bool) (a n : List ℕ) (o : Option ℕ) (p i : ℕ) (rest : List ℕ) (s : Bool) → same_text a n ≡ s → (if s then Some 0 else option_map (λ q. q + 1) o) ≡ Some p → passes a ≡ true
    → ((q : ℕ) → o ≡ Some q → list_any (λ r. (q + (i + 1)) == r) rest ≡ true) → list_any (λ r. (p + i) == r) (if passes n then i ∷ rest else rest) ≡ true
among_step passes a n o p i rest true e h pass ih =
    let none : 0 ≡ p = cc in let here : p + i ≡ i = omega (arith, none) in
    let yes : passes n ≡ true = ap passes (sym ((Decides-same_text a n).0 e)) ∙ pass in
    rw yes (any_here (p + i) i rest here)
among_step passes a n o p i rest false e h pass ih =
    let x = one_more o p h in let same : x.0 + (i + 1) ≡ p + i = omega (arith, x.2) in
    any_later (passes n) (p + i) i rest (subst (λ m. list_any (λ r. m == r) rest ≡ true) same (ih x.0 x.1))

among : (passes : List ℕ → Bool) (cs : List Column) (a : List ℕ) (p i : ℕ) → place_of cs a ≡ Some p → passes a ≡ true → list_any (λ r. (p + i) == r) (places_from passes i cs) ≡ true
among passes [] a p i h pass = cc
among passes (c ∷ cs) a p i h pass = among_step passes a c.name (place_of cs a) p i (places_from passes (i + 1) cs) (same_text a c.name) refl h pass (λ q e. among passes cs a q (i + 1) e pass)

not_left : (a b : Bool) → (not a || b) ≡ false → (a ≡ true) × (b ≡ false)
not_left true b h = (refl, h)
not_left false b h = cc

key_among : (passes : List ℕ → Bool) (cs : List Column) (names : Names) (key : List ℕ) → places_of cs names ≡ Some key → leaves_out passes names ≡ false → list_all (λ p. list_any (λ q. p == q) (places_from passes 0 cs)) key ≡ true
key_among passes cs names [] e all = refl
key_among passes cs [] (q ∷ qs) e all = cc
key_among passes cs (b ∷ names) (q ∷ qs) e all =
    let parts = with_both (place_of cs b) (places_of cs names) q qs e in
    let both = not_left (passes b) (leaves_out passes names) all in
    let same : q + 0 ≡ q = omega arith in
    and_from _ _ (subst (λ m. list_any (λ r. m == r) (places_from passes 0 cs) ≡ true) same (among passes cs b q 0 parts.0 both.0)) (key_among passes cs names qs parts.1 both.1)

-- ---- no two selected columns have one name

-- the names that pass
abbrev pub kept : (List ℕ → Bool) → List Column → Names
kept passes [] = []
kept passes (c ∷ cs) = if passes c.name then c.name ∷ kept passes cs else kept passes cs

place_none : (a n : List ℕ) (o : Option ℕ) (s : Bool) → same_text a n ≡ s → is_some (if s then Some 0 else option_map (λ q. q + 1) o) ≡ false → (same_text a n ≡ false) × (is_some o ≡ false)
place_none a n o true e h = cc
place_none a n None false e h = (e, refl)
place_none a n (Some p) false e h = cc

all_step : (b : Bool) (a n : List ℕ) (rest : Names) → same_text a n ≡ false → AllByRecursion (λ y. same_text a y ≡ false) rest → AllByRecursion (λ y. same_text a y ≡ false) (if b then n ∷ rest else rest)
all_step true a n rest h k = (h, k)
all_step false a n rest h k = k

kept_apart : (passes : List ℕ → Bool) (cs : List Column) (a : List ℕ) → is_some (place_of cs a) ≡ false → AllByRecursion (λ y. same_text a y ≡ false) (kept passes cs)
kept_apart passes [] a h = tt
kept_apart passes (c ∷ cs) a h = let parts = place_none a c.name (place_of cs a) (same_text a c.name) refl h in all_step (passes c.name) a c.name (kept passes cs) parts.0 (kept_apart passes cs a parts.1)

distinct_step : (b : Bool) (n : List ℕ) (rest : Names) → AllByRecursion (λ y. same_text n y ≡ false) rest → IsDistinct same_text rest → IsDistinct same_text (if b then n ∷ rest else rest)
unfolding IsDistinct
distinct_step true n rest h k = (h, k)
distinct_step false n rest h k = k

no_names : IsDistinct same_text []
unfolding IsDistinct
no_names = tt

kept_distinct : (passes : List ℕ → Bool) (cs : List Column) → has_name_twice cs ≡ false → IsDistinct same_text (kept passes cs)
kept_distinct passes [] h = no_names
kept_distinct passes (c ∷ cs) h = let parts = or_parts (is_some (place_of cs c.name)) (has_name_twice cs) h in distinct_step (passes c.name) c.name (kept passes cs) (kept_apart passes cs c.name parts.0) (kept_distinct passes cs parts.1)

names_step : (b : Bool) (d : TableDef) (i : ℕ) (n : List ℕ) (rest : List ℕ) (names : Names) → name_at d i ≡ n → map (name_at d) rest ≡ names → map (name_at d) (if b then i ∷ rest else rest) ≡ (if b then n ∷ names else names)
names_step true d i n rest names h k = let tails : map (name_at d) rest ≡ names = k in λ j. h j ∷ tails j
names_step false d i n rest names h k = k

dropped_at : (cs : List Column) (i : ℕ) (c : Column) (rest : List Column) (e : Column) → drop i cs ≡ c ∷ rest → (get_or cs i e ≡ c) × (drop (i + 1) cs ≡ rest)
dropped_at [] zero c rest e h = cc
dropped_at [] (suc i) c rest e h = cc
dropped_at (x ∷ xs) zero c rest e h = let heads : x ≡ c = cc in let tails : xs ≡ rest = cc in (heads, tails)
dropped_at (x ∷ xs) (suc i) c rest e h = let more = dropped_at xs i c rest e h in let next : suc i + 1 ≡ suc (i + 1) = omega arith in (more.0, ap (λ k. drop k (x ∷ xs)) next ∙ more.1)

selected_names : (passes : List ℕ → Bool) (d : TableDef) (cs : List Column) (i : ℕ) → drop i d.columns ≡ cs → map (name_at d) (places_from passes i cs) ≡ kept passes cs
selected_names passes d [] i h = refl
selected_names passes d (c ∷ cs) i h =
    let at = dropped_at d.columns i c cs (record { name = []; oid = 0 }) h in
    names_step (passes c.name) d i c.name (places_from passes (i + 1) cs) (kept passes cs) (ap (λ (x : Column). x.name) at.0) (selected_names passes d cs (i + 1) at.1)

-- ---- the laws

laws : (served : Served) (d : TableDef) (key : List ℕ) (passes : List ℕ → Bool) (clause : Option (List ℕ)) → key_places served d ≡ Some key → has_name_twice d.columns ≡ false → leaves_out passes served.key ≡ false
    → IsTest (knows_of served d key (places_from passes 0 d.columns) clause)
laws served d key passes clause places once all = record {
  places = places;
  apart = distinct_places d.columns served.key key served.distinct places;
  selected = rise_from passes d.columns 0 0 (length d.columns) (omega arith) (zero-add (length d.columns));
  holds_key = key_among passes d.columns served.key key places all;
  names = subst (IsDistinct same_text) (sym (selected_names passes d d.columns 0 refl)) (kept_distinct passes d.columns once);
}

pub is_lawful : (served table : Served) (d e : TableDef) (key selected : List ℕ) (passes : List ℕ → Bool) (clause : Option (List ℕ)) → served ≡ table → e ≡ d → key_places table d ≡ Some key → has_name_twice d.columns ≡ false
    → selected ≡ places_from passes 0 d.columns → leaves_out passes table.key ≡ false → IsTest (knows_of served e key selected clause)
is_lawful served table d e key selected passes clause h k places once chosen all =
    subst (λ (s : Served). IsTest (knows_of s e key selected clause)) (sym h) (subst (λ (x : TableDef). IsTest (knows_of table x key selected clause)) (sym k) (subst (λ ps. IsTest (knows_of table d key ps clause)) (sym chosen) (laws table d key passes clause places once all)))
