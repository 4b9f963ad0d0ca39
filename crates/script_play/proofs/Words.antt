-- Words in twos.
use Rattle.std.proofs.Common.{◌≡◌, ℕ, ◌-◌, ◌<◌, ◌≤◌, List, [], ◌∷◌, length, map, take, drop, get_or, refl, sym, ap, subst, ◌∙◌, arith, inl, inr, String, Global, Some, None}
use Rattle.std.specs.Prelude.{◌↔◌, ◌==◌, decimal, codes, Option, IsTrue, true, false, Bool}
use Rattle.std.specs.String.{string_bytes}
use Rattle.std.proofs.lemmas.List.{take_all}
use Rattle.std.proofs.lemmas.Fmt.{decimal_injective}
use Rattle.shape_base.specs.declared.limits.Limits.{Limits}
use Rattle.script_play.specs.Settings.{IsBetween, IsWithin, IsNamed, AreOptions, AreWords, IsSet, AreSet, AreLimits, bounds_of}

abbrev Word : Type 0
Word = String Global

-- what is behind the first two
abbrev pub behind : List Word → List (List ℕ)
behind left = map string_bytes (take (length left - 2) (drop 2 left))

pub two_up : (left : List Word) (a b : Word) → 1 < length left → a ≡ get_or left 0 a → b ≡ get_or left 1 b → map string_bytes left ≡ string_bytes a ∷ string_bytes b ∷ behind left
two_up [] a b h e f = absurd (omega arith)
two_up (x ∷ []) a b h e f = absurd (omega arith)
two_up (x ∷ y ∷ rest) a b h e f = rw (e, f, take_all (length (x ∷ y ∷ rest) - 2) rest (omega arith)) refl

-- ---- names

named_cons : (name other value : List ℕ) (words : List (List ℕ)) → (other ≡ name → ⊥) → IsNamed name words ↔ IsNamed name (other ∷ value ∷ words)
named_cons name other value words h = (λ n. inr n, λ n. elim n [ inl e ↦ absurd (h e) | inr m ↦ m ])

pub named_step : (left : List Word) (a : Word) (name : List ℕ) → 1 < length left → a ≡ get_or left 0 a → (string_bytes a ≡ name → ⊥) → IsNamed name (behind left) ↔ IsNamed name (map string_bytes left)
named_step [] a name h e n = absurd (omega arith)
named_step (x ∷ []) a name h e n = absurd (omega arith)
named_step (x ∷ y ∷ rest) a name h e n =
    subst (λ (ws : List (List ℕ)). IsNamed name (behind (x ∷ y ∷ rest)) ↔ IsNamed name ws) (sym (two_up (x ∷ y ∷ rest) a y h e refl))
    (named_cons name (string_bytes a) (string_bytes y) (behind (x ∷ y ∷ rest)) n)

pub not_named : (left : List Word) (name : List ℕ) → length left < 2 → IsNamed name (map string_bytes left) → ⊥
not_named [] name h n = n
not_named (x ∷ []) name h n = n
not_named (x ∷ y ∷ rest) name h n = absurd (omega arith)

pub then_named : (left : List Word) (a : Word) (name : List ℕ) → 1 < length left → a ≡ get_or left 0 a → string_bytes a ≡ name → IsNamed name (map string_bytes left)
then_named [] a name h e n = absurd (omega arith)
then_named (x ∷ []) a name h e n = absurd (omega arith)
then_named (x ∷ y ∷ rest) a name h e n = inl (ap string_bytes (sym e) ∙ n)

pub with_iff : {A B C : Type 0} → A ↔ B → B ↔ C → A ↔ C
with_iff f g = (λ a. g.0 (f.0 a), λ c. f.1 (g.1 c))

pub when_false : {b : Bool} {A : Type 0} → b ≡ false → IsTrue b ↔ A → A → ⊥
when_false {b} {A} e f = λ a. let t = f.1 a in cc

pub when_true : {b : Bool} {A : Type 0} → b ≡ true → IsTrue b ↔ A → A
when_true {b} {A} e f = f.0 e

-- ---- options

pub options_parts : (left : List Word) (a b : Word) → 1 < length left → a ≡ get_or left 0 a → b ≡ get_or left 1 b → AreOptions (map string_bytes left)
    → AreOptions (string_bytes a ∷ string_bytes b ∷ behind left)
options_parts left a b h e f o = subst AreOptions (two_up left a b h e f) o

pub options_step : (left : List Word) (a b : Word) → 1 < length left → a ≡ get_or left 0 a → b ≡ get_or left 1 b → IsWithin (string_bytes b) (bounds_of (string_bytes a)) → (IsNamed (string_bytes a) (behind left) → ⊥)
    → AreOptions (behind left) ↔ AreOptions (map string_bytes left)
options_step left a b h e f w n = (λ o. subst AreOptions (sym (two_up left a b h e f)) (w, n, o), λ o. (options_parts left a b h e f o).2)

pub options_end : (left : List Word) (b : Bool) → length left < 2 → b ≡ (length left == 0) → IsTrue b ↔ AreOptions (map string_bytes left)
options_end [] b h e = (λ t. tt, λ o. e)
options_end (x ∷ []) b h e = (λ t. let f : b ≡ false = e in cc, λ o. absurd o)
options_end (x ∷ y ∷ rest) b h e = absurd (omega arith)

pub words_up : (words : List Word) (first : Word) → 0 < length words → first ≡ get_or words 0 first → map string_bytes words ≡ string_bytes first ∷ map string_bytes (take (length words - 1) (drop 1 words))
words_up [] first h e = absurd (omega arith)
words_up (x ∷ rest) first h e = rw (e, take_all (length (x ∷ rest) - 1) rest (omega arith)) refl

pub words_step : (words : List Word) (first : Word) → 0 < length words → first ≡ get_or words 0 first → string_bytes first ≡ codes "replay" → AreOptions (map string_bytes (take (length words - 1) (drop 1 words))) ↔ AreWords (map string_bytes words)
words_step words first h e f = (λ o. subst AreWords (sym (words_up words first h e)) (f, o), λ w. (subst AreWords (words_up words first h e) w).1)

-- ---- values

pub set_end : (left : List Word) (name : List ℕ) (usual : ℕ) → length left < 2 → IsSet (map string_bytes left) name usual usual
set_end [] name usual h = refl
set_end (x ∷ []) name usual h = refl
set_end (x ∷ y ∷ rest) name usual h = absurd (omega arith)

pub set_here : (left : List Word) (a b : Word) (name : List ℕ) (usual n : ℕ) → 1 < length left → a ≡ get_or left 0 a → b ≡ get_or left 1 b → string_bytes a ≡ name → string_bytes b ≡ decimal n → IsSet (map string_bytes left) name usual n
set_here left a b name usual n h e f is value = subst (λ (ws : List (List ℕ)). IsSet ws name usual n) (sym (two_up left a b h e f)) (inl (is, value))

pub set_step : (left : List Word) (a b : Word) (name : List ℕ) (usual n : ℕ) → 1 < length left → a ≡ get_or left 0 a → b ≡ get_or left 1 b → (string_bytes a ≡ name → ⊥) → IsSet (behind left) name usual n → IsSet (map string_bytes left) name usual n
set_step left a b name usual n h e f is set = subst (λ (ws : List (List ℕ)). IsSet ws name usual n) (sym (two_up left a b h e f)) (inr (is, set))

within_same : (value : List ℕ) (bounds : Option (ℕ × ℕ)) (least most n : ℕ) → IsWithin value bounds → bounds ≡ Some (least, most) → value ≡ decimal n → n < 18446744073709551616 → most < 18446744073709551616 → (least ≤ n) × (n ≤ most)
within_same value None least most n w e is small top = absurd w
within_same value (Some b) least most n w e is small top =
    let low : b.0 ≡ least = ap (λ (o : Option (ℕ × ℕ)). elim o [ None ↦ 0 | Some x ↦ x.0 ]) e in
    let high : b.1 ≡ most = ap (λ (o : Option (ℕ × ℕ)). elim o [ None ↦ 0 | Some x ↦ x.1 ]) e in
    let same : w.number ≡ n = decimal_injective w.number n (omega (arith, w.at_most, high)) (omega arith) (sym w.is ∙ is) in
    (omega (arith, w.at_least, low, same), omega (arith, w.at_most, high, same))

pub set_within : (words : List (List ℕ)) (name : List ℕ) (usual n least most : ℕ) → AreOptions words → IsSet words name usual n → bounds_of name ≡ Some (least, most) → n < 18446744073709551616 → most < 18446744073709551616 → least ≤ usual → usual ≤ most
    → (least ≤ n) × (n ≤ most)
set_within [] name usual n least most o s b small top low high = (omega (arith, s), omega (arith, s))
set_within (w ∷ []) name usual n least most o s b small top low high = absurd o
set_within (w ∷ v ∷ words) name usual n least most o s b small top low high = elim s [
  | inl here ↦ within_same v (bounds_of w) least most n o.0 (ap bounds_of here.0 ∙ b) here.1 small top
  | inr later ↦ set_within words name usual n least most o.2 later.1 b small top low high
]

-- ---- decimals

pub between_is : (value : List ℕ) (b : Bool) (least most n : ℕ) → value ≡ decimal n → n < 18446744073709551616 → most < 18446744073709551616 → IsTrue b ↔ ((least ≤ n) × (n ≤ most)) → IsTrue b ↔ IsBetween value least most
between_is value b least most n is small top f = (
  λ t. record { number = n; is = is; at_least = (f.0 t).0; at_most = (f.0 t).1 },
  λ w. let same : w.number ≡ n = decimal_injective w.number n (omega (arith, w.at_most)) (omega arith) (sym w.is ∙ is) in f.1 (omega (arith, w.at_least, same), omega (arith, w.at_most, same)),
)

-- ---- the limits

abbrev pub options_in : List Word → List (List ℕ)
options_in words = map string_bytes (take (length words - 1) (drop 1 words))

pub options_behind : (words : List Word) → AreWords (map string_bytes words) → AreOptions (options_in words)
options_behind [] w = absurd w
options_behind (x ∷ rest) w = subst (λ (ws : List Word). AreOptions (map string_bytes ws)) (sym (take_all (length (x ∷ rest) - 1) rest (omega arith))) w.1

pub limits_behind : (words : List Word) (l : Limits) → AreWords (map string_bytes words) → AreSet (options_in words) l → AreLimits (map string_bytes words) l
limits_behind [] l w s = absurd w
limits_behind (x ∷ rest) l w s = subst (λ (ws : List Word). AreSet (map string_bytes ws) l) (take_all (length (x ∷ rest) - 1) rest (omega arith)) s

pub value_within : (words : List Word) (name : List ℕ) (usual n least most : ℕ) → AreWords (map string_bytes words) → IsSet (options_in words) name usual n → bounds_of name ≡ Some (least, most) → n < 18446744073709551616 → most < 18446744073709551616 → least ≤ usual → usual ≤ most
    → (least ≤ n) × (n ≤ most)
value_within words name usual n least most w s b small top low high = set_within (options_in words) name usual n least most (options_behind words w) s b small top low high
