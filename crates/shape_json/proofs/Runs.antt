-- Bytes that stand for themselves in a JSON string.
use Rattle.std.proofs.Common.{◌≡◌, ℕ, ◌+◌, ◌-◌, ◌<◌, ◌≤◌, List, [], ◌∷◌, ◌++◌, length, take, drop, get_or, refl, sym, ap, subst, ◌∙◌, arith, append-nil, length-append, take-add}
use Rattle.std.specs.Prelude.{slice_range}
use Rattle.std.proofs.lemmas.List.{take-append-drop, take_all, take_more, get_or-drop, length-drop}
use Rattle.std.proofs.lemmas.Grind.{flat_map-append}
use Rattle.json.specs.Print.{escape, escape_byte}

pub escape-append : (xs ys : List ℕ) → escape (xs ++ ys) ≡ escape xs ++ escape ys
escape-append xs ys = flat_map-append escape_byte xs ys

escape_one : (x : ℕ) → escape (x ∷ []) ≡ escape_byte x
escape_one x = append-nil (escape_byte x)

-- the bytes from one place on, up to one more
pub range_next : (xs : List ℕ) (from place x : ℕ) → from ≤ place → place < length xs → x ≡ get_or xs place 0 → slice_range xs from (place + 1) ≡ slice_range xs from place ++ x ∷ []
range_next xs from place x le lt is =
    let n : place + 1 - from ≡ (place - from) + 1 = omega (arith, le) in
    let m : from + (place - from) ≡ place = omega (arith, le) in
    let inside : place - from < length (drop from xs) = omega (arith, le, lt, length-drop from xs) in
    ap (λ (k : ℕ). take k (drop from xs)) n ∙ take_more (drop from xs) (place - from) 0 inside
    ∙ ap (λ (y : ℕ). take (place - from) (drop from xs) ++ y ∷ []) (get_or-drop from xs (place - from) 0 ∙ ap (λ (k : ℕ). get_or xs k 0) m ∙ sym is)

-- the front up to a place, and what stands between that place and another
pub front_range : (xs : List ℕ) (from place : ℕ) → from ≤ place → place ≤ length xs → take place xs ≡ take from xs ++ slice_range xs from place
front_range xs from place le within = ap (λ (k : ℕ). take k xs) (let e : place ≡ from + (place - from) = omega (arith, le) in e) ∙ take-add from (place - from) xs

pub plain_next : (xs : List ℕ) (from place x : ℕ) → from ≤ place → place < length xs → x ≡ get_or xs place 0 → escape_byte x ≡ x ∷ [] → escape (slice_range xs from place) ≡ slice_range xs from place
    → escape (slice_range xs from (place + 1)) ≡ slice_range xs from (place + 1)
plain_next xs from place x le lt is plain before =
    let next = range_next xs from place x le lt is in
    ap escape next ∙ escape-append (slice_range xs from place) (x ∷ []) ∙ ap (λ (l : List ℕ). l ++ escape (x ∷ [])) before ∙ ap (λ (l : List ℕ). slice_range xs from place ++ l) (escape_one x ∙ plain) ∙ sym next

-- what stands for the front up to a byte that does not stand for itself, and for that byte
pub escaped_next : (xs : List ℕ) (from place x : ℕ) → from ≤ place → place < length xs → x ≡ get_or xs place 0 → escape (slice_range xs from place) ≡ slice_range xs from place
    → escape (take (place + 1) xs) ≡ escape (take from xs) ++ (slice_range xs from place ++ escape_byte x)
escaped_next xs from place x le lt is before =
    ap escape (front_range xs from (place + 1) (omega (arith, le)) (omega (arith, lt)) ∙ ap (λ (l : List ℕ). take from xs ++ l) (range_next xs from place x le lt is))
    ∙ escape-append (take from xs) (slice_range xs from place ++ x ∷ [])
    ∙ ap (λ (l : List ℕ). escape (take from xs) ++ l) (escape-append (slice_range xs from place) (x ∷ []) ∙ ap (λ (l : List ℕ). l ++ escape (x ∷ [])) before ∙ ap (λ (l : List ℕ). slice_range xs from place ++ l) (escape_one x))

-- what stands for a front takes no more than what stands for all
pub front_fits : (xs : List ℕ) (n : ℕ) → length (escape (take n xs)) ≤ length (escape xs)
front_fits xs n = omega (arith, ap (λ (l : List ℕ). length (escape l)) (take-append-drop n xs), ap length (escape-append (take n xs) (drop n xs)), length-append (escape (take n xs)) (escape (drop n xs)))

-- no byte
pub plain_none : (xs : List ℕ) (n : ℕ) → escape (slice_range xs n n) ≡ slice_range xs n n
plain_none xs n = subst (λ (k : ℕ). escape (take k (drop n xs)) ≡ take k (drop n xs)) (let e : 0 ≡ n - n = omega arith in e) refl

pub plain_rest : (xs : List ℕ) (from place : ℕ) → length xs ≤ place → escape (slice_range xs from place) ≡ slice_range xs from place → escape (drop from xs) ≡ drop from xs
plain_rest xs from place whole plain = subst (λ (l : List ℕ). escape l ≡ l) (take_all (place - from) (drop from xs) (omega (arith, length-drop from xs, whole))) plain

-- what stands for a front, and the rest as it is
pub whole_escaped : (xs : List ℕ) (from place : ℕ) → length xs ≤ place → escape (slice_range xs from place) ≡ slice_range xs from place → escape (take from xs) ++ slice_range xs from (length xs) ≡ escape xs
whole_escaped xs from place whole plain =
    ap (λ (l : List ℕ). escape (take from xs) ++ l) (take_all (length xs - from) (drop from xs) (omega (arith, length-drop from xs)) ∙ sym (plain_rest xs from place whole plain)) ∙ sym (escape-append (take from xs) (drop from xs))
    ∙ ap escape (take-append-drop from xs)
