-- Offsets of 64 bits with one text are equal.
use Rattle.std.proofs.Common.{◌≡◌, ℕ, ◌^◌, ◌<◌, List, [], ◌∷◌, ◌++◌, refl, sym, ap, ap₂, ◌∙◌, arith, decimal}
use Rattle.std.specs.Char.{digit_value}
use Rattle.std.specs.Str.Parse.{AllDigits, digits_value}
use Rattle.std.proofs.lemmas.Str.Parse.{digit_from_value}
use Rattle.std.proofs.lemmas.Fmt.{decimal_is_IsNumeral}
use Rattle.shape_base.specs.declared.offset.Offset.{Offset}
use Rattle.shape_base.specs.declared.offset.Offset.TheVariants.{Start, At}
use Rattle.shape_base.specs.OffsetText.{offset_text, IsOffset}

no_digit : (d : ℕ) → digit_value d < 10 → (d ≡ 95 → ⊥) × (d ≡ 45 → ⊥)
no_digit d h = let range = digit_from_value d h in (λ e. omega (arith, e, range.1), λ e. omega (arith, e, range.0))

-- digits end at the first byte that is none
halves : (a b x y : List ℕ) → AllDigits 10 a → AllDigits 10 b → a ++ 95 ∷ x ≡ b ++ 95 ∷ y → (a ≡ b) × (x ≡ y)
halves [] [] x y h k e = (refl, cc)
halves [] (d ∷ b) x y h k e = absurd ((no_digit d k.0).0 (cc))
halves (d ∷ a) [] x y h k e = absurd ((no_digit d h.0).0 (cc))
halves (d ∷ a) (c ∷ b) x y h k e =
    let first : d ≡ c = cc in
    let rest : a ++ 95 ∷ x ≡ b ++ 95 ∷ y = cc in
    let same = halves a b x y h.1 k.1 rest in
    (ap₂ (λ (z : ℕ) (l : List ℕ). z ∷ l) first same.0, same.1)

abbrev first_of : List ℕ → ℕ
first_of [] = 0
first_of (x ∷ xs) = x

not_start : (a x more : List ℕ) → AllDigits 10 a → a ++ 95 ∷ x ≡ 45 ∷ more → ⊥
not_start [] x more h e = let same : 95 ≡ 45 = ap first_of e in omega (arith, same)
not_start (d ∷ a) x more h e = (no_digit d h.0).1 (ap first_of e)

decimal_once : (m n : ℕ) → m < 2 ^ 64 → n < 2 ^ 64 → decimal m ≡ decimal n → m ≡ n
decimal_once m n h k e = sym (decimal_is_IsNumeral m h).1 ∙ ap (digits_value 10) e ∙ (decimal_is_IsNumeral n k).1

pub offset_once : (o p : Offset) → IsOffset o → IsOffset p → offset_text o ≡ offset_text p → o ≡ p
offset_once Start Start h k e = refl
offset_once Start (At b j) h k e = absurd (not_start (decimal b) (decimal j) (49 ∷ []) (decimal_is_IsNumeral b k.0).0.1 (sym e))
offset_once (At a i) Start h k e = absurd (not_start (decimal a) (decimal i) (49 ∷ []) (decimal_is_IsNumeral a h.0).0.1 e)
offset_once (At a i) (At b j) h k e =
    let same = halves (decimal a) (decimal b) (decimal i) (decimal j) (decimal_is_IsNumeral a h.0).0.1 (decimal_is_IsNumeral b k.0).0.1 e in
    ap₂ (λ (l p : ℕ). At l p) (decimal_once a b h.0 k.0 same.0) (decimal_once i j h.1 k.1 same.1)
