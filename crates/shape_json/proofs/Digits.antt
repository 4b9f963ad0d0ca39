-- The text of an offset has no byte that a JSON string escapes.
use Rattle.std.proofs.Common.{◌≡◌, ℕ, ◌^◌, ◌<◌, List, [], ◌∷◌, ◌++◌, refl, sym, ap, ap₂, ◌∙◌, arith, codes, decimal, append_assoc, ◌+◌, length, length-append}
use Rattle.std.specs.Str.Parse.{AllDigits}
use Rattle.std.proofs.lemmas.Str.Parse.{digit_from_value}
use Rattle.std.proofs.lemmas.Fmt.{decimal_is_IsNumeral}
use Rattle.std.proofs.lemmas.Grind.{flat_map-append}
use Rattle.json.specs.Print.{escape, escape_byte, quoted}
use Rattle.json.proofs.Printed.Strings.{escape_byte_plain}

escape-digits : (ds : List ℕ) → AllDigits 10 ds → escape ds ≡ ds
escape-digits [] h = refl
escape-digits (d ∷ ds) h =
    let range = digit_from_value d h.0 in
    ap₂ (λ (l m : List ℕ). l ++ m) (escape_byte_plain d (λ e. omega (arith, e, range.0)) (λ e. omega (arith, e, range.1)) (omega (arith, range.0))) (escape-digits ds h.1)

pub escape-decimal : (n : ℕ) → n < 2 ^ 64 → escape (decimal n) ≡ decimal n
escape-decimal n small = escape-digits (decimal n) (decimal_is_IsNumeral n small).0.1

pub quoted-position : (lsn pos : ℕ) → lsn < 2 ^ 64 → pos < 2 ^ 64 → quoted (decimal lsn ++ 95 ∷ decimal pos) ≡ 34 ∷ [] ++ decimal lsn ++ 95 ∷ [] ++ decimal pos ++ 34 ∷ []
unfolding escape_byte
quoted-position lsn pos small_lsn small_pos =
    ap (λ (l : List ℕ). 34 ∷ (l ++ 34 ∷ []))
    (flat_map-append escape_byte (decimal lsn) (95 ∷ decimal pos)
    ∙ ap₂ (λ (l m : List ℕ). l ++ 95 ∷ m) (escape-decimal lsn small_lsn) (escape-decimal pos small_pos)
    ∙ sym (append_assoc (decimal lsn) (95 ∷ []) (decimal pos)))

pub quoted-start : quoted (codes "-1") ≡ codes "\"-1\""
unfolding escape_byte
quoted-start = refl

pub length-position : (lsn pos : ℕ) → lsn < 2 ^ 64 → pos < 2 ^ 64 → length (quoted (decimal lsn ++ 95 ∷ decimal pos)) ≡ length (decimal lsn) + length (decimal pos) + 3
length-position lsn pos small_lsn small_pos =
    let a = decimal lsn in
    let b = decimal pos in
    omega (arith, ap length (quoted-position lsn pos small_lsn small_pos), length-append (34 ∷ [] ++ a ++ 95 ∷ [] ++ b) (34 ∷ []), length-append (34 ∷ [] ++ a ++ 95 ∷ []) b, length-append (34 ∷ [] ++ a) (95 ∷ []))
