-- Numbers in texts.
use Rattle.std.proofs.Common.{◌≡◌, ◌⊎◌, ℕ, ◌<◌, ◌≤◌, ◌^◌, Bool, true, false, ◌&&◌, List, [], ◌∷◌, length, ℤ, pos, negsuc, nat_lt, Result, Ok, Err, refl, sym, ap, ◌∙◌, subst, inl, inr, ⊎_elim, arith, ne_eqb}
use Rattle.std.proofs.lemmas.Bool.{and_parts, and_from, false_from_ne_true}
use native.Mathlib.Decide.{ℕ_discrete}
use mathlib.Core.Logic.{dite}
use mir.Syntax.{Width, w64}
use mir.Val.{SFits, hbits}
use Rattle.std.specs.Str.{IsUtf8, IsAscii, all_ascii_digits}
use Rattle.std.specs.Str.Parse.{IsNumeral, without_leading_sign, signed_digits_value, digits_value}
use Rattle.std.specs.Fmt.{signed_decimal}
use Rattle.std.proofs.lemmas.Bool.Decides.{nat_tests}
use Rattle.std.proofs.lemmas.Str.{IsUtf8-from_ascii}
use Rattle.std.proofs.lemmas.Str.Ascii.{IsAscii-nil, IsAscii-cons}
use Rattle.std.proofs.lemmas.Str.Parse.{IsNumeralModel, numerals_by_value, tells_all_ascii_digits}
use Rattle.std.proofs.lemmas.Fmt.{IsAscii-from_digits, parse-signed_decimal}
use Rattle.pg_values.specs.declared.kind.Kind.{Kind}
use Rattle.pg_values.specs.declared.kind.Kind.TheVariants.{Boolean, SmallInt, Integer, BigInt, Text, Uuid, Other}
use Rattle.pg_values.specs.Values.{is_numeral, number_value, is_within, limit_of, is_number, IsIntegerKind, has_value}

digits : IsNumeralModel (λ ds. all_ascii_digits ds ≡ true) (digits_value 10)
digits = numerals_by_value _ tells_all_ascii_digits

pub numeral : (ds : List ℕ) → is_numeral ds ≡ true → IsNumeral 10 ds
numeral ds h = let p = and_parts (nat_lt 0 (length ds)) (all_ascii_digits ds) h in let some = p.0 in (grind (arith, nat_tests), digits.to ds p.1)

pub numeral_back : (ds : List ℕ) → IsNumeral 10 ds → is_numeral ds ≡ true
numeral_back ds h = let some : 0 < length ds = h.0 in and_from (nat_lt 0 (length ds)) (all_ascii_digits ds) (grind (arith, nat_tests)) (digits.from ds h.1)

-- the range of a type of w bits
pub within : (w : Width) (limit : ℕ) (n : ℤ) → limit ≡ 2 ^ hbits w → is_within limit n ≡ true → SFits w n
within w limit (pos n) e h = record { sfits = grind (arith, nat_tests) }
within w limit (negsuc n) e h = record { sfits = grind (arith, nat_tests) }

pub within_back : (w : Width) (limit : ℕ) (n : ℤ) → limit ≡ 2 ^ hbits w → SFits w n → is_within limit n ≡ true
within_back w limit (pos n) e h = let f = h.sfits in grind (arith, nat_tests)
within_back w limit (negsuc n) e h = let f = h.sfits in grind (arith, nat_tests)

pub within_wider : (limit wider : ℕ) (n : ℤ) → limit ≤ wider → is_within limit n ≡ true → is_within wider n ≡ true
within_wider limit wider (pos n) le h = grind (arith, nat_tests)
within_wider limit wider (negsuc n) le h = grind (arith, nat_tests)

-- a number's text is of ASCII
sign_or_digits : (c : ℕ) (cs : List ℕ) → ((c < 128) × (without_leading_sign (c ∷ cs) ≡ cs)) ⊎ (without_leading_sign (c ∷ cs) ≡ c ∷ cs)
sign_or_digits c cs = dite (ℕ_discrete c 45) (λ e. inl (omega arith, rw e refl))
    (λ minus. dite (ℕ_discrete c 43) (λ e. inl (omega arith, rw e refl)) (λ plus. inr (rw (ne_eqb c 45 minus, ne_eqb c 43 plus) refl)))

pub number_ascii : (text : List ℕ) → IsNumeral 10 (without_leading_sign text) → IsAscii text
number_ascii [] h = IsAscii-nil
number_ascii (c ∷ cs) h = ⊎_elim (λ (p : (c < 128) × (without_leading_sign (c ∷ cs) ≡ cs)). IsAscii-cons c cs p.0 (IsAscii-from_digits cs (subst (IsNumeral 10) p.1 h).1))
    (λ (e : without_leading_sign (c ∷ cs) ≡ c ∷ cs). IsAscii-from_digits (c ∷ cs) (subst (IsNumeral 10) e h).1) (sign_or_digits c cs)

pub number_utf8 : (kind : Kind) (text : List ℕ) → is_number kind text ≡ true → IsUtf8 text
number_utf8 kind text h = let p = and_parts (is_numeral (without_leading_sign text)) (is_within (limit_of kind) (number_value text)) h in
    IsUtf8-from_ascii text (number_ascii text (numeral (without_leading_sign text) p.0))

-- the value that an integer's kind has
pub of_integer : (kind : Kind) (text : List ℕ) → IsIntegerKind kind → has_value kind text ≡ is_number kind text
of_integer SmallInt text h = refl
of_integer Integer text h = refl
of_integer BigInt text h = refl
of_integer Boolean text h = absurd h
of_integer Text text h = absurd h
of_integer Uuid text h = absurd h
of_integer Other text h = absurd h

pub narrow : (kind : Kind) → IsIntegerKind kind → limit_of kind ≤ 9223372036854775808
narrow SmallInt h = omega arith
narrow Integer h = omega arith
narrow BigInt h = omega arith
narrow Boolean h = absurd h
narrow Text h = absurd h
narrow Uuid h = absurd h
narrow Other h = absurd h

-- a text that `parse` refuses has no value
pub unparsed : (kind : Kind) (text : List ℕ) → IsIntegerKind kind → ((IsNumeral 10 (without_leading_sign text) × SFits w64 (number_value text)) → ⊥) → has_value kind text ≡ false
unparsed kind text int refused = of_integer kind text int ∙ false_from_ne_true (is_number kind text) (λ h. let p = and_parts (is_numeral (without_leading_sign text)) (is_within (limit_of kind) (number_value text)) h in
    refused (numeral (without_leading_sign text) p.0, within w64 9223372036854775808 (number_value text) refl (within_wider (limit_of kind) 9223372036854775808 (number_value text) (narrow kind int) p.1)))

-- nor has one that is not UTF-8
pub no_text : (kind : Kind) (text : List ℕ) → IsIntegerKind kind → (IsUtf8 text → ⊥) → has_value kind text ≡ false
no_text kind text int bad = of_integer kind text int ∙ false_from_ne_true (is_number kind text) (λ h. bad (number_utf8 kind text h))

-- one that it reads has a value exactly where the number is in range
pub parsed_value : (kind : Kind) (text : List ℕ) (n : ℤ) → IsIntegerKind kind → IsNumeral 10 (without_leading_sign text) → n ≡ number_value text → has_value kind text ≡ is_within (limit_of kind) n
parsed_value kind text n int whole same = of_integer kind text int ∙ (ap (λ b. b && is_within (limit_of kind) (number_value text)) (numeral_back (without_leading_sign text) whole) ∙ ap (is_within (limit_of kind)) (sym same))

-- what a number prints is read as it
printed_by : (n : ℤ) → is_within 9223372036854775808 n ≡ true
    → (b : Bool) → (is_numeral (without_leading_sign (signed_decimal n)) && is_within 9223372036854775808 (number_value (signed_decimal n))) ≡ b
    → IsNumeral 10 (without_leading_sign (signed_decimal n)) × (number_value (signed_decimal n) ≡ n)
printed_by n small true is = let text : List ℕ = signed_decimal n in let fits : SFits w64 n = within w64 9223372036854775808 n refl small in let f = fits.sfits in
    let p = and_parts (is_numeral (without_leading_sign text)) (is_within 9223372036854775808 (number_value text)) is in
    let whole : IsNumeral 10 (without_leading_sign text) = numeral (without_leading_sign text) p.0 in
    let r : ◌≡◌ {A = Result ℤ ℕ} (Ok (number_value text)) (Ok n) = parse-signed_decimal {E = ℕ} w64 n text (Ok (number_value text)) fits (omega arith) refl ((whole, within w64 9223372036854775808 (number_value text) refl p.1), refl) in
    (whole, cc)
printed_by n small false is = let text : List ℕ = signed_decimal n in let fits : SFits w64 n = within w64 9223372036854775808 n refl small in let f = fits.sfits in
    let none : (IsNumeral 10 (without_leading_sign text) × SFits w64 (signed_digits_value 10 text)) → ⊥ = (λ h. let t = and_from (is_numeral (without_leading_sign text)) (is_within 9223372036854775808 (number_value text)) (numeral_back (without_leading_sign text) h.0) (within_back w64 9223372036854775808 (number_value text) refl h.1) in absurd (cc)) in
    let r : ◌≡◌ {A = Result ℤ ℕ} (Err 0) (Ok n) = parse-signed_decimal {E = ℕ} w64 n text (Err 0) fits (omega arith) refl none in absurd (cc)

pub printed : (n : ℤ) → is_within 9223372036854775808 n ≡ true → IsNumeral 10 (without_leading_sign (signed_decimal n)) × (number_value (signed_decimal n) ≡ n)
printed n small = printed_by n small (is_numeral (without_leading_sign (signed_decimal n)) && is_within 9223372036854775808 (number_value (signed_decimal n))) refl

pub printed_in : (kind : Kind) (n : ℤ) → IsIntegerKind kind → is_within (limit_of kind) n ≡ true → (has_value kind (signed_decimal n) ≡ true) × (number_value (signed_decimal n) ≡ n)
printed_in kind n int small = let text : List ℕ = signed_decimal n in let p = printed n (within_wider (limit_of kind) 9223372036854775808 n (narrow kind int) small) in
    (of_integer kind text int ∙ and_from (is_numeral (without_leading_sign text)) (is_within (limit_of kind) (number_value text)) (numeral_back (without_leading_sign text) p.0) (ap (is_within (limit_of kind)) p.1 ∙ small), p.1)
