-- A wrong byte lies in the text.
use Rattle.std.proofs.Common.{◌≡◌, ℕ, zero, suc, ◌+◌, ◌-◌, ◌*◌, ◌≤◌, zero-le, le_refl, le_trans, Bool, true, false, cond, ◌&&◌, eqb, leb, ltb, List, [], ◌∷◌, length, Result, Ok, Err, MatchResult, IfErr, arith}
use Rattle.std.proofs.lemmas.Result.{IfErr-at_err}
use Rattle.snapshot_merge.specs.VisText.{Read, ◌>>=◌, is_digit, digits_at, decimal_at, if_within, number_at, byte_at, one_more, after_number, numbers_within, listed_at, visibility_of}

-- what is left after a part, or from the wrong byte on, is at most so much
abbrev IsAtMost : {A : Type 0} → ℕ → (A → ℕ) → Result A ℕ → Type 0
IsAtMost most left r = MatchResult r (λ x. left x ≤ most) (λ l. l ≤ most)

abbrev Keeps : ℕ → Read ℕ → Type 0
Keeps most r = IsAtMost most (λ x. length x.1) r

abbrev Ends : {A : Type 0} → ℕ → Result A ℕ → Type 0
Ends most r = IfErr r (λ l. l ≤ most)

one_suc : (n : ℕ) → n ≤ suc n
one_suc n = omega arith

keeps_more : (m n : ℕ) (r : Read ℕ) → m ≤ n → Keeps m r → Keeps n r
keeps_more m n (Ok x) le h = le_trans h le
keeps_more m n (Err l) le h = le_trans h le

ends_more : {A : Type 0} → (m n : ℕ) (r : Result A ℕ) → m ≤ n → Ends m r → Ends n r
ends_more m n (Ok x) le h = tt
ends_more m n (Err l) le h = le_trans h le

digit_keeps : (n b : ℕ) (bytes : List ℕ) (p q : Bool) (r : Read ℕ) → Keeps (length bytes) r → Keeps (suc (length bytes)) (cond p (cond q (Err (suc (length bytes))) r) (Ok (n, b ∷ bytes)))
digit_keeps n b bytes false q r h = le_refl (suc (length bytes))
digit_keeps n b bytes true true r h = le_refl (suc (length bytes))
digit_keeps n b bytes true false r h = keeps_more (length bytes) (suc (length bytes)) r (one_suc (length bytes)) h

digits_keep : (bytes : List ℕ) (n : ℕ) → Keeps (length bytes) (digits_at n bytes)
unfolding digits_at
digits_keep [] n = zero-le
digits_keep (b ∷ bytes) n = digit_keeps n b bytes (is_digit b) (ltb 18446744073709551615 (n * 10 + (b - 48))) (digits_at (n * 10 + (b - 48)) bytes) (digits_keep bytes (n * 10 + (b - 48)))

first_keeps : (bytes : List ℕ) (p q : Bool) (r : Read ℕ) → Keeps (length bytes) r → Keeps (suc (length bytes)) (cond p (Ok (0, bytes)) (cond q r (Err (suc (length bytes)))))
first_keeps bytes true q r h = one_suc (length bytes)
first_keeps bytes false true r h = keeps_more (length bytes) (suc (length bytes)) r (one_suc (length bytes)) h
first_keeps bytes false false r h = le_refl (suc (length bytes))

decimal_keeps : (bytes : List ℕ) → Keeps (length bytes) (decimal_at bytes)
decimal_keeps [] = zero-le
decimal_keeps (b ∷ bytes) = first_keeps bytes (eqb b 48) (is_digit b) (digits_at (b - 48) bytes) (digits_keep bytes (b - 48))

tested_keeps : (most : ℕ) (x : ℕ × List ℕ) (p : Bool) → length x.1 ≤ most → Keeps most (cond p (Ok x) (Err most))
tested_keeps most x true h = h
tested_keeps most x false h = le_refl most

within_keeps : (low high most : ℕ) (r : Read ℕ) → Keeps most r → Keeps most (r >>= if_within low high most)
within_keeps low high most (Ok x) h = tested_keeps most x (leb low x.0 && leb x.0 high) h
within_keeps low high most (Err l) h = h

number_keeps : (low high : ℕ) (bytes : List ℕ) → Keeps (length bytes) (number_at low high bytes)
number_keeps low high bytes = within_keeps low high (length bytes) (decimal_at bytes) (decimal_keeps bytes)

-- a part, and then what ends in what the part left
number_then : {B : Type 0} → (most : ℕ) (r : Read ℕ) (f : ℕ × List ℕ → Result B ℕ) → Keeps most r → ((x : ℕ × List ℕ) → Ends (length x.1) (f x)) → Ends most (r >>= f)
number_then most (Ok x) f h later = ends_more (length x.1) most (f x) h (later x)
number_then most (Err l) f h later = h

tested_then : {B : Type 0} → (bytes : List ℕ) (p : Bool) (f : List ℕ → Result B ℕ) → ((rest : List ℕ) → Ends (length rest) (f rest)) → Ends (suc (length bytes)) (cond p (Ok bytes) (Err (suc (length bytes))) >>= f)
tested_then bytes true f later = ends_more (length bytes) (suc (length bytes)) (f bytes) (one_suc (length bytes)) (later bytes)
tested_then bytes false f later = le_refl (suc (length bytes))

byte_then : {B : Type 0} → (wanted : ℕ) (bytes : List ℕ) (f : List ℕ → Result B ℕ) → ((rest : List ℕ) → Ends (length rest) (f rest)) → Ends (length bytes) (byte_at wanted bytes >>= f)
byte_then wanted [] f later = zero-le
byte_then wanted (b ∷ bytes) f later = tested_then bytes (eqb b wanted) f later

comma_ends : (n : ℕ) (bytes : List ℕ) (p : Bool) (r : Result (List ℕ) ℕ) → Ends (length bytes) r → Ends (suc (length bytes)) (cond p (one_more n r) (Err (suc (length bytes))))
comma_ends n bytes true (Ok ns) h = tt
comma_ends n bytes true (Err l) h = le_trans h (one_suc (length bytes))
comma_ends n bytes false r h = le_refl (suc (length bytes))

after_ends : (later : ℕ → List ℕ → Result (List ℕ) ℕ) → ((low : ℕ) (bytes : List ℕ) → Ends (length bytes) (later low bytes)) → (x : ℕ × List ℕ) → Ends (length x.1) (after_number later x)
after_ends later h (n, []) = tt
after_ends later h (n, b ∷ bytes) = comma_ends n bytes (eqb b 44) (later (n + 1) bytes) (h (n + 1) bytes)

numbers_end : (most high low : ℕ) (bytes : List ℕ) → Ends (length bytes) (numbers_within most high low bytes)
unfolding numbers_within
numbers_end zero high low bytes = le_refl (length bytes)
numbers_end (suc most) high low bytes = number_then (length bytes) (number_at low high bytes) (after_number (numbers_within most high)) (number_keeps low high bytes) (after_ends (numbers_within most high) (numbers_end most high))

listed_end : (low high : ℕ) (bytes : List ℕ) → Ends (length bytes) (listed_at low high bytes)
listed_end low high [] = tt
listed_end low high (b ∷ bytes) = numbers_end (length (b ∷ bytes)) high low (b ∷ bytes)

listed_then : {B : Type 0} → (low high : ℕ) (f : List ℕ → B) (most : ℕ) (r : Result (List ℕ) ℕ) → Ends most r → Ends most (r >>= λ ns. Ok (f ns))
listed_then low high f most (Ok ns) h = tt
listed_then low high f most (Err l) h = h

visibility_ends : (text : List ℕ) → Ends (length text) (visibility_of text)
visibility_ends text =
    number_then (length text) (number_at 1 18446744073709551615 text) _ (number_keeps 1 18446744073709551615 text) (λ xmin.
    byte_then 58 xmin.1 _ (λ second. number_then (length second) (number_at xmin.0 18446744073709551615 second) _ (number_keeps xmin.0 18446744073709551615 second) (λ xmax.
    byte_then 58 xmax.1 _ (λ third. listed_then xmin.0 (xmax.0 - 1) (λ ns. record { xmin = xmin.0; xmax = xmax.0; listed = ns }) (length third) (listed_at xmin.0 (xmax.0 - 1) third) (listed_end xmin.0 (xmax.0 - 1) third)))))

pub place_of : (text : List ℕ) (left place : ℕ) → visibility_of text ≡ Err left → place ≡ length text - left → (place ≤ length text) × (visibility_of text ≡ Err (length text - place))
place_of text left place e is =
    let le : left ≤ length text = IfErr-at_err (λ l. l ≤ length text) e (visibility_ends text) in
    let back : left ≡ length text - place = omega (arith, le, is) in
    (omega (arith, is), rw back at e)
