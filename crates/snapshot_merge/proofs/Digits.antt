-- The digits of a number, one by one.
use Rattle.std.proofs.Common.{◌≡◌, ℕ, ◌+◌, ◌-◌, ◌*◌, ◌≤◌, ◌<◌, true, false, List, [], ◌∷◌, length, Ok, Err, refl, lt-ltb, le-ltb}
use Rattle.snapshot_merge.specs.VisText.{is_digit, digits_at}

pub digits_end : (n : ℕ) (rest : List ℕ) → rest ≡ [] → digits_at n rest ≡ Ok (n, rest)
unfolding digits_at
digits_end n rest e = rw e refl

pub digits_stop : (n b : ℕ) (rest bytes : List ℕ) → rest ≡ b ∷ bytes → is_digit b ≡ false → digits_at n rest ≡ Ok (n, rest)
unfolding digits_at
digits_stop n b rest bytes e other = rw e (rw other refl)

pub digits_pass : (n b : ℕ) (rest bytes : List ℕ) → rest ≡ b ∷ bytes → is_digit b ≡ true → 18446744073709551615 < n * 10 + (b - 48) → digits_at n rest ≡ Err (length rest)
unfolding digits_at
digits_pass n b rest bytes e digit over = rw e (rw (digit, lt-ltb 18446744073709551615 (n * 10 + (b - 48)) over) refl)

pub digits_more : (n b more : ℕ) (rest bytes : List ℕ) → rest ≡ b ∷ bytes → is_digit b ≡ true → n * 10 + (b - 48) ≤ 18446744073709551615 → more ≡ n * 10 + (b - 48) → digits_at more bytes ≡ digits_at n rest
unfolding digits_at
digits_more n b more rest bytes e digit fits is = rw (e, is) (rw (digit, le-ltb 18446744073709551615 (n * 10 + (b - 48)) fits) refl)
