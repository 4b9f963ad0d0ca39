-- The texts of pg_current_snapshot (PostgreSQL manual, 9.27.8 Transaction ID and Snapshot Information Functions): `xmin:xmax:list`, three parts of canonical decimals
-- of 64 bits, the list empty or joined by commas.
use Rattle.std.specs.Prelude.{ℕ, zero, suc, ◌+◌, ◌-◌, ◌*◌, List, [], ◌∷◌, length, Bool, ◌&&◌, ◌==◌, nat_lt, nat_le, if◌then◌else◌, Result, Ok, Err}
use Rattle.shape_base.specs.Visibility.{Visibility}

-- A part and the bytes after it; or how many bytes there are from the wrong one on.
abbrev pub Read : Type 0 → Type 0
Read A = Result (A × List ℕ) ℕ

infixl 10 ◌>>=◌
-- one step, and the next where it did not stop
abbrev pub ◌>>=◌ : {A B : Type 0} → Result A ℕ → (A → Result B ℕ) → Result B ℕ
(Ok x) >>= f = f x
(Err left) >>= f = Err left

abbrev pub is_digit : ℕ → Bool
is_digit b = nat_le 48 b && nat_le b 57

-- A number and the digits that follow. A digit by which it passes 64 bits cannot stand there.
unfoldable pub digits_at : ℕ → List ℕ → Read ℕ
digits_at n [] = Ok (n, [])
digits_at n (b ∷ bytes) =
    if is_digit b then (if nat_lt 18446744073709551615 (n * 10 + (b - 48)) then Err (suc (length bytes)) else digits_at (n * 10 + (b - 48)) bytes)
    else Ok (n, b ∷ bytes)

-- a canonical decimal: 0, or digits that do not begin with it
abbrev pub decimal_at : List ℕ → Read ℕ
decimal_at [] = Err 0
decimal_at (b ∷ bytes) = if b == 48 then Ok (0, bytes) else if is_digit b then digits_at (b - 48) bytes else Err (suc (length bytes))

abbrev pub if_within : ℕ → ℕ → ℕ → ℕ × List ℕ → Read ℕ
if_within low high left x = if nat_le low x.0 && nat_le x.0 high then Ok x else Err left

-- a number from low up to high; where it is another one, it is wrong from its first byte on
abbrev pub number_at : ℕ → ℕ → List ℕ → Read ℕ
number_at low high bytes = decimal_at bytes >>= if_within low high (length bytes)

-- this byte
abbrev pub byte_at : ℕ → List ℕ → Result (List ℕ) ℕ
byte_at wanted [] = Err 0
byte_at wanted (b ∷ bytes) = if b == wanted then Ok bytes else Err (suc (length bytes))

abbrev pub one_more : ℕ → Result (List ℕ) ℕ → Result (List ℕ) ℕ
one_more n rest = rest >>= λ ns. Ok (n ∷ ns)

-- after a number the text ends, or a comma and a greater number follow
abbrev pub after_number : (ℕ → List ℕ → Result (List ℕ) ℕ) → ℕ × List ℕ → Result (List ℕ) ℕ
after_number later (n, []) = Ok (n ∷ [])
after_number later (n, b ∷ bytes) = if b == 44 then one_more n (later (n + 1) bytes) else Err (suc (length bytes))

-- at most `most` numbers, which rise, from low up to high
unfoldable pub numbers_within : ℕ → ℕ → ℕ → List ℕ → Result (List ℕ) ℕ
numbers_within zero high low bytes = Err (length bytes)
numbers_within (suc most) high low bytes = number_at low high bytes >>= after_number (numbers_within most high)

-- the listed ids, to the end of the text
abbrev pub listed_at : ℕ → ℕ → List ℕ → Result (List ℕ) ℕ
listed_at low high [] = Ok []
listed_at low high (b ∷ bytes) = numbers_within (length (b ∷ bytes)) high low (b ∷ bytes)

-- The parts of a text: xmin is at least 1, xmax is at least xmin, and the listed ids rise from xmin up to below xmax. Or how many bytes there are from the first on that
-- cannot stand there, or from the number on that breaks a bound.
abbrev pub visibility_of : List ℕ → Result Visibility ℕ
visibility_of text =
    number_at 1 18446744073709551615 text >>= λ xmin. byte_at 58 xmin.1 >>= λ second. number_at xmin.0 18446744073709551615 second >>= λ xmax. byte_at 58 xmax.1
    >>= λ third. listed_at xmin.0 (xmax.0 - 1) third >>= λ listed. Ok (record { xmin = xmin.0; xmax = xmax.0; listed = listed })
