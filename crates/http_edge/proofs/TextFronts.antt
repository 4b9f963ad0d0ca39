-- Bytes in front of a text: which bytes cut short a character, and what completes them.
use Rattle.std.proofs.Common.{◌≡◌, ℕ, zero, suc, ◌+◌, ◌-◌, ◌*◌, ◌/◌, ◌%◌, ◌<◌, ◌≤◌, Bool, true, false, cond, ◌⊎◌, inl, inr, List, [], ◌∷◌, ◌++◌, length, take, drop, Option, Some, None, IsUtf8, refl, sym, ap, ◌∙◌, subst, arith, append_assoc, MatchBool, not, encode_utf8, encode_utf8_all, length-append, length-drop, take-append-drop}
use Rattle.std.specs.Int.{is_in_range}
use Rattle.std.specs.Option.{is_some}
use Rattle.std.specs.Str.{IsValidUpTo, IsErrorLen}
use Rattle.std.specs.Str.Lossy.{second_byte_min, second_byte_max, utf8_error_len}
use Rattle.std.proofs.Math.Seq.{take-add, take-append_seam}
use Rattle.std.proofs.lemmas.Bool.{cases_lt, and_parts, false≢true}
use Rattle.std.proofs.lemmas.List.{take-append-le, drop-append-le}
use Rattle.std.proofs.lemmas.Bool.Decides.{nat_tests}
use Rattle.std.proofs.lemmas.List.Elements.{All-cons, All-nil}
use Rattle.std.proofs.lemmas.Str.{IsUtf8-append, IsUtf8-drop, IsUtf8-encode, length-encode, len_utf8_bounds, IsCharBoundary-from_take}
use Rattle.std.proofs.str.Laws.{Follows, one, two, three, four}
use Rattle.std.proofs.str.Valid.{of_two, of_three, of_four}
use lib.Utf8.{scalar, scalars, scalar_cases}
use Rattle.httparse.specs.Grammar.{AllPass, is_uri_byte}
use Rattle.http_edge.specs.TextFront.{BeginsText, BeginsNoText}

-- ---- tests

passed : (b : Bool) (k : ℕ) (o : Option ℕ) → cond b o (Some k) ≡ None → (b ≡ true) × (o ≡ None)
passed true k o e = (refl, e)
passed false k o e = cc

within : (lo hi x : ℕ) → is_in_range lo hi x ≡ true → (lo ≤ x) × (x ≤ hi)
within lo hi x e = grind (arith, nat_tests)

is_within : (lo hi x : ℕ) → lo ≤ x → x ≤ hi → is_in_range lo hi x ≡ true
is_within lo hi x low high = grind (arith, nat_tests)

-- what the second byte y may be after the first byte x
pub record Second (x y : ℕ) : Type 0 where
  pub follows : Follows y
  pub after_e0 : x ≡ 224 → 160 ≤ y
  pub after_ed : x ≡ 237 → y < 160
  pub after_f0 : x ≡ 240 → 144 ≤ y
  pub after_f4 : x ≡ 244 → y < 144

second : (x y : ℕ) → is_in_range (second_byte_min x) (second_byte_max x) y ≡ true → Second x y
second x y e = record { follows = grind (arith, nat_tests); after_e0 = grind (arith, nat_tests); after_ed = grind (arith, nat_tests); after_f0 = grind (arith, nat_tests); after_f4 = grind (arith, nat_tests) }

is_second : (x y : ℕ) → Second x y → is_in_range (second_byte_min x) (second_byte_max x) y ≡ true
is_second x y s = grind (arith, nat_tests, s.follows, s.after_e0, s.after_ed, s.after_f0, s.after_f4)

-- ---- bytes that cut short a character

one_cut : (x : ℕ) → utf8_error_len (x ∷ []) ≡ None → (194 ≤ x) × (x ≤ 244)
unfolding utf8_error_len
one_cut x e = within 194 244 x (passed _ 1 None e).0

is_one_cut : (x : ℕ) → 194 ≤ x → x ≤ 244 → utf8_error_len (x ∷ []) ≡ None
unfolding utf8_error_len
is_one_cut x low high = rw (is_within 194 244 x low high) refl

two_cut : (x y : ℕ) → utf8_error_len (x ∷ y ∷ []) ≡ None → (194 ≤ x) × (x ≤ 244) × Second x y
unfolding utf8_error_len
two_cut x y e =
    let first = passed _ 1 _ e in
    let range = within 194 244 x first.0 in
    (range.0, range.1, second x y (passed _ 1 None first.1).0)

is_two_cut : (x y : ℕ) → 194 ≤ x → x ≤ 244 → Second x y → utf8_error_len (x ∷ y ∷ []) ≡ None
unfolding utf8_error_len
is_two_cut x y low high s = rw (is_within 194 244 x low high, is_second x y s) refl

three_cut : (x y z : ℕ) → utf8_error_len (x ∷ y ∷ z ∷ []) ≡ None → (194 ≤ x) × (x ≤ 244) × Second x y × Follows z
unfolding utf8_error_len
three_cut x y z e =
    let first = passed _ 1 _ e in
    let range = within 194 244 x first.0 in
    let next = passed _ 1 _ first.1 in
    let last = within 128 191 z (passed _ 2 None next.1).0 in
    (range.0, range.1, second x y next.0, (last.0, omega arith))

pub is_three_cut : (x y z : ℕ) → 194 ≤ x → x ≤ 244 → Second x y → Follows z → utf8_error_len (x ∷ y ∷ z ∷ []) ≡ None
unfolding utf8_error_len
is_three_cut x y z low high s f = rw (is_within 194 244 x low high, is_second x y s, is_within 128 191 z f.0 (omega (arith, f.1))) refl

-- ---- what completes them

-- no character stands whole in front of the bytes
abbrev pub NoFront : List ℕ → Type 0
NoFront bytes = (k : ℕ) → 0 < k → ¬ (IsUtf8 (take k bytes))

-- the bytes that complete a character, which are bytes of a target
abbrev Completion : List ℕ → Type 0
Completion bytes = (more : List ℕ) × AllPass is_uri_byte more × IsUtf8 (bytes ++ more)

next_byte : (b : ℕ) (more : List ℕ) → is_uri_byte b ≡ true → AllPass is_uri_byte more → AllPass is_uri_byte (b ∷ more)
next_byte b more passes all = All-cons (λ c. is_uri_byte c ≡ true) b more passes all

last_byte : (b : ℕ) → is_uri_byte b ≡ true → AllPass is_uri_byte (b ∷ [])
last_byte b passes = next_byte b [] passes (All-nil _)

two_bytes : (x y : ℕ) → 194 ≤ x → x < 224 → Follows y → IsUtf8 (x ∷ y ∷ [])
two_bytes x y low high f = of_two (x ∷ y ∷ []) 0 (omega arith) (low, high) f

three_low : (x y z : ℕ) → 224 ≤ x → Second x y → Follows z → 2048 ≤ (x - 224) * 4096 + (y - 128) * 64 + (z - 128)
three_low x y z low s f = elim (cases_lt 224 x) [
  | inl above ↦ omega (arith, s.follows, f)
  | inr least ↦ omega (arith, s.follows, s.after_e0 (omega arith), f)
]

three_apart : (x y z : ℕ) → 224 ≤ x → x < 240 → Second x y → Follows z → let c = (x - 224) * 4096 + (y - 128) * 64 + (z - 128) in (c < 55296) ⊎ (57344 ≤ c)
three_apart x y z low high s f = elim (cases_lt x 237) [
  | inl below ↦ inl (omega (arith, s.follows, f))
  | inr above ↦ elim (cases_lt 237 x) [
    | inl past ↦ inr (omega (arith, s.follows, f))
    | inr same ↦ inl (omega (arith, s.follows, s.after_ed (omega arith), f))
  ]
]

three_bytes : (x y z : ℕ) → 224 ≤ x → x < 240 → Second x y → Follows z → IsUtf8 (x ∷ y ∷ z ∷ [])
three_bytes x y z low high s f = of_three (x ∷ y ∷ z ∷ []) 0 (omega arith) (low, high) s.follows f (three_low x y z low s f) (three_apart x y z low high s f)

four_low : (x y : ℕ) → 240 ≤ x → Second x y → 16 ≤ (x - 240) * 64 + (y - 128)
four_low x y low s = elim (cases_lt 240 x) [
  | inl above ↦ omega (arith, s.follows)
  | inr least ↦ omega (arith, s.follows, s.after_f0 (omega arith))
]

four_high : (x y : ℕ) → 240 ≤ x → x ≤ 244 → Second x y → (x - 240) * 64 + (y - 128) < 272
four_high x y low high s = elim (cases_lt x 244) [
  | inl below ↦ omega (arith, s.follows)
  | inr greatest ↦ omega (arith, s.follows, s.after_f4 (omega arith))
]

four_bytes : (x y z w : ℕ) → 240 ≤ x → x ≤ 244 → Second x y → Follows z → Follows w → IsUtf8 (x ∷ y ∷ z ∷ w ∷ [])
four_bytes x y z w low high s f g = of_four (x ∷ y ∷ z ∷ w ∷ []) 0 (omega arith) low s.follows f g (four_low x y low s, four_high x y low high s)

-- the least byte that may be second
middle : (x : ℕ) → 224 ≤ x → x ≤ 244 → (y : ℕ) × Second x y × (is_uri_byte y ≡ true)
middle x low high = elim (cases_lt 224 x) [
  | inr low_end ↦ (160, record { follows = (omega arith, omega arith); after_e0 = λ e. omega arith; after_ed = λ e. absurd (omega arith); after_f0 = λ e. absurd (omega arith); after_f4 = λ e. absurd (omega arith) }, refl)
  | inl above ↦ elim (cases_lt x 240) [
    | inl three ↦ (128, record { follows = (omega arith, omega arith); after_e0 = λ e. absurd (omega arith); after_ed = λ e. omega arith; after_f0 = λ e. absurd (omega arith); after_f4 = λ e. absurd (omega arith) }, refl)
    | inr four ↦ elim (cases_lt 240 x) [
      | inr least ↦ (144, record { follows = (omega arith, omega arith); after_e0 = λ e. absurd (omega arith); after_ed = λ e. absurd (omega arith); after_f0 = λ e. omega arith; after_f4 = λ e. absurd (omega arith) }, refl)
      | inl more ↦ (128, record { follows = (omega arith, omega arith); after_e0 = λ e. absurd (omega arith); after_ed = λ e. absurd (omega arith); after_f0 = λ e. absurd (omega arith); after_f4 = λ e. omega arith }, refl)
    ]
  ]
]

low_follows : Follows 128
low_follows = (omega arith, omega arith)

two_lows : AllPass is_uri_byte (128 ∷ 128 ∷ [])
two_lows = next_byte 128 (128 ∷ []) refl (last_byte 128 refl)

completes_three : (x y z : ℕ) → (194 ≤ x) × (x ≤ 244) × Second x y × Follows z → NoFront (x ∷ y ∷ z ∷ []) → Completion (x ∷ y ∷ z ∷ [])
completes_three x y z (low, high, s, f) none = elim (cases_lt x 224) [
  | inl two ↦ absurd (none 2 (omega arith) (two_bytes x y low two s.follows))
  | inr above ↦ elim (cases_lt x 240) [
    | inl three ↦ absurd (none 3 (omega arith) (three_bytes x y z above three s f))
    | inr four ↦ (128 ∷ [], last_byte 128 refl, four_bytes x y z 128 four high s f low_follows)
  ]
]

completes_two : (x y : ℕ) → (194 ≤ x) × (x ≤ 244) × Second x y → NoFront (x ∷ y ∷ []) → Completion (x ∷ y ∷ [])
completes_two x y (low, high, s) none = elim (cases_lt x 224) [
  | inl two ↦ absurd (none 2 (omega arith) (two_bytes x y low two s.follows))
  | inr above ↦ elim (cases_lt x 240) [
    | inl three ↦ (128 ∷ [], last_byte 128 refl, three_bytes x y 128 above three s low_follows)
    | inr four ↦ (128 ∷ 128 ∷ [], two_lows, four_bytes x y 128 128 four high s low_follows low_follows)
  ]
]

completes_one : (x : ℕ) → (194 ≤ x) × (x ≤ 244) → Completion (x ∷ [])
completes_one x (low, high) = elim (cases_lt x 224) [
  | inl two ↦ (128 ∷ [], last_byte 128 refl, two_bytes x 128 low two low_follows)
  | inr above ↦
      let y = middle x above high in
      elim (cases_lt x 240) [
        | inl three ↦ (y.0 ∷ 128 ∷ [], next_byte y.0 (128 ∷ []) y.2 (last_byte 128 refl), three_bytes x y.0 128 above three y.1 low_follows)
        | inr four ↦ (y.0 ∷ 128 ∷ 128 ∷ [], next_byte y.0 (128 ∷ 128 ∷ []) y.2 two_lows, four_bytes x y.0 128 128 four high y.1 low_follows low_follows)
      ]
]

pub completes : (rest : List ℕ) → 0 < length rest → length rest < 4 → NoFront rest → utf8_error_len rest ≡ None → Completion rest
completes [] some few none e = absurd (omega arith)
completes (x ∷ []) some few none e = completes_one x (one_cut x e)
completes (x ∷ y ∷ []) some few none e = completes_two x y (two_cut x y e) none
completes (x ∷ y ∷ z ∷ []) some few none e = completes_three x y z (three_cut x y z e) none
completes (x ∷ y ∷ z ∷ w ∷ rest) some few none e = absurd (omega arith)

-- ---- what a character's own bytes are cut short to

ranged_two : (c : ℕ) → 128 ≤ c → c < 2048 → (194 ≤ 192 + c / 64) × (192 + c / 64 ≤ 244)
ranged_two c low high = (omega arith, omega arith)

second_of_three : (c : ℕ) → 2048 ≤ c → c < 65536 → (c < 55296) ⊎ ((57344 ≤ c) × (c < 1114112)) → Second (224 + c / 4096) (128 + c / 64 % 64)
second_of_three c low high apart = record {
  follows = (omega arith, omega arith);
  after_e0 = λ e. omega arith;
  after_ed = λ e. elim apart [ inl below ↦ omega arith | inr above ↦ omega (arith, above) ];
  after_f0 = λ e. absurd (omega arith);
  after_f4 = λ e. absurd (omega arith);
}

second_of_four : (c : ℕ) → 65536 ≤ c → c < 1114112 → Second (240 + c / 262144) (128 + c / 4096 % 64)
second_of_four c low high = record {
  follows = (omega arith, omega arith);
  after_e0 = λ e. absurd (omega arith);
  after_ed = λ e. absurd (omega arith);
  after_f0 = λ e. omega arith;
  after_f4 = λ e. omega arith;
}

cut_two : (x y k : ℕ) → 194 ≤ x → x ≤ 244 → 0 < k → k < 2 → utf8_error_len (take k (x ∷ y ∷ [])) ≡ None
cut_two x y zero low high some few = absurd (omega arith)
cut_two x y (suc zero) low high some few = is_one_cut x low high
cut_two x y (suc (suc k)) low high some few = absurd (omega arith)

cut_three : (x y z k : ℕ) → 194 ≤ x → x ≤ 244 → Second x y → 0 < k → k < 3 → utf8_error_len (take k (x ∷ y ∷ z ∷ [])) ≡ None
cut_three x y z zero low high s some few = absurd (omega arith)
cut_three x y z (suc zero) low high s some few = is_one_cut x low high
cut_three x y z (suc (suc zero)) low high s some few = is_two_cut x y low high s
cut_three x y z (suc (suc (suc k))) low high s some few = absurd (omega arith)

cut_four : (x y z w k : ℕ) → 194 ≤ x → x ≤ 244 → Second x y → Follows z → 0 < k → k < 4 → utf8_error_len (take k (x ∷ y ∷ z ∷ w ∷ [])) ≡ None
cut_four x y z w zero low high s f some few = absurd (omega arith)
cut_four x y z w (suc zero) low high s f some few = is_one_cut x low high
cut_four x y z w (suc (suc zero)) low high s f some few = is_two_cut x y low high s
cut_four x y z w (suc (suc (suc zero))) low high s f some few = is_three_cut x y z low high s f
cut_four x y z w (suc (suc (suc (suc k)))) low high s f some few = absurd (omega arith)

-- where the bytes of the character, cut short, end within it
abbrev EndsWithin : List ℕ → Type 0
EndsWithin bytes = (k : ℕ) → 0 < k → k < length bytes → utf8_error_len (take k bytes) ≡ None

ends_within : (c : ℕ) → (c < 55296) ⊎ ((57344 ≤ c) × (c < 1114112)) → c < 1114112 → EndsWithin (encode_utf8 c)
ends_within c apart top = elim (cases_lt c 128) [
  | inl h ↦ subst EndsWithin (sym (one c h)) (λ k some few. absurd (omega arith))
  | inr l ↦ elim (cases_lt c 2048) [
    | inl h ↦ subst EndsWithin (sym (two c l h)) (λ k some few. cut_two (192 + c / 64) (128 + c % 64) k (omega arith) (omega arith) some few)
    | inr m ↦ elim (cases_lt c 65536) [
      | inl h ↦ subst EndsWithin (sym (three c m h)) (λ k some few. cut_three (224 + c / 4096) (128 + c / 64 % 64) (128 + c % 64) k (omega arith) (omega arith) (second_of_three c m h apart) some few)
      | inr n ↦ subst EndsWithin (sym (four c n)) (λ k some few. cut_four (240 + c / 262144) (128 + c / 4096 % 64) (128 + c / 64 % 64) (128 + c % 64) k (omega arith) (omega arith) (second_of_four c n top) (omega arith, omega arith) some few)
    ]
  ]
]

below_top : (c : ℕ) → (c < 55296) ⊎ ((57344 ≤ c) × (c < 1114112)) → c < 1114112
below_top c (inl below) = omega arith
below_top c (inr above) = above.1

-- bytes in front of which no character stands whole, and which some bytes make a text, end within a character
cut_text : (rest more cs : List ℕ) → 0 < length rest → NoFront rest → scalars cs ≡ true → encode_utf8_all cs ≡ rest ++ more → utf8_error_len rest ≡ None
cut_text rest more [] some none all e = absurd (omega (arith, ap length e, length-append rest more))
cut_text rest more (c ∷ cs) some none all e =
    let is = and_parts (scalar c) (scalars cs) all in
    let apart = scalar_cases c is.0 in
    let char = encode_utf8 c in
    elim (cases_lt (length rest) (length char)) [
      | inl short ↦
          let same : take (length rest) char ≡ rest = sym (take-append-le (length rest) char (encode_utf8_all cs) (omega arith)) ∙ ap (take (length rest)) e ∙ take-append_seam rest more in
          sym (ap utf8_error_len same) ∙ ends_within c apart (below_top c apart) (length rest) some short
      | inr whole ↦
          let same : take (length char) rest ≡ char = sym (take-append-le (length char) rest more whole) ∙ ap (take (length char)) (sym e) ∙ take-append_seam char (encode_utf8_all cs) in
          absurd (none (length char) (omega (arith, length-encode c, len_utf8_bounds c)) (subst IsUtf8 (sym same) (IsUtf8-encode c is.0)))
    ]

no_front : (bytes : List ℕ) (n : ℕ) → IsValidUpTo bytes n → NoFront (drop n bytes)
no_front bytes n valid k some text =
    valid.longest (n + k) (omega arith) (subst IsUtf8 (sym (take-add n k bytes)) (IsUtf8-append (take n bytes) (take k (drop n bytes)) valid.front text))

parted : (bytes more : List ℕ) (n : ℕ) → take n bytes ++ (drop n bytes ++ more) ≡ bytes ++ more
parted bytes more n = sym (append_assoc (take n bytes) (drop n bytes) more) ∙ ap (λ front. front ++ more) (take-append-drop n bytes)

begins : (bytes : List ℕ) (n : ℕ) → IsValidUpTo bytes n → length bytes < n + 4 → utf8_error_len (drop n bytes) ≡ None → BeginsText bytes
begins bytes n valid few cut =
    let short = valid.short in
    let size = length-drop n bytes in
    let done = completes (drop n bytes) (omega arith) (omega arith) (no_front bytes n valid) cut in
    record { more = done.0; of_target = done.1; text = subst IsUtf8 (parted bytes done.0 n) (IsUtf8-append (take n bytes) (drop n bytes ++ done.0) valid.front done.2) }

begins_not : (bytes : List ℕ) (n k : ℕ) → IsValidUpTo bytes n → utf8_error_len (drop n bytes) ≡ Some k → BeginsNoText bytes
begins_not bytes n k valid fault = record {
  none = λ more text.
      let short = valid.short in
      let size = length-drop n bytes in
      let front = take-append-le n bytes more (omega arith) in
      let whole = length-append bytes more in
      let behind : IsUtf8 (drop n (bytes ++ more)) = IsUtf8-drop (bytes ++ more) n text (IsCharBoundary-from_take (bytes ++ more) n text (omega arith) (subst IsUtf8 (sym front) valid.front)) in
      let rest : IsUtf8 (drop n bytes ++ more) = subst IsUtf8 (drop-append-le n bytes more (omega arith)) behind in
      let cut = cut_text (drop n bytes) more rest.0 (omega arith) (no_front bytes n valid) rest.1.0 rest.1.1 in
      cc;
}

-- what the place where bytes stop being UTF-8 says
pub stops : (bytes : List ℕ) (n : ℕ) (fault : Option ℕ) (b : Bool) → IsValidUpTo bytes n → fault ≡ utf8_error_len (drop n bytes) → IsErrorLen bytes n fault → is_some fault ≡ not b
    → MatchBool b (BeginsText bytes) (BeginsNoText bytes)
stops bytes n None true valid is few same = begins bytes n valid few (sym is)
stops bytes n None false valid is few same = absurd (false≢true same)
stops bytes n (Some k) true valid is few same = absurd (false≢true (sym same))
stops bytes n (Some k) false valid is few same = begins_not bytes n k valid (sym is)
