-- From what is read back to the bytes.
use Rattle.std.proofs.Common.{◌≡◌, ◌⊎◌, inl, inr, ℕ, zero, suc, ◌+◌, ◌-◌, ◌<◌, ◌≤◌, Bool, true, false, cond, not, ◌&&◌, ◌||◌, ltb, eqb, List, [], ◌∷◌, ◌++◌, length, take, drop, replicate, Option, None, Some, Result, Ok, Err, refl, sym, ap, subst, ◌∙◌, append_assoc, arith}
use Rattle.std.specs.Int.{w32, to_be_bytes, from_be_bytes}
use Rattle.std.proofs.lemmas.Bool.{ltb-false, ltb-true, le-ltb}
use Rattle.std.proofs.lemmas.List.{take_at, length-append, length-take, length-drop, take-append-drop, length-replicate}
use Rattle.std.proofs.Math.Seq.{take-add}
use Rattle.byte_format.specs.Format.{int32}
use Rattle.byte_format.proofs.Codec.{IsBytes, chosen, int32_is, wide32}
use Rattle.pg_wire.specs.declared.frame.Frame.{Frame}
use Rattle.pg_wire.specs.declared.frame.FrameError.{FrameError}
use Rattle.pg_wire.specs.declared.frame.FrameError.TheVariants.{BadFrame, FrameTooLong}
use Rattle.pg_wire.specs.FrameList.{is_type, may_be_data, may_be, Whole, whole_if, payload_at, length_at, whole_at, content, Beginning, Unfinished, Framed, Refused, with_size, beginning_of, beginning}
use Rattle.pg_wire.specs.Laws.{IsFrame, frame_bytes, FramedBytes, UnfinishedBytes, RefusedBytes, IsFramed, Continues, found}
use Rattle.pg_wire.proofs.CuttingLaws.{stays_refused}
use Rattle.pg_wire.proofs.Reading.{whole_frames}

-- ---- a type byte, four bytes of length, and a payload that is all there

pub record Header (kind : ℕ) (bytes : List ℕ) (x : ℕ × ℕ) : Type 0 where
  pub kind_is : x.0 ≡ kind
  pub known : is_type kind ≡ true
  pub sized : 4 ≤ length bytes
  pub len : from_be_bytes w32 (take 4 bytes) ≡ 4 + x.1
  pub short : 4 + x.1 ≤ 67109888
  pub may : may_be kind x.1 (drop 4 bytes) ≡ true
  pub there : x.1 ≤ length (drop 4 bytes)

found_is : (x y : ℕ × ℕ) → found x ≡ found y → x ≡ y
found_is x y e = cc

not_true : (b : Bool) → not b ≡ true → b ≡ false
not_true true e = absurd cc
not_true false e = refl

not_false : (b : Bool) → not b ≡ false → b ≡ true
not_false true e = refl
not_false false e = absurd cc

-- the payload's kind and length, and that it may be and is there
payload_found : (place kind len : ℕ) (rest : List ℕ) (x : ℕ × ℕ) → payload_at place kind len rest ≡ found x → (x ≡ (kind, len)) × (may_be kind len rest ≡ true) × (len ≤ length rest)
unfolding payload_at
payload_found place kind len rest x e =
    elim (chosen (may_be kind len rest) (whole_if (not (ltb (length rest) len)) kind len) (Err (BadFrame place)) (found x) e) [
      | inl h ↦ elim (chosen (not (ltb (length rest) len)) (found (kind, len)) (Ok None) (found x) h.1) [
        | inl k ↦ (sym (found_is (kind, len) x k.1), h.0, ltb-false (length rest) len (not_true (ltb (length rest) len) k.0))
        | inr k ↦ absurd (let w = k.1 in cc)
      ]
      | inr h ↦ absurd (let w = h.1 in cc)
    ]

length_found : (place kind len : ℕ) (rest : List ℕ) (x : ℕ × ℕ) → length_at place kind len rest ≡ found x → (len ≤ 67109888) × (4 ≤ len) × (x ≡ (kind, len - 4)) × (may_be kind (len - 4) rest ≡ true) × (len - 4 ≤ length rest)
unfolding length_at
length_found place kind len rest x e =
    elim (chosen (ltb 67109888 len) (Err (FrameTooLong place len 67109888)) (cond (ltb len 4) (Err (BadFrame place)) (payload_at place kind (len - 4) rest)) (found x) e) [
      | inl h ↦ absurd (let w = h.1 in cc)
      | inr h ↦ elim (chosen (ltb len 4) (Err (BadFrame place)) (payload_at place kind (len - 4) rest) (found x) h.1) [
        | inl k ↦ absurd (let w = k.1 in cc)
        | inr k ↦ let p = payload_found place kind (len - 4) rest x k.1 in (ltb-false 67109888 len h.0, ltb-false len 4 k.0, p.0, p.1, p.2)
      ]
    ]

abbrev sized : ℕ → ℕ → List ℕ → Whole
sized place kind bytes = length_at place kind (from_be_bytes w32 (take 4 bytes)) (drop 4 bytes)

header : (place kind : ℕ) (bytes : List ℕ) (x : ℕ × ℕ) → whole_at place (kind ∷ bytes) ≡ found x → Header kind bytes x
unfolding whole_at
header place kind bytes x e =
    elim (chosen (is_type kind) (cond (ltb (length bytes) 4) (Ok None) (sized place kind bytes)) (Err (BadFrame place)) (found x) e) [
      | inl h ↦ elim (chosen (ltb (length bytes) 4) (Ok None) (sized place kind bytes) (found x) h.1) [
        | inl k ↦ absurd (let w = k.1 in cc)
        | inr k ↦
            let len = from_be_bytes w32 (take 4 bytes) in
            let p = length_found place kind len (drop 4 bytes) x k.1 in
            let size : x.1 ≡ len - 4 = ap (λ (y : ℕ × ℕ). y.1) p.2 in
            record {
              kind_is = ap (λ (y : ℕ × ℕ). y.0) p.2;
              known = h.0;
              sized = ltb-false (length bytes) 4 k.0;
              len = omega (arith, p.1, size);
              short = omega (arith, p.0, p.1, size);
              may = ap (λ (n : ℕ). may_be kind n (drop 4 bytes)) size ∙ p.3;
              there = omega (arith, p.4, size);
            }
      ]
      | inr h ↦ absurd (let w = h.1 in cc)
    ]

-- the four bytes of a length
length_bytes : (bytes : List ℕ) → IsBytes bytes → 4 ≤ length bytes → take 4 bytes ≡ int32.spell (from_be_bytes w32 (take 4 bytes))
length_bytes bytes h le =
    let n = from_be_bytes w32 (take 4 bytes) in
    let long : ltb (length bytes) 4 ≡ false = le-ltb _ _ le in
    let read : int32.read bytes ≡ Ok (n, drop 4 bytes) = rw long refl in
    let t = int32_is.takes bytes n (drop 4 bytes) h read in
    ap (take 4) t.0.parts ∙ take_at (int32.spell n) (drop 4 bytes) 4 (wide32.len n)

zero_may : (a u v c : Bool) → cond a ((u && false) || (v && false)) c ≡ true → cond a false c ≡ true
zero_may false u v c e = e
zero_may true true true c e = absurd cc
zero_may true true false c e = absurd cc
zero_may true false true c e = absurd cc
zero_may true false false c e = absurd cc

-- a payload begins as what follows
may_front : (kind n : ℕ) (rest : List ℕ) → n ≤ length rest → may_be kind n rest ≡ true → may_be kind n (take n rest) ≡ true
may_front kind zero [] le e = e
may_front kind zero (b ∷ rest) le e = zero_may (eqb kind 100) (eqb b 119) (eqb b 107) (cond (eqb kind 99) true true) e
may_front kind (suc n) [] le e = absurd (omega (arith, le))
may_front kind (suc n) (b ∷ rest) le e = e

-- ---- a whole frame

size_of : (n : ℕ) (r : Result (Option Frame) FrameError) (given : Option Frame) (size : ℕ) → with_size n r ≡ Framed given size → (n ≡ size) × (r ≡ Ok given)
size_of n (Ok o) given size e = (ap (λ (f : Beginning). elim f [ Unfinished ↦ 0 | Framed g s ↦ s | Refused r ↦ 0 ]) e, ap (λ (f : Beginning). elim f [ Unfinished ↦ Ok o | Framed g s ↦ Ok g | Refused r ↦ Ok o ]) e)
size_of n (Err error) given size e = absurd cc

framed_bytes : (place kind : ℕ) (bytes : List ℕ) (given : Option Frame) (size : ℕ) (x : ℕ × ℕ) → IsBytes bytes → Header kind bytes x → 5 + x.1 ≡ size → content place x.0 (take x.1 (drop 4 bytes)) ≡ Ok given → IsFramed place (kind ∷ bytes) given size
framed_bytes place kind bytes given size x h w same gives =
    let payload = take x.1 (drop 4 bytes) in
    let len : length payload ≡ x.1 = omega (arith, length-take x.1 (drop 4 bytes), w.there) in
    let sized : take 4 bytes ≡ int32.spell (4 + length payload) = length_bytes bytes h w.sized ∙ ap int32.spell (w.len ∙ ap (λ (n : ℕ). 4 + n) (sym len)) in
    let all : take (4 + x.1) bytes ≡ int32.spell (4 + length payload) ++ payload = take-add 4 x.1 bytes ∙ ap (λ (xs : List ℕ). xs ++ payload) sized in
    let count : size ≡ suc (4 + x.1) = omega (arith, same) in
    record {
      kind = kind;
      payload = payload;
      frame = record { known = w.known; may = ap (λ (n : ℕ). may_be kind n payload) len ∙ may_front kind x.1 (drop 4 bytes) w.there w.may; short = omega (arith, len, w.short) };
      stands = ap (λ (n : ℕ). take n (kind ∷ bytes)) count ∙ ap (λ (xs : List ℕ). kind ∷ xs) all;
      gives = ap (λ (k : ℕ). content place k payload) (sym w.kind_is) ∙ gives;
    }

framed_by : (place : ℕ) (bytes : List ℕ) (given : Option Frame) (size : ℕ) (r : Whole) → IsBytes bytes → whole_at place bytes ≡ r → beginning_of place bytes r ≡ Framed given size → IsFramed place bytes given size
unfolding whole_at
framed_by place bytes given size (Ok None) h e f = absurd cc
framed_by place bytes given size (Err error) h e f = absurd cc
framed_by place [] given size (Ok (Some x)) h e f = absurd cc
framed_by place (kind ∷ bytes) given size (Ok (Some x)) h e f =
    let s = size_of (5 + x.1) (content place x.0 (take x.1 (drop 4 bytes))) given size f in
    framed_bytes place kind bytes given size x h.1 (header place kind bytes x e) s.0 s.1

pub framed_bytes_law : FramedBytes
unfolding beginning
framed_bytes_law place bytes given size h e = framed_by place bytes given size (whole_at place bytes) h refl e

-- ---- a refusal

pub refused_bytes_law : RefusedBytes
refused_bytes_law place bytes error e more tail kind payload given w gives same =
    let one = stays_refused place bytes more error e in
    let two : beginning place (bytes ++ more) ≡ Framed given (5 + length payload) = ap (beginning place) same ∙ whole_frames place kind payload tail w ∙ ap (with_size (5 + length payload)) gives in
    absurd (let k = sym one ∙ two in cc)

-- ---- what is unfinished

-- a type byte and four bytes of length, and a payload that may begin so and is not all there
pub record Open (kind : ℕ) (bytes : List ℕ) (n : ℕ) : Type 0 where
  pub known : is_type kind ≡ true
  pub sized : 4 ≤ length bytes
  pub len : from_be_bytes w32 (take 4 bytes) ≡ 4 + n
  pub short : 4 + n ≤ 67109888
  pub may : may_be kind n (drop 4 bytes) ≡ true
  pub few : length (drop 4 bytes) < n

none : Whole
none = Ok None

payload_open : (place kind len : ℕ) (rest : List ℕ) → payload_at place kind len rest ≡ none → (may_be kind len rest ≡ true) × (length rest < len)
unfolding payload_at none
payload_open place kind len rest e =
    elim (chosen (may_be kind len rest) (whole_if (not (ltb (length rest) len)) kind len) (Err (BadFrame place)) (Ok None) e) [
      | inl h ↦ elim (chosen (not (ltb (length rest) len)) (found (kind, len)) (Ok None) (Ok None) h.1) [
        | inl k ↦ absurd (let w = k.1 in cc)
        | inr k ↦ (h.0, ltb-true (length rest) len (not_false (ltb (length rest) len) k.0))
      ]
      | inr h ↦ absurd (let w = h.1 in cc)
    ]

length_open : (place kind len : ℕ) (rest : List ℕ) → length_at place kind len rest ≡ none → (len ≤ 67109888) × (4 ≤ len) × (may_be kind (len - 4) rest ≡ true) × (length rest < len - 4)
unfolding length_at none
length_open place kind len rest e =
    elim (chosen (ltb 67109888 len) (Err (FrameTooLong place len 67109888)) (cond (ltb len 4) (Err (BadFrame place)) (payload_at place kind (len - 4) rest)) (Ok None) e) [
      | inl h ↦ absurd (let w = h.1 in cc)
      | inr h ↦ elim (chosen (ltb len 4) (Err (BadFrame place)) (payload_at place kind (len - 4) rest) (Ok None) h.1) [
        | inl k ↦ absurd (let w = k.1 in cc)
        | inr k ↦ let p = payload_open place kind (len - 4) rest k.1 in (ltb-false 67109888 len h.0, ltb-false len 4 k.0, p.0, p.1)
      ]
    ]

open_header : (place kind : ℕ) (bytes : List ℕ) → whole_at place (kind ∷ bytes) ≡ none → (length bytes < 4) ⊎ ((n : ℕ) × Open kind bytes n)
unfolding whole_at none
open_header place kind bytes e =
    elim (chosen (is_type kind) (cond (ltb (length bytes) 4) (Ok None) (sized place kind bytes)) (Err (BadFrame place)) (Ok None) e) [
      | inl h ↦ elim (chosen (ltb (length bytes) 4) (Ok None) (sized place kind bytes) (Ok None) h.1) [
        | inl k ↦ inl (ltb-true (length bytes) 4 k.0)
        | inr k ↦
            let len = from_be_bytes w32 (take 4 bytes) in
            let p = length_open place kind len (drop 4 bytes) k.1 in
            inr (len - 4, record { known = h.0; sized = ltb-false (length bytes) 4 k.0; len = omega (arith, p.1); short = omega (arith, p.0, p.1); may = p.2; few = p.3 })
      ]
      | inr h ↦ absurd (let w = h.1 in cc)
    ]

-- a first byte of a payload of which none is there yet
first_by : (a l q c : Bool) (n : ℕ) → ltb n 25 ≡ l → eqb n 18 ≡ q → cond a (not l || q) c ≡ true
    → (f : ℕ) × (cond a ((eqb f 119 && not l) || (eqb f 107 && q)) c ≡ true)
first_by false l q c n e g h = (0, h)
first_by true false q c n e g h = (119, refl)
first_by true true true c n e g h = (107, refl)
first_by true true false c n e g h = absurd cc

first_byte : (kind n : ℕ) → may_be kind n [] ≡ true → (f : ℕ) × ((xs : List ℕ) → may_be kind n (f ∷ xs) ≡ true)
first_byte kind n h = let p = first_by (eqb kind 100) (ltb n 25) (eqb n 18) (cond (eqb kind 99) (eqb n 0) true) n refl refl h in (p.0, λ xs. p.1)

-- how a payload goes on that may begin so
rest_of : (kind n : ℕ) (rest : List ℕ) → may_be kind n rest ≡ true → length rest < n → (more : List ℕ) × (length (rest ++ more) ≡ n) × (may_be kind n (rest ++ more) ≡ true)
rest_of kind n [] h lt =
    let f = first_byte kind n h in
    (f.0 ∷ replicate (n - 1) 0, omega (arith, lt, length-replicate {A = ℕ} (n - 1) 0), f.1 (replicate (n - 1) 0))
rest_of kind n (b ∷ rest) h lt = (replicate (n - length (b ∷ rest)) 0, omega (arith, lt, length-append rest (replicate (n - length (b ∷ rest)) 0), length-replicate {A = ℕ} (n - length (b ∷ rest)) 0), h)

continues : (kind n : ℕ) (bytes : List ℕ) → IsBytes bytes → Open kind bytes n → Continues (kind ∷ bytes)
continues kind n bytes h w =
    let r = rest_of kind n (drop 4 bytes) w.may w.few in
    let payload = drop 4 bytes ++ r.0 in
    let sized : take 4 bytes ≡ int32.spell (4 + length payload) = length_bytes bytes h w.sized ∙ ap int32.spell (w.len ∙ ap (λ (m : ℕ). 4 + m) (sym r.1)) in
    record {
      kind = kind;
      payload = payload;
      more = r.0;
      frame = record { known = w.known; may = ap (λ (m : ℕ). may_be kind m payload) r.1 ∙ r.2; short = omega (arith, r.1, w.short) };
      goes_on = ap (λ (xs : List ℕ). kind ∷ (xs ++ r.0)) (sym (take-append-drop 4 bytes)) ∙ ap (λ (xs : List ℕ). kind ∷ xs) (append_assoc (take 4 bytes) (drop 4 bytes) r.0) ∙ ap (λ (xs : List ℕ). kind ∷ (xs ++ payload)) sized;
    }

with_size_ends : (n : ℕ) (r : Result (Option Frame) FrameError) → with_size n r ≡ Unfinished → ⊥
with_size_ends n (Ok o) e = cc
with_size_ends n (Err error) e = cc

unfinished_by : (place : ℕ) (bytes : List ℕ) (r : Whole) → IsBytes bytes → whole_at place bytes ≡ r → beginning_of place bytes r ≡ Unfinished → (length bytes < 5) ⊎ Continues bytes
unfolding none
unfinished_by place bytes (Ok (Some x)) h e f = absurd (with_size_ends (5 + x.1) (content place x.0 (take x.1 (drop 5 bytes))) f)
unfinished_by place bytes (Err error) h e f = absurd cc
unfinished_by place [] (Ok None) h e f = inl (omega arith)
unfinished_by place (kind ∷ bytes) (Ok None) h e f =
    elim (open_header place kind bytes e) [
      | inl few ↦ inl (omega (arith, few))
      | inr w ↦ inr (continues kind w.0 bytes h.1 w.1)
    ]

pub unfinished_bytes_law : UnfinishedBytes
unfolding beginning
unfinished_bytes_law place bytes h e = unfinished_by place bytes (whole_at place bytes) h refl e
