-- What stands first stays, however the bytes go on; and it lies within the bytes.
use Rattle.std.proofs.Common.{◌≡◌, ◌⊎◌, inl, inr, ℕ, zero, suc, ◌+◌, ◌-◌, ◌≤◌, Bool, true, false, cond, eqb, ltb, not, ◌&&◌, ◌||◌, List, [], ◌∷◌, ◌++◌, length, take, drop, Option, None, Some, Result, Ok, Err, refl, ap, ◌∙◌, arith}
use Rattle.std.specs.Int.{w32, from_be_bytes}
use Rattle.std.proofs.lemmas.Bool.{ltb-false, le-ltb}
use Rattle.std.proofs.lemmas.List.{take-append-le, drop-append-le, length-append, length-drop}
use Rattle.byte_format.proofs.Codec.{chosen}
use Rattle.pg_wire.specs.declared.frame.Frame.{Frame}
use Rattle.pg_wire.specs.declared.frame.FrameError.{FrameError}
use Rattle.pg_wire.specs.declared.frame.FrameError.TheVariants.{BadFrame, FrameTooLong}
use Rattle.pg_wire.specs.FrameList.{is_type, may_be_data, may_be, Whole, whole_if, payload_at, length_at, whole_at, content, Beginning, Unfinished, Framed, Refused, with_size, beginning_of, beginning}

-- ---- sizes

abbrev found : ℕ × ℕ → Whole
found x = Ok (Some x)

found_is : (x y : ℕ × ℕ) → found x ≡ found y → x ≡ y
found_is x y e = cc

not_true : (b : Bool) → not b ≡ true → b ≡ false
not_true true e = absurd cc
not_true false e = refl

whole_if_size : (len n kind : ℕ) (x : ℕ × ℕ) → whole_if (not (ltb n len)) kind len ≡ found x → x.1 ≤ n
whole_if_size len n kind x e =
    elim (chosen (not (ltb n len)) (found (kind, len)) (Ok None) (found x) e) [
      | inl h ↦ let same = ap (λ (y : ℕ × ℕ). y.1) (found_is (kind, len) x h.1) in omega (arith, ltb-false n len (not_true (ltb n len) h.0), same)
      | inr h ↦ absurd (let w = h.1 in cc)
    ]

payload_size : (place kind len : ℕ) (rest : List ℕ) (x : ℕ × ℕ) → payload_at place kind len rest ≡ found x → x.1 ≤ length rest
unfolding payload_at
payload_size place kind len rest x e =
    elim (chosen (may_be kind len rest) (whole_if (not (ltb (length rest) len)) kind len) (Err (BadFrame place)) (found x) e) [
      | inl h ↦ whole_if_size len (length rest) kind x h.1
      | inr h ↦ absurd (let w = h.1 in cc)
    ]

length_size : (place kind len : ℕ) (rest : List ℕ) (x : ℕ × ℕ) → length_at place kind len rest ≡ found x → x.1 ≤ length rest
unfolding length_at
length_size place kind len rest x e =
    elim (chosen (ltb 67109888 len) (Err (FrameTooLong place len 67109888)) (cond (ltb len 4) (Err (BadFrame place)) (payload_at place kind (len - 4) rest)) (found x) e) [
      | inl h ↦ absurd (let w = h.1 in cc)
      | inr h ↦ elim (chosen (ltb len 4) (Err (BadFrame place)) (payload_at place kind (len - 4) rest) (found x) h.1) [
        | inl k ↦ absurd (let w = k.1 in cc)
        | inr k ↦ payload_size place kind (len - 4) rest x k.1
      ]
    ]

abbrev sized : ℕ → ℕ → List ℕ → Whole
sized place kind bytes = length_at place kind (from_be_bytes w32 (take 4 bytes)) (drop 4 bytes)

pub whole_size : (place : ℕ) (bytes : List ℕ) (x : ℕ × ℕ) → whole_at place bytes ≡ found x → 5 + x.1 ≤ length bytes
unfolding whole_at
whole_size place [] x e = absurd cc
whole_size place (kind ∷ bytes) x e =
    elim (chosen (is_type kind) (cond (ltb (length bytes) 4) (Ok None) (sized place kind bytes)) (Err (BadFrame place)) (found x) e) [
      | inl h ↦ elim (chosen (ltb (length bytes) 4) (Ok None) (sized place kind bytes) (found x) h.1) [
        | inl k ↦ absurd (let w = k.1 in cc)
        | inr k ↦ omega (arith, ltb-false (length bytes) 4 k.0, length-drop 4 bytes, length_size place kind (from_be_bytes w32 (take 4 bytes)) (drop 4 bytes) x k.1)
      ]
      | inr h ↦ absurd (let w = h.1 in cc)
    ]

-- ---- whatever follows

-- it is not whole yet, or it stays
abbrev Stays : Whole → Whole → Type 0
Stays now later = (now ≡ Ok None) ⊎ (later ≡ now)

false_kept : (a p q c u v : Bool) → cond a (p || q) c ≡ false → cond a ((u && p) || (v && q)) c ≡ false
false_kept false p q c u v e = e
false_kept true true q c u v e = absurd cc
false_kept true false true c u v e = absurd cc
false_kept true false false c true true e = refl
false_kept true false false c true false e = refl
false_kept true false false c false true e = refl
false_kept true false false c false false e = refl

may_not : (kind len : ℕ) (rest more : List ℕ) → may_be kind len rest ≡ false → may_be kind len (rest ++ more) ≡ false
may_not kind len (first ∷ rest) more e = e
may_not kind len [] [] e = e
may_not kind len [] (first ∷ more) e = false_kept (eqb kind 100) (not (ltb len 25)) (eqb len 18) (cond (eqb kind 99) (eqb len 0) true) (eqb first 119) (eqb first 107) e

no_data : (a b c : Bool) → cond a false c ≡ true → cond a b c ≡ true
no_data true b c e = absurd cc
no_data false b c e = e

pub may : (kind len : ℕ) (rest more : List ℕ) → len ≤ length rest → may_be kind len rest ≡ true → may_be kind len (rest ++ more) ≡ true
may kind len (first ∷ rest) more le e = e
may kind zero [] [] le e = e
may kind zero [] (first ∷ more) le e = no_data (eqb kind 100) (may_be_data 0 (first ∷ more)) (cond (eqb kind 99) true true) e
may kind (suc len) [] more le e = absurd (omega (arith, le))

there_stays : (place kind len : ℕ) (rest more : List ℕ) (b : Bool) → may_be kind len rest ≡ true → ltb (length rest) len ≡ b → Stays (payload_at place kind len rest) (payload_at place kind len (rest ++ more))
unfolding payload_at
there_stays place kind len rest more true m e = inl (rw (m, e) refl)
there_stays place kind len rest more false m e =
    let le = ltb-false (length rest) len e in
    let long : ltb (length (rest ++ more)) len ≡ false = le-ltb _ _ (omega (arith, le, length-append rest more)) in
    inr (rw (m, e, may kind len rest more le m, long) refl)

may_stays : (place kind len : ℕ) (rest more : List ℕ) (b : Bool) → may_be kind len rest ≡ b → Stays (payload_at place kind len rest) (payload_at place kind len (rest ++ more))
unfolding payload_at
may_stays place kind len rest more false m = inr (rw (m, may_not kind len rest more m) refl)
may_stays place kind len rest more true m = there_stays place kind len rest more (ltb (length rest) len) m refl

payload_stays : (place kind len : ℕ) (rest more : List ℕ) → Stays (payload_at place kind len rest) (payload_at place kind len (rest ++ more))
payload_stays place kind len rest more = may_stays place kind len rest more (may_be kind len rest) refl

guarded : (b : Bool) (e : FrameError) (now later : Whole) → Stays now later → Stays (cond b (Err e) now) (cond b (Err e) later)
guarded true e now later s = inr refl
guarded false e now later s = s

length_stays : (place kind len : ℕ) (rest more : List ℕ) → Stays (length_at place kind len rest) (length_at place kind len (rest ++ more))
unfolding length_at
length_stays place kind len rest more =
    guarded (ltb 67109888 len) (FrameTooLong place len 67109888) (cond (ltb len 4) (Err (BadFrame place)) (payload_at place kind (len - 4) rest)) (cond (ltb len 4) (Err (BadFrame place)) (payload_at place kind (len - 4) (rest ++ more)))
    (guarded (ltb len 4) (BadFrame place) (payload_at place kind (len - 4) rest) (payload_at place kind (len - 4) (rest ++ more)) (payload_stays place kind (len - 4) rest more))

typed : (b : Bool) (e : FrameError) (now later : Whole) → Stays now later → Stays (cond b now (Err e)) (cond b later (Err e))
typed true e now later s = s
typed false e now later s = inr refl

sized_stays : (place kind : ℕ) (bytes more : List ℕ) → (b : Bool) → ltb (length bytes) 4 ≡ b → Stays (cond (ltb (length bytes) 4) (Ok None) (sized place kind bytes)) (cond (ltb (length (bytes ++ more)) 4) (Ok None) (sized place kind (bytes ++ more)))
sized_stays place kind bytes more true e = inl (rw e refl)
sized_stays place kind bytes more false e =
    let le = ltb-false (length bytes) 4 e in
    let long : ltb (length (bytes ++ more)) 4 ≡ false = le-ltb _ _ (omega (arith, le, length-append bytes more)) in
    rw (e, long, take-append-le 4 bytes more le, drop-append-le 4 bytes more le) (length_stays place kind (from_be_bytes w32 (take 4 bytes)) (drop 4 bytes) more)

pub whole_stays : (place : ℕ) (bytes more : List ℕ) → Stays (whole_at place bytes) (whole_at place (bytes ++ more))
unfolding whole_at
whole_stays place [] more = inl refl
whole_stays place (kind ∷ bytes) more =
    typed (is_type kind) (BadFrame place) (cond (ltb (length bytes) 4) (Ok None) (sized place kind bytes)) (cond (ltb (length (bytes ++ more)) 4) (Ok None) (sized place kind (bytes ++ more)))
    (sized_stays place kind bytes more (ltb (length bytes) 4) refl)

-- ---- what stands first

front_same : (place : ℕ) (bytes more : List ℕ) (r : Whole) → whole_at place bytes ≡ r → (beginning_of place bytes r ≡ Unfinished) ⊎ (beginning_of place (bytes ++ more) r ≡ beginning_of place bytes r)
front_same place bytes more (Ok None) e = inl refl
front_same place bytes more (Err error) e = inr refl
front_same place bytes more (Ok (Some x)) e =
    let le = whole_size place bytes x e in
    let one : drop 5 (bytes ++ more) ≡ drop 5 bytes ++ more = drop-append-le 5 bytes more (omega (arith, le)) in
    let two : take x.1 (drop 5 bytes ++ more) ≡ take x.1 (drop 5 bytes) = take-append-le x.1 (drop 5 bytes) more (omega (arith, le, length-drop 5 bytes)) in
    inr (ap (λ (payload : List ℕ). with_size (5 + x.1) (content place x.0 payload)) (ap (take x.1) one ∙ two))

-- what stands first is not whole yet, or it stays, whatever follows
pub front_stays : (place : ℕ) (bytes more : List ℕ) → (beginning place bytes ≡ Unfinished) ⊎ (beginning place (bytes ++ more) ≡ beginning place bytes)
unfolding beginning
front_stays place bytes more =
    elim (whole_stays place bytes more) [
      | inl e ↦ inl (ap (beginning_of place bytes) e)
      | inr e ↦ elim (front_same place bytes more (whole_at place bytes) refl) [
        | inl f ↦ inl f
        | inr f ↦ inr (ap (beginning_of place (bytes ++ more)) e ∙ f)
      ]
    ]

-- a whole frame lies within the bytes
pub record IsWithin (size : ℕ) (bytes : List ℕ) : Type 0 where
  pub some : 5 ≤ size
  pub inside : size ≤ length bytes

size_of : (n : ℕ) (r : Result (Option Frame) FrameError) (given : Option Frame) (size : ℕ) → with_size n r ≡ Framed given size → n ≡ size
size_of n (Ok o) given size e = ap (λ (f : Beginning). elim f [ Unfinished ↦ 0 | Framed g s ↦ s | Refused r ↦ 0 ]) e
size_of n (Err error) given size e = absurd cc

front_size_of : (place : ℕ) (bytes : List ℕ) (r : Whole) (given : Option Frame) (size : ℕ) → whole_at place bytes ≡ r → beginning_of place bytes r ≡ Framed given size → IsWithin size bytes
front_size_of place bytes (Ok None) given size e f = absurd cc
front_size_of place bytes (Err error) given size e f = absurd cc
front_size_of place bytes (Ok (Some x)) given size e f =
    let le = whole_size place bytes x e in
    let same = size_of (5 + x.1) (content place x.0 (take x.1 (drop 5 bytes))) given size f in
    record { some = omega (arith, same); inside = omega (arith, same, le) }

pub front_size : (place : ℕ) (bytes : List ℕ) (given : Option Frame) (size : ℕ) → beginning place bytes ≡ Framed given size → IsWithin size bytes
unfolding beginning
front_size place bytes given size e = front_size_of place bytes (whole_at place bytes) given size refl e
