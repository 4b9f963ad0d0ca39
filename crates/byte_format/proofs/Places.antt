-- Where a format's reader stops: at the first byte that no value has there. The formats that are no lists.
use Rattle.std.proofs.Common.{◌≡◌, ℕ, zero, suc, ◌-◌, ◌^◌, ◌<◌, Bool, true, false, cond, eqb, ltb, List, [], ◌∷◌, ◌++◌, length, take, drop, replicate, Result, Ok, Err, refl, sym, ap, subst, ◌∙◌, append_assoc, arith, inl, inr, ◌⊎◌}
use Rattle.std.specs.List.{AllByRecursion}
use Rattle.std.specs.Int.{Width, w16, w32, w64, byte_len, from_be_bytes}
use Rattle.std.proofs.lemmas.Bool.{ltb-true}
use Rattle.std.proofs.lemmas.List.{append-nil, length-append, length-replicate}
use Rattle.byte_format.specs.Format.{Read, ◌>>=◌, mapped, Format, number_at, number, int16, int32, int64, byte_at, byte, ◌&◌, string_at, string, tag_at, after, named, nothing}
use Rattle.byte_format.proofs.Codec.{IsBytes, IsCodec, Takes, IsWide, IsRenaming, chosen, tag_ok, at_index, number_is, wide16, wide32, wide64, eqb-same, byte_is, string_is, nothing_is, pair_is, after_is, named_is}

-- The reader stopped with this many bytes from the first wrong one on. What stands before it begins a value;
-- with the wrong byte nothing is read, whatever follows.
pub record Stops {A : Type 0} (f : Format A) (bytes : List ℕ) (left : ℕ) : Type 0 where
  pub good : List ℕ
  pub wrong : List ℕ
  pub parts : bytes ≡ good ++ wrong
  pub len : length wrong ≡ left
  pub value : A
  pub more : List ℕ
  pub fits : f.Fits value
  pub begins : f.spell value ≡ good ++ more
  pub fails : (w : ℕ) (ws : List ℕ) → wrong ≡ w ∷ ws → (tail : List ℕ) → f.read (good ++ w ∷ tail) ≡ Err (suc (length tail))

pub record IsPlaced {A : Type 0} (f : Format A) : Type 0 where
  pub codec : IsCodec f
  pub some : A
  pub some_fits : f.Fits some
  pub stops : (bytes : List ℕ) (left : ℕ) → IsBytes bytes → f.read bytes ≡ Err left → Stops f bytes left

abbrev failed : {A : Type 0} → ℕ → Result A ℕ
failed n = Err n

pub err_is : {A : Type 0} (m n : ℕ) → failed {A = A} m ≡ failed n → m ≡ n
err_is m n e = cc

-- it stopped at the end: the bytes begin a value
pub at_end : {A : Type 0} (f : Format A) (bytes : List ℕ) (left : ℕ) (x : A) (more : List ℕ) → 0 ≡ left → f.Fits x → f.spell x ≡ bytes ++ more → Stops f bytes left
at_end f bytes left x more e fits begins = record {
  good = bytes;
  wrong = [];
  parts = sym (append-nil bytes);
  len = e;
  value = x;
  more = more;
  fits = fits;
  begins = begins;
  fails = λ w ws h. absurd cc;
}

-- the first step failed, or the second
pub bind_err : {A B : Type 0} (r : Result A ℕ) (f : A → Result B ℕ) (left : ℕ) → (r >>= f) ≡ Err left → (r ≡ Err left) ⊎ ((x : A) × (r ≡ Ok x) × (f x ≡ Err left))
bind_err (Ok x) f left e = inr (x, refl, e)
bind_err {A} {B} (Err d) f left e = inl (ap (λ (n : ℕ). failed {A = A} n) (err_is {A = B} d left e))

pub guard_err : {A : Type 0} (b : Bool) (d : ℕ) (x : A) (left : ℕ) → cond b (Err d) (Ok x) ≡ Err left → (b ≡ true) × (d ≡ left)
guard_err true d x left e = (refl, err_is d left e)
guard_err false d x left e = absurd cc

pub IsBytes-append : (xs ys : List ℕ) → IsBytes xs → IsBytes ys → IsBytes (xs ++ ys)
IsBytes-append [] ys h k = k
IsBytes-append (x ∷ xs) ys h k = (h.0, IsBytes-append xs ys h.1 k)

pub IsBytes-zeros : (n : ℕ) → IsBytes (replicate n 0)
IsBytes-zeros zero = tt
IsBytes-zeros (suc n) = (omega arith, IsBytes-zeros n)

-- ---- numbers

pub number_stops : (w : Width) (limit : ℕ) → IsWide w limit → (bytes : List ℕ) (left : ℕ) → IsBytes bytes → number_at w bytes ≡ Err left → Stops (number w limit) bytes left
number_stops w limit wide bytes left h e =
    let g = guard_err (ltb (length bytes) (byte_len w)) 0 (from_be_bytes w (take (byte_len w) bytes), drop (byte_len w) bytes) left e in
    let short : length bytes < byte_len w = ltb-true _ _ g.0 in
    let zeros : List ℕ = replicate (byte_len w - length bytes) 0 in
    let whole : List ℕ = bytes ++ zeros in
    let small = at_index whole (IsBytes-append bytes zeros h (IsBytes-zeros (byte_len w - length bytes))) in
    at_end (number w limit) bytes left (from_be_bytes w whole) zeros g.1 (wide.below whole small) (wide.back whole (omega (arith, length-append bytes zeros, length-replicate {A = ℕ} (byte_len w - length bytes) 0)) small)

pub zero_fits : (w : Width) (limit : ℕ) → IsWide w limit → 0 < limit
zero_fits w limit wide = omega (arith, wide.below [] (λ i. omega arith))

number_placed : (w : Width) (limit : ℕ) → IsWide w limit → IsPlaced (number w limit)
number_placed w limit wide = record { codec = number_is w limit wide; some = 0; some_fits = zero_fits w limit wide; stops = number_stops w limit wide }

pub int16_placed : IsPlaced int16
int16_placed = number_placed w16 (2 ^ 16) wide16

pub int32_placed : IsPlaced int32
int32_placed = number_placed w32 (2 ^ 32) wide32

pub int64_placed : IsPlaced int64
int64_placed = number_placed w64 (2 ^ 64) wide64

byte_stops : (bytes : List ℕ) (left : ℕ) → IsBytes bytes → byte_at bytes ≡ Err left → Stops byte bytes left
byte_stops [] left h e = at_end byte [] left 0 (0 ∷ []) (err_is 0 left e) (omega arith) refl
byte_stops (b ∷ bytes) left h e = absurd cc

pub byte_placed : IsPlaced byte
byte_placed = record { codec = byte_is; some = 0; some_fits = omega arith; stops = byte_stops }

-- ---- one after the other

abbrev pair_read : {A B : Type 0} → Format A → Format B → List ℕ → Read (A × B)
pair_read f g bytes = f.read bytes >>= λ a. g.read a.1 >>= λ b. Ok ((a.0, b.0), b.1)

pair_first : {A B : Type 0} {f : Format A} {g : Format B} → IsPlaced f → IsPlaced g → (bytes : List ℕ) (left : ℕ) → Stops f bytes left → Stops (f & g) bytes left
pair_first {A} {B} {f} {g} p q bytes left s = record {
  good = s.good;
  wrong = s.wrong;
  parts = s.parts;
  len = s.len;
  value = (s.value, q.some);
  more = s.more ++ g.spell q.some;
  fits = (s.fits, q.some_fits);
  begins = ap (λ (bs : List ℕ). bs ++ g.spell q.some) s.begins ∙ append_assoc s.good s.more (g.spell q.some);
  fails = λ w ws h tail. rw (s.fails w ws h tail) refl;
}

pair_second : {A B : Type 0} {f : Format A} {g : Format B} → IsPlaced f → IsPlaced g → (bytes : List ℕ) (left : ℕ) (x : A) (rest : List ℕ) → Takes bytes (f.spell x) rest → f.Fits x → Stops g rest left → Stops (f & g) bytes left
pair_second {A} {B} {f} {g} p q bytes left x rest t fits s = record {
  good = f.spell x ++ s.good;
  wrong = s.wrong;
  parts = t.parts ∙ ap (λ (bs : List ℕ). f.spell x ++ bs) s.parts ∙ sym (append_assoc (f.spell x) s.good s.wrong);
  len = s.len;
  value = (x, s.value);
  more = s.more;
  fits = (fits, s.fits);
  begins = ap (λ (bs : List ℕ). f.spell x ++ bs) s.begins ∙ sym (append_assoc (f.spell x) s.good s.more);
  fails = λ w ws h tail.
      ap (pair_read f g) (append_assoc (f.spell x) s.good (w ∷ tail)) ∙ rw (p.codec.again x (s.good ++ w ∷ tail) fits, s.fails w ws h tail) refl;
}

mapped_err : {A B : Type 0} (r : Result A ℕ) (f : A → B) (left : ℕ) → (r >>= λ x. Ok (f x)) ≡ Err left → r ≡ Err left
mapped_err (Ok x) f left e = absurd cc
mapped_err (Err d) f left e = ap (λ (n : ℕ). Err n) (err_is d left e)

pub pair_placed : {A B : Type 0} {f : Format A} {g : Format B} → IsPlaced f → IsPlaced g → IsPlaced (f & g)
pair_placed {A} {B} {f} {g} p q = record {
  codec = pair_is p.codec q.codec;
  some = (p.some, q.some);
  some_fits = (p.some_fits, q.some_fits);
  stops = λ bytes left h e.
      elim (bind_err (f.read bytes) (λ a. g.read a.1 >>= λ b. Ok ((a.0, b.0), b.1)) left e) [
        | inl first ↦ pair_first p q bytes left (p.stops bytes left h first)
        | inr a ↦
            let t = p.codec.takes bytes a.0.0 a.0.1 h a.1 in
            pair_second p q bytes left a.0.0 a.0.1 t.0 t.1 (q.stops a.0.1 left t.0.in_range (mapped_err (g.read a.0.1) (λ b. ((a.0.0, b.0), b.1)) left a.2))
      ];
}

-- ---- a string

-- a step that only puts something in front
read_on : {A B : Type 0} (r : Read A) (f : A × List ℕ → B × List ℕ) (left : ℕ) → (r >>= λ x. Ok (f x)) ≡ Err left → r ≡ Err left
read_on r f left e = mapped_err r f left e

string_stops : (bytes : List ℕ) (left : ℕ) → IsBytes bytes → string_at bytes ≡ Err left → (0 ≡ left) × AllByRecursion (λ b. (0 < b) × (b < 256)) bytes
unfolding string_at
string_stops [] left h e = (err_is 0 left e, tt)
string_stops (zero ∷ bytes) left h e = absurd cc
string_stops (suc b ∷ bytes) left h e =
    let s = string_stops bytes left h.1 (read_on (string_at bytes) (λ x. (suc b ∷ x.0, x.1)) left e) in
    (s.0, ((omega arith, h.0), s.1))

pub string_placed : IsPlaced string
string_placed = record {
  codec = string_is;
  some = [];
  some_fits = tt;
  stops = λ bytes left h e. let s = string_stops bytes left h e in at_end string bytes left bytes (0 ∷ []) s.0 s.1 refl;
}

-- ---- a tag

head_is : (b w : ℕ) (bs ws : List ℕ) → b ∷ bs ≡ w ∷ ws → b ≡ w
head_is b w bs ws e = cc

-- ---- a tag

-- one more byte in front
pub one_more : {A B : Type 0} (f : Format A) (g : Format B) (name : A → B) (tag : ℕ) (bytes : List ℕ) (left : ℕ) → ((x : A) → f.Fits x → g.Fits (name x)) → ((x : A) → g.spell (name x) ≡ tag ∷ f.spell x)
    → ((rest : List ℕ) → g.read (tag ∷ rest) ≡ mapped name (f.read rest)) → Stops f bytes left → Stops g (tag ∷ bytes) left
one_more f g name tag bytes left fit same reads s = record {
  good = tag ∷ s.good;
  wrong = s.wrong;
  parts = ap (λ (bs : List ℕ). tag ∷ bs) s.parts;
  len = s.len;
  value = name s.value;
  more = s.more;
  fits = fit s.value s.fits;
  begins = same s.value ∙ ap (λ (bs : List ℕ). tag ∷ bs) s.begins;
  fails = λ w ws h tail. reads (s.good ++ w ∷ tail) ∙ ap (mapped name) (s.fails w ws h tail);
}

-- the first byte is wrong
pub none_more : {A : Type 0} (f : Format A) (b : ℕ) (bytes : List ℕ) (left : ℕ) (x : A) → f.Fits x → suc (length bytes) ≡ left → ((rest : List ℕ) → f.read (b ∷ rest) ≡ Err (suc (length rest))) → Stops f (b ∷ bytes) left
none_more f b bytes left x fits e reads = record {
  good = [];
  wrong = b ∷ bytes;
  parts = refl;
  len = e;
  value = x;
  more = f.spell x;
  fits = fits;
  begins = refl;
  fails = λ w ws h tail. ap (λ (v : ℕ). f.read (v ∷ tail)) (sym (head_is b w bytes ws h)) ∙ reads tail;
}

-- the same format under another name
pub renamed : {A B : Type 0} (f : Format A) (g : Format B) (name : A → B) (bytes : List ℕ) (left : ℕ) → ((x : A) → f.Fits x → g.Fits (name x)) → ((x : A) → g.spell (name x) ≡ f.spell x)
    → ((rest : List ℕ) → g.read rest ≡ mapped name (f.read rest)) → Stops f bytes left → Stops g bytes left
renamed f g name bytes left fit same reads s = record {
  good = s.good;
  wrong = s.wrong;
  parts = s.parts;
  len = s.len;
  value = name s.value;
  more = s.more;
  fits = fit s.value s.fits;
  begins = same s.value ∙ s.begins;
  fails = λ w ws h tail. reads (s.good ++ w ∷ tail) ∙ ap (mapped name) (s.fails w ws h tail);
}

pub unmapped : {A B : Type 0} (name : A → B) (r : Read A) (left : ℕ) → mapped name r ≡ Err left → r ≡ Err left
unmapped name (Ok x) left e = absurd cc
unmapped {A} {B} name (Err d) left e = ap (λ (n : ℕ). Err n) (err_is {A = B × List ℕ} d left e)

pub mapped_same : {A : Type 0} (r : Read A) → mapped (λ x. x) r ≡ r
mapped_same (Ok x) = refl
mapped_same (Err d) = refl

tag_stops : (tag : ℕ) (bytes : List ℕ) (left : ℕ) → tag_at tag bytes ≡ Err left → ((bytes ≡ []) × (0 ≡ left)) ⊎ ((b : ℕ) × (rest : List ℕ) × (bytes ≡ b ∷ rest) × (eqb b tag ≡ false) × (suc (length rest) ≡ left))
tag_stops tag [] left e = inl (refl, err_is {A = List ℕ} 0 left e)
tag_stops tag (b ∷ bytes) left e =
    elim (chosen (eqb b tag) (Ok bytes) (Err (suc (length bytes))) (Err left) e) [
      | inl k ↦ absurd (let w = k.1 in cc)
      | inr k ↦ inr (b, bytes, refl, k.0, err_is {A = List ℕ} (suc (length bytes)) left k.1)
    ]

after_stops : {A : Type 0} (tag : ℕ) {f : Format A} → IsPlaced f → (bytes : List ℕ) (left : ℕ) → IsBytes bytes → (after tag f).read bytes ≡ Err left → Stops (after tag f) bytes left
after_stops tag {f} p bytes left h e =
    elim (bind_err (tag_at tag bytes) f.read left e) [
      | inl first ↦ elim (tag_stops tag bytes left first) [
        | inl k ↦ at_end (after tag f) bytes left p.some (tag ∷ f.spell p.some) k.1 p.some_fits (ap (λ (bs : List ℕ). bs ++ tag ∷ f.spell p.some) (sym k.0))
        | inr k ↦ subst (λ (bs : List ℕ). Stops (after tag f) bs left) (sym k.2)
            (none_more (after tag f) k.0 k.1 left p.some p.some_fits k.4 (λ rest. rw k.3 refl))
      ]
      | inr a ↦
          let same : bytes ≡ tag ∷ a.0 = tag_ok tag bytes a.0 a.1 in
          let small : IsBytes (tag ∷ a.0) = subst IsBytes same h in
          subst (λ (bs : List ℕ). Stops (after tag f) bs left) (sym same)
          (one_more f (after tag f) (λ x. x) tag a.0 left (λ x z. z) (λ x. refl) (λ rest. rw (eqb-same tag) (sym (mapped_same (f.read rest)))) (p.stops a.0 left small.1 a.2))
    ]

pub after_placed : {A : Type 0} (tag : ℕ) {f : Format A} → IsPlaced f → IsPlaced (after tag f)
after_placed tag p = record { codec = after_is tag p.codec; some = p.some; some_fits = p.some_fits; stops = after_stops tag p }

-- ---- another name

pub named_placed : {A B : Type 0} {to : A → B} {from : B → A} {f : Format A} → IsRenaming to from → IsPlaced f → IsPlaced (named to from f)
named_placed {to = to} {from = from} {f = f} r p = record {
  codec = named_is r p.codec;
  some = to p.some;
  some_fits = subst f.Fits (sym (r.back p.some)) p.some_fits;
  stops = λ bytes left h e. renamed f (named to from f) to bytes left (λ x z. subst f.Fits (sym (r.back x)) z) (λ x. ap f.spell (r.back x)) (λ rest. refl) (p.stops bytes left h (unmapped to (f.read bytes) left e));
}

-- ---- no bytes

nothing_stops : (bytes : List ℕ) (left : ℕ) → nothing.read bytes ≡ Err left → ⊥
nothing_stops bytes left e = cc

pub nothing_placed : IsPlaced nothing
nothing_placed = record { codec = nothing_is; some = tt; some_fits = tt; stops = λ bytes left h e. absurd (nothing_stops bytes left e) }
