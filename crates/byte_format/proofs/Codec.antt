-- Each format reads what it spells, and nothing else: the formats that are no lists.
use Rattle.std.proofs.Common.{◌≡◌, ℕ, zero, suc, ◌^◌, ◌<◌, ◌≤◌, Bool, true, false, cond, eqb, ltb, List, [], ◌∷◌, ◌++◌, length, get_or, take, drop, Result, Ok, Err, refl, sym, ap, subst, ◌∙◌, append_assoc, arith, inl, inr, ◌⊎◌}
use Rattle.std.specs.List.{AllByRecursion}
use Rattle.std.specs.Int.{Width, w16, w32, w64, byte_len, from_be_bytes, to_be_bytes}
use Rattle.std.proofs.lemmas.Bool.{ltb-false, le-ltb, eqb-true}
use Rattle.std.proofs.lemmas.Bool.Decides.{nat_tests}
use Rattle.std.proofs.lemmas.List.{take_at, drop_at, take-append-drop, length-append, length-take}
use Rattle.std.proofs.lemmas.Nat.{be_bytes_2, be_bytes_4, be_bytes_8, from_be_bytes-to_be_bytes_2, from_be_bytes-to_be_bytes_4, from_be_bytes-to_be_bytes_8}
use Rattle.byte_format.specs.Format.{◌>>=◌, Format, number_at, number, int16, int32, int64, byte_at, byte, ◌&◌, string_at, string, tag_at, after, mapped, named, nothing, Read}

abbrev pub IsBytes : List ℕ → Type 0
IsBytes bytes = AllByRecursion (λ b. b < 256) bytes

pub IsBytes-drop : (n : ℕ) (bytes : List ℕ) → IsBytes bytes → IsBytes (drop n bytes)
IsBytes-drop zero bytes h = h
IsBytes-drop (suc n) [] h = h
IsBytes-drop (suc n) (b ∷ bytes) h = IsBytes-drop n bytes h.1

pub IsBytes-take : (n : ℕ) (bytes : List ℕ) → IsBytes bytes → IsBytes (take n bytes)
IsBytes-take zero bytes h = tt
IsBytes-take (suc n) [] h = h
IsBytes-take (suc n) (b ∷ bytes) h = (h.0, IsBytes-take n bytes h.1)

pub at_index : (bytes : List ℕ) → IsBytes bytes → (i : ℕ) → get_or bytes i 0 < 256
at_index [] h i = omega arith
at_index (b ∷ bytes) h zero = h.0
at_index (b ∷ bytes) h (suc i) = at_index bytes h.1 i

pub from_index : (bytes : List ℕ) → ((i : ℕ) → get_or bytes i 0 < 256) → IsBytes bytes
from_index [] h = tt
from_index (b ∷ bytes) h = (h 0, from_index bytes (λ i. h (suc i)))

-- what was taken from the front is spelled so
pub record Takes (bytes text rest : List ℕ) : Type 0 where
  pub parts : bytes ≡ text ++ rest
  pub in_range : IsBytes rest

pub record IsCodec {A : Type 0} (f : Format A) : Type 0 where
  pub takes : (bytes : List ℕ) (x : A) (rest : List ℕ) → IsBytes bytes → f.read bytes ≡ Ok (x, rest) → Takes bytes (f.spell x) rest × f.Fits x
  pub again : (x : A) (rest : List ℕ) → f.Fits x → f.read (f.spell x ++ rest) ≡ Ok (x, rest)

-- ---- steps that did not fail

pub bind_ok : {A B : Type 0} (r : Result A ℕ) (f : A → Result B ℕ) (y : B) → (r >>= f) ≡ Ok y → (x : A) × (r ≡ Ok x) × (f x ≡ Ok y)
bind_ok (Ok x) f y e = (x, refl, e)
bind_ok (Err d) f y e = absurd cc

pub guard_ok : {A : Type 0} (b : Bool) (d : ℕ) (x y : A) → cond b (Err d) (Ok x) ≡ Ok y → (b ≡ false) × (x ≡ y)
guard_ok true d x y e = absurd cc
guard_ok false d x y e = (refl, cc)

abbrev done : {A : Type 0} → A → Result A ℕ
done x = Ok x

pub ok_is : {A : Type 0} (x y : A) → done x ≡ done y → x ≡ y
ok_is x y e = cc

pub Takes-then : (a x b y c : List ℕ) → Takes a x b → Takes b y c → Takes a (x ++ y) c
Takes-then a x b y c p q = record { parts = p.parts ∙ ap (λ (t : List ℕ). x ++ t) q.parts ∙ sym (append_assoc x y c); in_range = q.in_range }

-- ---- numbers

pub record IsWide (w : Width) (limit : ℕ) : Type 0 where
  pub len : (n : ℕ) → length (to_be_bytes w n) ≡ byte_len w
  pub back : (bytes : List ℕ) → length bytes ≡ byte_len w → ((i : ℕ) → get_or bytes i 0 < 256) → to_be_bytes w (from_be_bytes w bytes) ≡ bytes
  pub again : (n : ℕ) → n < limit → from_be_bytes w (to_be_bytes w n) ≡ n
  pub below : (bytes : List ℕ) → ((i : ℕ) → get_or bytes i 0 < 256) → from_be_bytes w bytes < limit

pub wide16 : IsWide w16 (2 ^ 16)
wide16 = record { len = λ n. refl; back = λ bytes len fits. be_bytes_2 bytes _ len fits refl; again = λ n lt. from_be_bytes-to_be_bytes_2 n lt; below = λ bytes fits. omega (arith, fits 0, fits 1) }

pub wide32 : IsWide w32 (2 ^ 32)
wide32 = record { len = λ n. refl; back = λ bytes len fits. be_bytes_4 bytes _ len fits refl; again = λ n lt. from_be_bytes-to_be_bytes_4 n lt; below = λ bytes fits. omega (arith, fits 0, fits 1, fits 2, fits 3) }

pub wide64 : IsWide w64 (2 ^ 64)
wide64 = record { len = λ n. refl; back = λ bytes len fits. be_bytes_8 bytes _ len fits refl; again = λ n lt. from_be_bytes-to_be_bytes_8 n lt; below = λ bytes fits. omega (arith, fits 0, fits 1, fits 2, fits 3, fits 4, fits 5, fits 6, fits 7) }

pub number_takes : (w : Width) (limit : ℕ) → IsWide w limit → (bytes : List ℕ) (n : ℕ) (rest : List ℕ) → IsBytes bytes → number_at w bytes ≡ Ok (n, rest) → Takes bytes (to_be_bytes w n) rest × (n < limit)
number_takes w limit wide bytes n rest fits e =
    let g = guard_ok (ltb (length bytes) (byte_len w)) 0 (from_be_bytes w (take (byte_len w) bytes), drop (byte_len w) bytes) (n, rest) e in
    let long : byte_len w ≤ length bytes = ltb-false _ _ g.0 in
    let n-is : from_be_bytes w (take (byte_len w) bytes) ≡ n = ap (λ (p : ℕ × List ℕ). p.0) g.1 in
    let rest-is : drop (byte_len w) bytes ≡ rest = ap (λ (p : ℕ × List ℕ). p.1) g.1 in
    let small = at_index (take (byte_len w) bytes) (IsBytes-take (byte_len w) bytes fits) in
    let front : to_be_bytes w n ≡ take (byte_len w) bytes = rw (← n-is) (wide.back (take (byte_len w) bytes) (omega (arith, length-take (byte_len w) bytes)) small) in
    (record { parts = rw (front, ← rest-is) (sym (take-append-drop (byte_len w) bytes)); in_range = rw (← rest-is) (IsBytes-drop (byte_len w) bytes fits) }, rw (← n-is) (wide.below (take (byte_len w) bytes) small))

pub number_again : (w : Width) (limit : ℕ) → IsWide w limit → (n : ℕ) (rest : List ℕ) → n < limit → number_at w (to_be_bytes w n ++ rest) ≡ Ok (n, rest)
number_again w limit wide n rest lt =
    let len = wide.len n in
    let long : ltb (length (to_be_bytes w n ++ rest)) (byte_len w) ≡ false = le-ltb _ _ (omega (arith, length-append (to_be_bytes w n) rest)) in
    rw (long, take_at (to_be_bytes w n) rest (byte_len w) len, drop_at (to_be_bytes w n) rest (byte_len w) len, wide.again n lt) refl

pub number_is : (w : Width) (limit : ℕ) → IsWide w limit → IsCodec (number w limit)
number_is w limit wide = record { takes = number_takes w limit wide; again = number_again w limit wide }

pub int16_is : IsCodec int16
int16_is = number_is w16 (2 ^ 16) wide16

pub int32_is : IsCodec int32
int32_is = number_is w32 (2 ^ 32) wide32

pub int64_is : IsCodec int64
int64_is = number_is w64 (2 ^ 64) wide64

-- ---- a byte

byte_takes : (bytes : List ℕ) (x : ℕ) (rest : List ℕ) → IsBytes bytes → byte_at bytes ≡ Ok (x, rest) → Takes bytes (x ∷ []) rest × (x < 256)
byte_takes [] x rest fits e = absurd cc
byte_takes (b ∷ bytes) x rest fits e = subst (λ (y : ℕ × List ℕ). Takes (b ∷ bytes) (y.0 ∷ []) y.1 × (y.0 < 256)) (ok_is (b, bytes) (x, rest) e) (record { parts = refl; in_range = fits.1 }, fits.0)

pub byte_is : IsCodec byte
byte_is = record { takes = byte_takes; again = λ x rest h. refl }

-- ---- one after the other

pub pair_is : {A B : Type 0} {f : Format A} {g : Format B} → IsCodec f → IsCodec g → IsCodec (f & g)
pair_is {A} {B} {f} {g} p q = record {
  takes = λ bytes x rest fits e.
      let a = bind_ok (f.read bytes) (λ a. g.read a.1 >>= λ b. Ok ((a.0, b.0), b.1)) (x, rest) e in
      let b = bind_ok (g.read a.0.1) (λ b. Ok ((a.0.0, b.0), b.1)) (x, rest) a.2 in
      let t = p.takes bytes a.0.0 a.0.1 fits a.1 in
      let u = q.takes a.0.1 b.0.0 b.0.1 t.0.in_range b.1 in
      let both = Takes-then bytes (f.spell a.0.0) a.0.1 (g.spell b.0.0) b.0.1 t.0 u.0 in
      subst (λ (y : (A × B) × List ℕ). Takes bytes (f.spell y.0.0 ++ g.spell y.0.1) y.1 × (f.Fits y.0.0 × g.Fits y.0.1)) (ok_is ((a.0.0, b.0.0), b.0.1) (x, rest) b.2) (both, (t.1, u.1));
  again = λ x rest h.
      ap (λ (bytes : List ℕ). f.read bytes >>= λ a. g.read a.1 >>= λ b. Ok ((a.0, b.0), b.1)) (append_assoc (f.spell x.0) (g.spell x.1) rest)
      ∙ rw (p.again x.0 (g.spell x.1 ++ rest) h.0, q.again x.1 rest h.1) refl;
}

-- ---- a string

string_takes : (bytes text rest : List ℕ) → IsBytes bytes → string_at bytes ≡ Ok (text, rest) → Takes bytes (text ++ 0 ∷ []) rest × AllByRecursion (λ b. (0 < b) × (b < 256)) text
unfolding string_at
string_takes [] text rest fits e = absurd cc
string_takes (zero ∷ bytes) text rest fits e = subst (λ (y : List ℕ × List ℕ). Takes (0 ∷ bytes) (y.0 ++ 0 ∷ []) y.1 × AllByRecursion (λ b. (0 < b) × (b < 256)) y.0) (ok_is ([], bytes) (text, rest) e) (record { parts = refl; in_range = fits.1 }, tt)
string_takes (suc b ∷ bytes) text rest fits e =
    let a = bind_ok (string_at bytes) (λ x. Ok (suc b ∷ x.0, x.1)) (text, rest) e in
    let t = string_takes bytes a.0.0 a.0.1 fits.1 a.1 in
    subst (λ (y : List ℕ × List ℕ). Takes (suc b ∷ bytes) (y.0 ++ 0 ∷ []) y.1 × AllByRecursion (λ b. (0 < b) × (b < 256)) y.0) (ok_is (suc b ∷ a.0.0, a.0.1) (text, rest) a.2)
    (record { parts = ap (λ (bs : List ℕ). suc b ∷ bs) t.0.parts; in_range = t.0.in_range }, ((omega arith, fits.0), t.1))

string_again : (text rest : List ℕ) → AllByRecursion (λ b. (0 < b) × (b < 256)) text → string_at ((text ++ 0 ∷ []) ++ rest) ≡ Ok (text, rest)
unfolding string_at
string_again [] rest h = refl
string_again (zero ∷ text) rest h = absurd (omega arith)
string_again (suc b ∷ text) rest h = rw (string_again text rest h.1) refl

pub string_is : IsCodec string
string_is = record { takes = string_takes; again = string_again }

-- ---- a tag

pub eqb-same : (n : ℕ) → eqb n n ≡ true
eqb-same n = grind (arith, nat_tests)

pub chosen : {A : Type 0} (b : Bool) (x y z : A) → cond b x y ≡ z → ((b ≡ true) × (x ≡ z)) ⊎ ((b ≡ false) × (y ≡ z))
chosen true x y z e = inl (refl, e)
chosen false x y z e = inr (refl, e)

pub tag_ok : (tag : ℕ) (bytes rest : List ℕ) → tag_at tag bytes ≡ Ok rest → bytes ≡ tag ∷ rest
tag_ok tag [] rest e = absurd cc
tag_ok tag (b ∷ bytes) rest e =
    elim (chosen (eqb b tag) (Ok bytes) (Err (suc (length bytes))) (Ok rest) e) [
      | inl h ↦ rw (eqb-true b tag h.0, ok_is bytes rest h.1) refl
      | inr h ↦ absurd (let w = h.1 in cc)
    ]

after_takes : {A : Type 0} (tag : ℕ) {f : Format A} → IsCodec f → (bytes : List ℕ) (x : A) (rest : List ℕ) → IsBytes bytes → (after tag f).read bytes ≡ Ok (x, rest) → Takes bytes (tag ∷ f.spell x) rest × f.Fits x
after_takes tag {f} p bytes x rest fits e =
    let a = bind_ok (tag_at tag bytes) f.read (x, rest) e in
    let same : bytes ≡ tag ∷ a.0 = tag_ok tag bytes a.0 a.1 in
    let small : IsBytes (tag ∷ a.0) = subst IsBytes same fits in
    let t = p.takes a.0 x rest small.1 a.2 in
    (record { parts = same ∙ ap (λ (bs : List ℕ). tag ∷ bs) t.0.parts; in_range = t.0.in_range }, t.1)

pub after_is : {A : Type 0} (tag : ℕ) {f : Format A} → IsCodec f → IsCodec (after tag f)
after_is tag {f} p = record { takes = after_takes tag p; again = λ x rest h. rw (eqb-same tag) (p.again x rest h) }

-- ---- another name

pub mapped_ok : {A B : Type 0} (f : A → B) (r : Read A) (y : B × List ℕ) → mapped f r ≡ Ok y → (x : A × List ℕ) × (r ≡ Ok x) × ((f x.0, x.1) ≡ y)
mapped_ok f (Ok x) y e = (x, refl, ok_is (f x.0, x.1) y e)
mapped_ok f (Err d) y e = absurd cc

-- the two names lead back to each other
pub record IsRenaming {A B : Type 0} (to : A → B) (from : B → A) : Type 0 where
  pub there : (y : B) → to (from y) ≡ y
  pub back : (x : A) → from (to x) ≡ x

pub named_is : {A B : Type 0} {to : A → B} {from : B → A} {f : Format A} → IsRenaming to from → IsCodec f → IsCodec (named to from f)
named_is {A} {B} {to} {from} {f} r p = record {
  takes = λ bytes y rest fits e.
      let a = mapped_ok to (f.read bytes) (y, rest) e in
      let t = p.takes bytes a.0.0 a.0.1 fits a.1 in
      subst (λ (z : B × List ℕ). Takes bytes (f.spell (from z.0)) z.1 × f.Fits (from z.0)) a.2
      (subst (λ (x : A). Takes bytes (f.spell x) a.0.1 × f.Fits x) (sym (r.back a.0.0)) t);
  again = λ y rest h. ap (mapped to) (p.again (from y) rest h) ∙ ap (λ (z : B). Ok (z, rest)) (r.there y);
}

-- ---- no bytes

pub nothing_is : IsCodec nothing
nothing_is = record {
  takes = λ bytes x rest fits e. subst (λ (y : Unit {0} × List ℕ). Takes bytes [] y.1 × Unit {0}) (ok_is (tt, bytes) (x, rest) e) (record { parts = refl; in_range = fits }, tt);
  again = λ x rest h. refl;
}
