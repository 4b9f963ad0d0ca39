-- Bytes that hold one value and nothing after it: what is read is spelled so, it is read again, and the first wrong byte is where reading stops.
use Rattle.std.proofs.Common.{◌≡◌, ℕ, ◌-◌, ◌≤◌, Bool, true, false, cond, eqb, List, [], ◌∷◌, ◌++◌, length, Ok, Err, refl, sym, ap, subst, ◌∙◌, arith, inl, inr}
use Rattle.std.proofs.lemmas.Bool.{eqb-true}
use Rattle.std.proofs.lemmas.List.{append-nil, length-append, nil_from_length}
use Rattle.byte_format.specs.Format.{Format}
use Rattle.byte_format.specs.Whole.{ended, whole, IsFirstWrong}
use Rattle.byte_format.proofs.Codec.{IsBytes, IsCodec, bind_ok, ok_is}
use Rattle.byte_format.proofs.Places.{Stops, IsPlaced, err_is, bind_err}

guard_ok : {A : Type 0} (b : Bool) (d : ℕ) (x y : A) → cond b (Ok x) (Err d) ≡ Ok y → (b ≡ true) × (x ≡ y)
guard_ok true d x y e = (refl, cc)
guard_ok false d x y e = absurd cc

pub whole_takes : {A : Type 0} {f : Format A} → IsCodec f → (bytes : List ℕ) (x : A) → IsBytes bytes → whole f bytes ≡ Ok x → f.Fits x × (bytes ≡ f.spell x)
whole_takes {A} {f} p bytes x h e =
    let a = bind_ok (f.read bytes) ended x e in
    let g = guard_ok (eqb (length a.0.1) 0) (length a.0.1) a.0.0 x a.2 in
    let t = p.takes bytes a.0.0 a.0.1 h a.1 in
    let nothing_left : a.0.1 ≡ [] = nil_from_length a.0.1 (eqb-true _ _ g.0) in
    let all : bytes ≡ f.spell a.0.0 = t.0.parts ∙ ap (λ (bs : List ℕ). f.spell a.0.0 ++ bs) nothing_left ∙ append-nil (f.spell a.0.0) in
    subst (λ (y : A). f.Fits y × (bytes ≡ f.spell y)) g.1 (t.1, all)

pub whole_again : {A : Type 0} {f : Format A} → IsCodec f → (x : A) → f.Fits x → whole f (f.spell x) ≡ Ok x
whole_again {A} {f} p x h = ap (whole f) (sym (append-nil (f.spell x))) ∙ rw (p.again x [] h) refl

-- what stands before the first wrong byte, and how it goes on
first_wrong : {A : Type 0} (f : Format A) (bytes good wrong : List ℕ) (left : ℕ) (x : A) (more : List ℕ) → bytes ≡ good ++ wrong → length wrong ≡ left → f.Fits x → f.spell x ≡ good ++ more
    → ((b : ℕ) (bs : List ℕ) → wrong ≡ b ∷ bs → (y : A) (tail : List ℕ) → f.Fits y → f.spell y ≡ good ++ b ∷ tail → ⊥) → (left ≤ length bytes) × IsFirstWrong f bytes (length bytes - left)
first_wrong f bytes good wrong left x more parts len fits begins none =
    let place : length good ≡ length bytes - left = omega (arith, ap length parts, length-append good wrong) in
    (omega (arith, ap length parts, length-append good wrong), record { good = good; wrong = wrong; parts = parts; at = place; value = x; more = more; fits = fits; begins = begins; none = none })

stops_wrong : {A : Type 0} {f : Format A} → IsPlaced f → (bytes : List ℕ) (left : ℕ) → Stops f bytes left → (left ≤ length bytes) × IsFirstWrong f bytes (length bytes - left)
stops_wrong {A} {f} p bytes left s = first_wrong f bytes s.good s.wrong left s.value s.more s.parts s.len s.fits s.begins
    (λ b bs h y tail fits e. let failed = s.fails b bs h tail in let read = p.codec.again y [] fits in let same = ap f.read (append-nil (f.spell y) ∙ e) in cc)

guard_left : {A : Type 0} (b : Bool) (d : ℕ) (x : A) (left : ℕ) → cond b (Ok x) (Err d) ≡ Err left → (b ≡ false) × (d ≡ left)
guard_left true d x left e = absurd cc
guard_left {A} false d x left e = (refl, err_is {A = A} d left e)

pair_rest : {A : Type 0} (f : Format A) (bytes : List ℕ) (x y : A) (xs ys : List ℕ) → f.read bytes ≡ Ok (x, xs) → f.read bytes ≡ Ok (y, ys) → xs ≡ ys
pair_rest {A} f bytes x y xs ys e g = ap (λ (z : A × List ℕ). z.1) (ok_is (x, xs) (y, ys) (sym e ∙ g))

pub whole_wrong : {A : Type 0} {f : Format A} → IsPlaced f → (bytes : List ℕ) (left : ℕ) → IsBytes bytes → whole f bytes ≡ Err left → (left ≤ length bytes) × IsFirstWrong f bytes (length bytes - left)
whole_wrong {A} {f} p bytes left h e =
    elim (bind_err (f.read bytes) ended left e) [
      | inl first ↦ stops_wrong p bytes left (p.stops bytes left h first)
      | inr a ↦
          let g = guard_left (eqb (length a.0.1) 0) (length a.0.1) a.0.0 left a.2 in
          let t = p.codec.takes bytes a.0.0 a.0.1 h a.1 in
          first_wrong f bytes (f.spell a.0.0) a.0.1 left a.0.0 [] t.0.parts g.1 t.1 (sym (append-nil (f.spell a.0.0)))
          (λ b bs k y tail fits m.
          let one = p.codec.again a.0.0 (b ∷ tail) t.1 in
          let two = p.codec.again y [] fits in
          let three = ap f.read (append-nil (f.spell y) ∙ m) in
          let same : b ∷ tail ≡ [] = pair_rest f (f.spell a.0.0 ++ b ∷ tail) a.0.0 y (b ∷ tail) [] one (sym three ∙ two) in cc)
    ]
