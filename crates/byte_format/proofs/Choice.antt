-- Choices by a first byte: both laws.
use Rattle.std.proofs.Common.{◌≡◌, ℕ, suc, false, eqb, List, [], ◌∷◌, ◌++◌, length, Ok, Err, refl, sym, ap, subst, ◌∙◌, inl, inr, ◌⊎◌}
use Rattle.std.proofs.lemmas.Bool.{eqb-true}
use Rattle.byte_format.specs.Format.{mapped, Format, Spelling, Branches, branch, no_branch, first_at, choice, after, alt}
use Rattle.byte_format.proofs.Codec.{IsBytes, IsCodec, Takes, chosen, mapped_ok, eqb-same}
use Rattle.byte_format.proofs.Places.{Stops, IsPlaced, err_is, at_end, one_more, none_more, unmapped}

-- ---- a choice by branches

-- Branches that belong to a format: what they read is spelled so, and where they stop the format stops.
pub record IsBranching {A : Type 0} (g : Format A) (branches : Branches A) : Type 0 where
  pub takes : (b : ℕ) (bytes : List ℕ) (y : A × List ℕ) → IsBytes bytes → branches b bytes ≡ Ok y → Takes (b ∷ bytes) (g.spell y.0) y.1 × g.Fits y.0
  pub stops : (b : ℕ) (bytes : List ℕ) (left : ℕ) → IsBytes bytes → ((rest : List ℕ) → g.read (b ∷ rest) ≡ branches b rest) → branches b bytes ≡ Err left → Stops g (b ∷ bytes) left

-- what follows this first byte is named so
pub record IsBranch {A B : Type 0} (g : Format B) (tag : ℕ) (f : Format A) (name : A → B) : Type 0 where
  pub spell : (x : A) → g.spell (name x) ≡ tag ∷ f.spell x
  pub fits : (x : A) → f.Fits x → g.Fits (name x)

branch_takes : {A B : Type 0} {f : Format A} {g : Format B} {name : A → B} {tag : ℕ} {others : Branches B} → IsBranch g tag f name → IsCodec f → IsBranching g others → (b : ℕ) (bytes : List ℕ) (y : B × List ℕ) → IsBytes bytes
    → branch tag f name others b bytes ≡ Ok y → Takes (b ∷ bytes) (g.spell y.0) y.1 × g.Fits y.0
branch_takes {A} {B} {f} {g} {name} {tag} {others} s p q b bytes y h e =
    elim (chosen (eqb b tag) (mapped name (f.read bytes)) (others b bytes) (Ok y) e) [
      | inl k ↦
          let a = mapped_ok name (f.read bytes) y k.1 in
          let t = p.takes bytes a.0.0 a.0.1 h a.1 in
          let front : b ∷ bytes ≡ tag ∷ (f.spell a.0.0 ++ a.0.1) = ap (λ (c : ℕ). c ∷ bytes) (eqb-true b tag k.0) ∙ ap (λ (bs : List ℕ). tag ∷ bs) t.0.parts in
          let spelled : b ∷ bytes ≡ g.spell (name a.0.0) ++ a.0.1 = front ∙ ap (λ (bs : List ℕ). bs ++ a.0.1) (sym (s.spell a.0.0)) in
          subst (λ (z : B × List ℕ). Takes (b ∷ bytes) (g.spell z.0) z.1 × g.Fits z.0) a.2 (record { parts = spelled; in_range = t.0.in_range }, s.fits a.0.0 t.1)
      | inr k ↦ q.takes b bytes y h k.1
    ]

branch_stops : {A B : Type 0} {f : Format A} {g : Format B} {name : A → B} {tag : ℕ} {others : Branches B} → IsBranch g tag f name → IsPlaced f → IsBranching g others → (b : ℕ) (bytes : List ℕ) (left : ℕ) → IsBytes bytes
    → ((rest : List ℕ) → g.read (b ∷ rest) ≡ branch tag f name others b rest) → branch tag f name others b bytes ≡ Err left → Stops g (b ∷ bytes) left
branch_stops {A} {B} {f} {g} {name} {tag} {others} s p q b bytes left h same e =
    elim (chosen (eqb b tag) (mapped name (f.read bytes)) (others b bytes) (Err left) e) [
      | inl k ↦
          let is : b ≡ tag = eqb-true b tag k.0 in
          let reads : (rest : List ℕ) → g.read (tag ∷ rest) ≡ mapped name (f.read rest) = λ rest. subst (λ (c : ℕ). g.read (c ∷ rest) ≡ mapped name (f.read rest)) is (same rest ∙ rw k.0 refl) in
          subst (λ (c : ℕ). Stops g (c ∷ bytes) left) (sym is) (one_more f g name tag bytes left s.fits s.spell reads (p.stops bytes left h (unmapped name (f.read bytes) left k.1)))
      | inr k ↦ q.stops b bytes left h (λ rest. same rest ∙ rw k.0 refl) k.1
    ]

pub branch_is : {A B : Type 0} {f : Format A} {g : Format B} {others : Branches B} (tag : ℕ) (name : A → B) → IsBranch g tag f name → IsPlaced f → IsBranching g others → IsBranching g (branch tag f name others)
branch_is tag name s p q = record { takes = branch_takes s p.codec q; stops = branch_stops s p q }

no_branch_takes : {A : Type 0} (b : ℕ) (bytes : List ℕ) (y : A × List ℕ) → no_branch {A = A} b bytes ≡ Ok y → ⊥
no_branch_takes b bytes y e = cc

pub no_branch_is : {A : Type 0} {g : Format A} (some : A) → g.Fits some → IsBranching g no_branch
no_branch_is {A} {g} some fits = record {
  takes = λ b bytes y h e. absurd (no_branch_takes {A = A} b bytes y e);
  stops = λ b bytes left h same e. none_more g b bytes left some fits (err_is (suc (length bytes)) left e) same;
}

-- each value's spelling is read as it
abbrev pub IsReadAgain : {A : Type 0} → (A → Spelling) → Branches A → Type 0
IsReadAgain {A} sent branches = (x : A) (rest : List ℕ) → (sent x).Fits → first_at branches ((sent x).bytes ++ rest) ≡ Ok (x, rest)

choice_takes : {A : Type 0} {g : Format A} {branches : Branches A} → IsBranching g branches → (bytes : List ℕ) (x : A) (rest : List ℕ) → IsBytes bytes → first_at branches bytes ≡ Ok (x, rest) → Takes bytes (g.spell x) rest × g.Fits x
choice_takes q [] x rest h e = absurd cc
choice_takes q (b ∷ bytes) x rest h e = q.takes b bytes (x, rest) h.1 e

choice_stops : {A : Type 0} {g : Format A} {branches : Branches A} → IsBranching g branches → ((bytes : List ℕ) → g.read bytes ≡ first_at branches bytes) → (some : A) → g.Fits some → (bytes : List ℕ) (left : ℕ) → IsBytes bytes
    → first_at branches bytes ≡ Err left → Stops g bytes left
choice_stops {g = g} q reads some fits [] left h e = at_end g [] left some (g.spell some) (err_is 0 left e) fits refl
choice_stops q reads some fits (b ∷ bytes) left h e = q.stops b bytes left h.1 (λ rest. reads (b ∷ rest)) e

pub choice_placed : {A : Type 0} {sent : A → Spelling} {branches : Branches A} → IsReadAgain sent branches → IsBranching (choice sent branches) branches → (some : A) → (choice sent branches).Fits some → IsPlaced (choice sent branches)
choice_placed r q some fits = record {
  codec = record { takes = choice_takes q; again = r };
  some = some;
  some_fits = fits;
  stops = choice_stops q (λ bytes. refl) some fits;
}

-- ---- a choice of two formats

-- no value begins with this byte
abbrev pub IsApart : {A : Type 0} → ℕ → Format A → Type 0
IsApart {A} tag f = (x : A) → (b : ℕ) × (bs : List ℕ) × (f.spell x ≡ b ∷ bs) × (eqb b tag ≡ false)

pub after_apart : {A : Type 0} (tag other : ℕ) (f : Format A) → eqb other tag ≡ false → IsApart tag (after other f)
after_apart tag other f h x = (other, f.spell x, refl, h)

pub alt_apart : {A B : Type 0} (tag other : ℕ) (f : Format A) (g : Format B) → eqb other tag ≡ false → IsApart tag g → IsApart tag (alt other f g)
alt_apart tag other f g h k (inl x) = (other, f.spell x, refl, h)
alt_apart tag other f g h k (inr y) = k y

alt_other : {A B : Type 0} (tag : ℕ) (f : Format A) (g : Format B) (b : ℕ) (bytes : List ℕ) → eqb b tag ≡ false → (alt tag f g).read (b ∷ bytes) ≡ mapped inr (g.read (b ∷ bytes))
alt_other tag f g b bytes h = rw h refl

alt_again : {A B : Type 0} (tag : ℕ) {f : Format A} {g : Format B} → IsCodec f → IsCodec g → IsApart tag g → (x : A ⊎ B) (rest : List ℕ) → (alt tag f g).Fits x → (alt tag f g).read ((alt tag f g).spell x ++ rest) ≡ Ok (x, rest)
alt_again tag {f} {g} p q apart (inl x) rest h = rw (eqb-same tag) (ap (mapped inl) (p.again x rest h))
alt_again tag {f} {g} p q apart (inr y) rest h =
    let a = apart y in
    ap (λ (bs : List ℕ). (alt tag f g).read (bs ++ rest)) a.2 ∙ alt_other tag f g a.0 (a.1 ++ rest) a.3 ∙ ap (λ (bs : List ℕ). mapped inr (g.read (bs ++ rest))) (sym a.2) ∙ ap (mapped inr) (q.again y rest h)

alt_takes : {A B : Type 0} (tag : ℕ) {f : Format A} {g : Format B} → IsCodec f → IsCodec g → (bytes : List ℕ) (x : A ⊎ B) (rest : List ℕ) → IsBytes bytes → (alt tag f g).read bytes ≡ Ok (x, rest) → Takes bytes ((alt tag f g).spell x) rest × (alt tag f g).Fits x
alt_takes tag {f} {g} p q [] x rest h e = absurd cc
alt_takes {A} {B} tag {f} {g} p q (b ∷ bytes) x rest h e =
    let P : (A ⊎ B) × List ℕ → Type 0 = λ y. Takes (b ∷ bytes) ((alt tag f g).spell y.0) y.1 × (alt tag f g).Fits y.0 in
    elim (chosen (eqb b tag) (mapped inl (f.read bytes)) (mapped inr (g.read (b ∷ bytes))) (Ok (x, rest)) e) [
      | inl k ↦
          let a = mapped_ok inl (f.read bytes) (x, rest) k.1 in
          let t = p.takes bytes a.0.0 a.0.1 h.1 a.1 in
          subst P a.2 (record { parts = ap (λ (c : ℕ). c ∷ bytes) (eqb-true b tag k.0) ∙ ap (λ (bs : List ℕ). tag ∷ bs) t.0.parts; in_range = t.0.in_range }, t.1)
      | inr k ↦
          let a = mapped_ok inr (g.read (b ∷ bytes)) (x, rest) k.1 in
          let t = q.takes (b ∷ bytes) a.0.0 a.0.1 h a.1 in
          subst P a.2 (t.0, t.1)
    ]

pub alt_is : {A B : Type 0} (tag : ℕ) {f : Format A} {g : Format B} → IsCodec f → IsCodec g → IsApart tag g → IsCodec (alt tag f g)
alt_is tag p q apart = record { takes = alt_takes tag p q; again = alt_again tag p q apart }

-- where the other format stops
other_fails : {A B : Type 0} (tag : ℕ) (f : Format A) (g : Format B) (b : ℕ) (bytes good : List ℕ) (w : ℕ) (ws tail : List ℕ) → eqb b tag ≡ false → b ∷ bytes ≡ good ++ w ∷ ws → (alt tag f g).read (good ++ w ∷ tail) ≡ mapped inr (g.read (good ++ w ∷ tail))
other_fails tag f g b bytes [] w ws tail h e = let s : b ≡ w = cc in alt_other tag f g w tail (rw (← s) h)
other_fails tag f g b bytes (a ∷ good) w ws tail h e = let s : b ≡ a = cc in alt_other tag f g a (good ++ w ∷ tail) (rw (← s) h)

alt_stops : {A B : Type 0} (tag : ℕ) {f : Format A} {g : Format B} → IsPlaced f → IsPlaced g → (bytes : List ℕ) (left : ℕ) → IsBytes bytes → (alt tag f g).read bytes ≡ Err left → Stops (alt tag f g) bytes left
alt_stops tag {f} {g} p q [] left h e = at_end (alt tag f g) [] left (inl p.some) (tag ∷ f.spell p.some) (err_is 0 left e) p.some_fits refl
alt_stops tag {f} {g} p q (b ∷ bytes) left h e =
    elim (chosen (eqb b tag) (mapped inl (f.read bytes)) (mapped inr (g.read (b ∷ bytes))) (Err left) e) [
      | inl k ↦ subst (λ (c : ℕ). Stops (alt tag f g) (c ∷ bytes) left) (sym (eqb-true b tag k.0))
          (one_more f (alt tag f g) inl tag bytes left (λ x z. z) (λ x. refl) (λ rest. rw (eqb-same tag) refl) (p.stops bytes left h.1 (unmapped inl (f.read bytes) left k.1)))
      | inr k ↦
          let s = q.stops (b ∷ bytes) left h (unmapped inr (g.read (b ∷ bytes)) left k.1) in
          record {
            good = s.good;
            wrong = s.wrong;
            parts = s.parts;
            len = s.len;
            value = inr s.value;
            more = s.more;
            fits = s.fits;
            begins = s.begins;
            fails = λ w ws v tail. other_fails tag f g b bytes s.good w ws tail k.0 (s.parts ∙ ap (λ (xs : List ℕ). s.good ++ xs) v) ∙ ap (mapped inr) (s.fails w ws v tail);
          }
    ]

pub alt_placed : {A B : Type 0} (tag : ℕ) {f : Format A} {g : Format B} → IsPlaced f → IsPlaced g → IsApart tag g → IsPlaced (alt tag f g)
alt_placed tag p q apart = record { codec = alt_is tag p.codec q.codec apart; some = inl p.some; some_fits = p.some_fits; stops = alt_stops tag p q }
