-- The messages in bytes, one after the other.
use Rattle.std.proofs.Common.{◌≡◌, inl, inr, ℕ, zero, suc, ◌+◌, ◌-◌, ◌<◌, ◌≤◌, true, false, ltb, List, [], ◌∷◌, ◌++◌, length, get_or, take, drop, refl, ap, ◌∙◌, arith}
use Rattle.std.specs.Int.{w32, from_be_bytes}
use Rattle.std.proofs.lemmas.Bool.{le-ltb, lt-ltb}
use Rattle.std.proofs.lemmas.List.{take_at, drop_at, length-append, length-drop}
use Rattle.byte_format.proofs.Codec.{chosen}
use Rattle.pg_dialogue.specs.Messages.{First, Unfinished, TooSmall, Whole, payload_at, sized_at, first_of, Said, Silent, Broken, Says, behind, said_then, said_within, said}

-- ---- the bound on the messages is never met

rest_in : First → List ℕ
rest_in (Whole kind payload rest) = rest
rest_in Unfinished = []
rest_in TooSmall = []

payload_rest : (kind n : ℕ) (bytes : List ℕ) (k : ℕ) (payload rest : List ℕ) → payload_at kind n bytes ≡ Whole k payload rest → length rest ≤ length bytes
unfolding rest_in
payload_rest kind n bytes k payload rest e =
    elim (chosen (ltb (length bytes) n) Unfinished (Whole kind (take n bytes) (drop n bytes)) (Whole k payload rest) e) [
      | inl h ↦ absurd (let w = h.1 in cc)
      | inr h ↦ omega (arith, ap length (ap rest_in h.1), length-drop n bytes)
    ]

sized_rest : (kind len : ℕ) (bytes : List ℕ) (k : ℕ) (payload rest : List ℕ) → sized_at kind len bytes ≡ Whole k payload rest → length rest ≤ length bytes
sized_rest kind len bytes k payload rest e =
    elim (chosen (ltb len 4) TooSmall (payload_at kind (len - 4) bytes) (Whole k payload rest) e) [
      | inl h ↦ absurd (let w = h.1 in cc)
      | inr h ↦ payload_rest kind (len - 4) bytes k payload rest h.1
    ]

pub first_rest : (bytes : List ℕ) (k : ℕ) (payload rest : List ℕ) → first_of bytes ≡ Whole k payload rest → 5 + length rest ≤ length bytes
first_rest [] k payload rest e = absurd cc
first_rest (_ ∷ []) k payload rest e = absurd cc
first_rest (_ ∷ _ ∷ []) k payload rest e = absurd cc
first_rest (_ ∷ _ ∷ _ ∷ []) k payload rest e = absurd cc
first_rest (_ ∷ _ ∷ _ ∷ _ ∷ []) k payload rest e = absurd cc
first_rest (kind ∷ a ∷ b ∷ c ∷ d ∷ bytes) k payload rest e =
    let le = sized_rest kind (from_be_bytes w32 (a ∷ b ∷ c ∷ d ∷ [])) bytes k payload rest e in
    omega (arith, le)

same_later : (one two : ℕ → List ℕ → Said) (place : ℕ) (bytes : List ℕ) (f : First) → ((k : ℕ) (payload rest : List ℕ) → f ≡ Whole k payload rest → one (behind place payload) rest ≡ two (behind place payload) rest)
    → said_then one place bytes f ≡ said_then two place bytes f
same_later one two place bytes Unfinished same = refl
same_later one two place bytes TooSmall same = refl
same_later one two place bytes (Whole k payload rest) same = ap (Says place k payload) (same k payload rest refl)

enough : (n m place : ℕ) (bytes : List ℕ) → length bytes ≤ n → length bytes ≤ m → said_within n place bytes ≡ said_within m place bytes
unfolding said_within
enough zero zero place bytes p q = refl
enough zero (suc m) place [] p q = refl
enough zero (suc m) place (b ∷ bytes) p q = absurd (omega (arith, p))
enough (suc n) zero place [] p q = refl
enough (suc n) zero place (b ∷ bytes) p q = absurd (omega (arith, q))
enough (suc n) (suc m) place bytes p q = same_later (said_within n) (said_within m) place bytes (first_of bytes) (λ k payload rest e.
    let w = first_rest bytes k payload rest e in
    enough n m (behind place payload) rest (omega (arith, p, w)) (omega (arith, q, w)))

pub said_step : (place : ℕ) (bytes : List ℕ) → said place bytes ≡ said_then said place bytes (first_of bytes)
unfolding said_within said
said_step place [] = refl
said_step place (b ∷ bytes) = same_later (said_within (length bytes)) said place (b ∷ bytes) (first_of (b ∷ bytes)) (λ k payload rest e.
    let w = first_rest (b ∷ bytes) k payload rest e in
    enough (length bytes) (length rest) (behind place payload) rest (omega (arith, w)) (omega arith))

-- ---- what comes first

abbrev pub size_in : List ℕ → ℕ
size_in head = from_be_bytes w32 (get_or head 1 0 ∷ get_or head 2 0 ∷ get_or head 3 0 ∷ get_or head 4 0 ∷ [])

pub headed : (head bytes : List ℕ) → length head ≡ 5 → first_of (head ++ bytes) ≡ sized_at (get_or head 0 0) (size_in head) bytes
headed [] bytes e = absurd (omega arith)
headed (_ ∷ []) bytes e = absurd (omega arith)
headed (_ ∷ _ ∷ []) bytes e = absurd (omega arith)
headed (_ ∷ _ ∷ _ ∷ []) bytes e = absurd (omega arith)
headed (_ ∷ _ ∷ _ ∷ _ ∷ []) bytes e = absurd (omega arith)
headed (a ∷ b ∷ c ∷ d ∷ e ∷ []) bytes _ = refl
headed (_ ∷ _ ∷ _ ∷ _ ∷ _ ∷ _ ∷ head) bytes e = absurd (omega arith)

pub few_first : (bytes : List ℕ) → length bytes < 5 → first_of bytes ≡ Unfinished
few_first [] e = refl
few_first (_ ∷ []) e = refl
few_first (_ ∷ _ ∷ []) e = refl
few_first (_ ∷ _ ∷ _ ∷ []) e = refl
few_first (_ ∷ _ ∷ _ ∷ _ ∷ []) e = refl
few_first (_ ∷ _ ∷ _ ∷ _ ∷ _ ∷ bytes) e = absurd (omega (arith, e))

-- fewer bytes than a head
pub said_few : (place : ℕ) (bytes : List ℕ) → length bytes < 5 → said place bytes ≡ Silent (place + length bytes)
said_few place bytes e = said_step place bytes ∙ ap (said_then said place bytes) (few_first bytes e)

-- a length that is too small
pub said_small : (place : ℕ) (bytes head rest : List ℕ) → bytes ≡ head ++ rest → length head ≡ 5 → size_in head < 4 → said place bytes ≡ Broken place
said_small place bytes head rest e len small =
    let test : ltb (size_in head) 4 ≡ true = lt-ltb _ _ small in
    let first : first_of bytes ≡ TooSmall = ap first_of e ∙ headed head rest len ∙ rw test refl in
    said_step place bytes ∙ ap (said_then said place bytes) first

-- a payload that is cut
pub said_cut : (place : ℕ) (bytes head payload : List ℕ) → bytes ≡ head ++ payload → length head ≡ 5 → 4 ≤ size_in head → length payload < size_in head - 4 → said place bytes ≡ Silent (place + length bytes)
said_cut place bytes head payload e len large short =
    let test : ltb (size_in head) 4 ≡ false = le-ltb _ _ large in
    let cut : ltb (length payload) (size_in head - 4) ≡ true = lt-ltb _ _ short in
    let first : first_of bytes ≡ Unfinished = ap first_of e ∙ headed head payload len ∙ rw (test, cut) refl in
    said_step place bytes ∙ ap (said_then said place bytes) first

-- a whole message
pub said_whole : (place : ℕ) (bytes head more payload rest : List ℕ) → bytes ≡ head ++ more → length head ≡ 5 → more ≡ payload ++ rest → 4 ≤ size_in head → length payload ≡ size_in head - 4
    → said place bytes ≡ Says place (get_or head 0 0) payload (said (behind place payload) rest)
said_whole place bytes head more payload rest e len f large size =
    let test : ltb (size_in head) 4 ≡ false = le-ltb _ _ large in
    let whole : ltb (length (payload ++ rest)) (size_in head - 4) ≡ false = le-ltb _ _ (omega (arith, length-append payload rest, size)) in
    let first : first_of bytes ≡ Whole (get_or head 0 0) payload rest
    = ap first_of e ∙ headed head more len ∙ ap (sized_at (get_or head 0 0) (size_in head)) f ∙ rw (test, whole, take_at payload rest (size_in head - 4) size, drop_at payload rest (size_in head - 4) size) refl in
    said_step place bytes ∙ ap (said_then said place bytes) first
