-- What stands first in bytes, and what the server says in them, whatever follows.
use Rattle.std.proofs.Common.{◌≡◌, ◌⊎◌, inl, inr, ℕ, ◌+◌, ◌-◌, ◌≤◌, false, ltb, List, [], ◌∷◌, ◌++◌, length, get_or, take, drop, refl, sym, ap, ◌∙◌, arith}
use Rattle.std.specs.Prelude.{slice_range}
use Rattle.std.specs.Int.{w32, from_be_bytes}
use Rattle.std.proofs.lemmas.Bool.{cases_Bool, le-ltb, ltb-false}
use Rattle.std.proofs.lemmas.List.{length-append, length-drop, length-take-le, take-append-le, drop-append-le, take-append-drop, drop-drop}
use Rattle.pg_dialogue.specs.Messages.{First, Unfinished, TooSmall, Whole, payload_at, sized_at, first_of, Silent, Broken, Says, behind, said_then, said}
use Rattle.pg_dialogue.specs.Pieces.{IsWhole}
use Rattle.pg_dialogue.proofs.Saying.{size_in, headed, said_step}

-- ---- more bytes

abbrev pub with_more : List ℕ → First → First
with_more more (Whole kind payload rest) = Whole kind payload (rest ++ more)
with_more more Unfinished = Unfinished
with_more more TooSmall = TooSmall

payload_more : (kind n : ℕ) (bytes more : List ℕ) → (payload_at kind n bytes ≡ Unfinished) ⊎ (payload_at kind n (bytes ++ more) ≡ with_more more (payload_at kind n bytes))
payload_more kind n bytes more =
    elim (cases_Bool (ltb (length bytes) n)) [
      | inl t ↦ inl (rw t refl)
      | inr f ↦
          let le : n ≤ length bytes = ltb-false _ _ f in
          let longer : ltb (length (bytes ++ more)) n ≡ false = le-ltb _ _ (omega (arith, length-append bytes more, le)) in
          inr (rw (longer, f, take-append-le n bytes more le, drop-append-le n bytes more le) refl)
    ]

sized_more : (kind len : ℕ) (bytes more : List ℕ) → (sized_at kind len bytes ≡ Unfinished) ⊎ (sized_at kind len (bytes ++ more) ≡ with_more more (sized_at kind len bytes))
sized_more kind len bytes more =
    elim (cases_Bool (ltb len 4)) [
      | inl t ↦ inr (rw t refl)
      | inr f ↦ rw f (payload_more kind (len - 4) bytes more)
    ]

-- What stands first stays, unless it is not whole yet.
pub first_more : (bytes more : List ℕ) → (first_of bytes ≡ Unfinished) ⊎ (first_of (bytes ++ more) ≡ with_more more (first_of bytes))
first_more [] more = inl refl
first_more (_ ∷ []) more = inl refl
first_more (_ ∷ _ ∷ []) more = inl refl
first_more (_ ∷ _ ∷ _ ∷ []) more = inl refl
first_more (_ ∷ _ ∷ _ ∷ _ ∷ []) more = inl refl
first_more (kind ∷ a ∷ b ∷ c ∷ d ∷ bytes) more = sized_more kind (from_be_bytes w32 (a ∷ b ∷ c ∷ d ∷ [])) bytes more

-- ---- from the type byte and the length

split_head : (bytes : List ℕ) → 5 ≤ length bytes → first_of bytes ≡ sized_at (get_or (take 5 bytes) 0 0) (size_in (take 5 bytes)) (drop 5 bytes)
split_head bytes le = ap first_of (sym (take-append-drop 5 bytes)) ∙ headed (take 5 bytes) (drop 5 bytes) (length-take-le 5 bytes le)

pub first_whole : (bytes : List ℕ) (kind len size : ℕ) → 5 ≤ length bytes → kind ≡ get_or (take 5 bytes) 0 0 → len ≡ size_in (take 5 bytes) → 4 ≤ len → size ≡ len + 1 → size ≤ length bytes → IsWhole bytes kind size
first_whole bytes kind len size le k n large s inside =
    let test : ltb (size_in (take 5 bytes)) 4 ≡ false = le-ltb _ _ (omega (arith, n, large)) in
    let whole : ltb (length (drop 5 bytes)) (size_in (take 5 bytes) - 4) ≡ false = le-ltb _ _ (omega (arith, n, large, s, inside, length-drop 5 bytes)) in
    let count : size_in (take 5 bytes) - 4 ≡ size - 5 = omega (arith, n, large, s) in
    let all : 5 + (size - 5) ≡ size = omega (arith, large, s) in
    record {
      some = omega (arith, large, s);
      inside = inside;
      first = split_head bytes le ∙ rw (test, whole, count, sym k) (ap (λ (xs : List ℕ). Whole kind (take (size - 5) (drop 5 bytes)) xs) (drop-drop (size - 5) 5 bytes ∙ ap (λ (m : ℕ). drop m bytes) all));
    }

-- ---- what the server says

pub payload_size : (bytes : List ℕ) (size : ℕ) → 5 ≤ size → size ≤ length bytes → length (slice_range bytes 5 size) ≡ size - 5
payload_size bytes size some inside = length-take-le (size - 5) (drop 5 bytes) (omega (arith, some, inside, length-drop 5 bytes))

pub same_first : (bytes more : List ℕ) (f : First) → first_of bytes ≡ f → (f ≡ Unfinished → ⊥) → first_of (bytes ++ more) ≡ with_more more f
same_first bytes more f e some =
    elim (first_more bytes more) [
      | inl h ↦ absurd (some (sym e ∙ h))
      | inr h ↦ h ∙ ap (with_more more) e
    ]

-- a whole message, whatever follows
pub says_whole : (place kind size : ℕ) (bytes more : List ℕ) → IsWhole bytes kind size → said place (bytes ++ more) ≡ Says place kind (slice_range bytes 5 size) (said (place + size) (drop size bytes ++ more))
says_whole place kind size bytes more w =
    let payload = slice_range bytes 5 size in
    let first : first_of (bytes ++ more) ≡ Whole kind payload (drop size bytes ++ more) = same_first bytes more (Whole kind payload (drop size bytes)) w.first (λ e. cc) in
    let last : behind place payload ≡ place + size = omega (arith, w.some, payload_size bytes size w.some w.inside) in
    said_step place (bytes ++ more) ∙ ap (said_then said place (bytes ++ more)) first ∙ ap (λ (p : ℕ). Says place kind payload (said p (drop size bytes ++ more))) last

-- a length that is too small, whatever follows
pub says_broken : (place : ℕ) (bytes more : List ℕ) → first_of bytes ≡ TooSmall → said place (bytes ++ more) ≡ Broken place
says_broken place bytes more e =
    said_step place (bytes ++ more) ∙ ap (said_then said place (bytes ++ more)) (same_first bytes more TooSmall e (λ h. cc))

-- no whole message
pub says_nothing : (place : ℕ) (bytes : List ℕ) → first_of bytes ≡ Unfinished → said place bytes ≡ Silent (place + length bytes)
says_nothing place bytes e = said_step place bytes ∙ ap (said_then said place bytes) e
