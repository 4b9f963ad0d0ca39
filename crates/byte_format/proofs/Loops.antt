-- What loops have read so far, and what they still read.
use Rattle.std.proofs.Common.{◌≡◌, ℕ, suc, ◌-◌, ◌+◌, ◌≤◌, ◌<◌, List, [], ◌∷◌, ◌++◌, Ok, Err, refl, sym, ap, ◌∙◌, append_assoc, arith}
use Rattle.std.proofs.lemmas.List.{append-nil}
use Rattle.byte_format.specs.declared.fault.ReadError.{ReadError}
use Rattle.byte_format.specs.declared.fault.ReadError.TheVariants as errors
use Rattle.byte_format.specs.Format.{Read, ◌>>=◌, Fails, times}

-- bytes that were read before, and the text that is still read
abbrev pub with_text : {A : Type 0} → List A → Read (List A) → Read (List A)
with_text front read = read >>= λ x. Ok (front ++ x.0, x.1)

pub with_more : {A : Type 0} (front : List A) (x : A) (read : Read (List A)) → with_text front (read >>= λ y. Ok (x ∷ y.0, y.1)) ≡ with_text (front ++ x ∷ []) read
with_more front x (Ok y) = ap (λ (xs : List _). Ok (xs, y.1)) (simp append_assoc)
with_more front x (Err e) = refl

pub goes_on : {A : Type 0} (read : List ℕ → Read A) (front : List A) (count i : ℕ) (bytes : List ℕ) (x : A) (after : List ℕ) (total : Read (List A)) → i < count → read bytes ≡ Ok (x, after)
    → with_text front (times read (count - i) bytes) ≡ total → with_text (front ++ x ∷ []) (times read (count - (i + 1)) after) ≡ total
unfolding times
goes_on read front count i bytes x after total lt h so_far =
    let k : count - i ≡ suc (count - (i + 1)) = omega arith in
    let one : with_text front (times read (count - i) bytes) ≡ with_text (front ++ x ∷ []) (times read (count - (i + 1)) after) = rw (k, h) (with_more front x (times read (count - (i + 1)) after)) in
    sym one ∙ so_far

pub ends : {A : Type 0} (e : ReadError) (read : List ℕ → Read A) (front : List A) (count i : ℕ) (bytes : List ℕ) (total : Read (List A)) → i < count → Fails e (read bytes)
    → with_text front (times read (count - i) bytes) ≡ total → Fails e total
unfolding times
ends errors.OutOfMemory read front count i bytes total lt h so_far = tt
ends (errors.Wrong left) read front count i bytes total lt h so_far =
    let k : count - i ≡ suc (count - (i + 1)) = omega arith in
    let one : with_text front (times read (count - i) bytes) ≡ Err left = rw (k, h) refl in
    sym so_far ∙ one

pub is_done : {A : Type 0} (read : List ℕ → Read A) (front : List A) (count i : ℕ) (bytes : List ℕ) (total : Read (List A)) → count ≤ i → with_text front (times read (count - i) bytes) ≡ total → total ≡ Ok (front, bytes)
unfolding times
is_done read front count i bytes total le so_far =
    let k : count - i ≡ 0 = omega arith in
    let one : with_text front (times read (count - i) bytes) ≡ Ok (front, bytes) = rw k (ap (λ (xs : List _). Ok (xs, bytes)) (append-nil front)) in
    sym so_far ∙ one
