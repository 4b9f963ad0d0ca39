-- What loops have read so far, and what they still read.
use Rattle.std.proofs.Common.{◌≡◌, ℕ, suc, ◌+◌, ◌-◌, ◌≤◌, ◌<◌, Bool, true, false, cond, eqb, List, [], ◌∷◌, ◌++◌, length, Result, Ok, Err, refl, sym, ap, ◌∙◌, append_assoc, eqb-true, true≢false, arith}
use Rattle.snapshot_merge.specs.declared.reading.Fault.{Fault}
use Rattle.snapshot_merge.specs.declared.reading.Fault.TheVariants as faults
use Rattle.snapshot_merge.specs.VisText.{◌>>=◌, number_at, byte_at, one_more, after_number, numbers_within}
use Rattle.snapshot_merge.specs.Answers.{Fails}

-- what was read before, and what is still read
abbrev pub with_front : List ℕ → Result (List ℕ) ℕ → Result (List ℕ) ℕ
with_front front read = read >>= λ ns. Ok (front ++ ns)

pub with_more : (front : List ℕ) (n : ℕ) (read : Result (List ℕ) ℕ) → with_front front (one_more n read) ≡ with_front (front ++ n ∷ []) read
with_more front n (Ok ns) = ap Ok (simp append_assoc)
with_more front n (Err left) = refl

-- one number at most is still read at each turn
abbrev pub still : ℕ → ℕ → ℕ → ℕ → List ℕ → Result (List ℕ) ℕ
still count i high low rest = numbers_within (count - i) high low rest

one_turn : (count i high low : ℕ) (rest : List ℕ) → i < count → still count i high low rest ≡ (number_at low high rest >>= after_number (numbers_within (count - (i + 1)) high))
unfolding numbers_within
one_turn count i high low rest lt =
    let k : count - i ≡ suc (count - (i + 1)) = omega arith in
    rw k refl

pub no_number : (e : Fault) (front : List ℕ) (count i high low : ℕ) (rest : List ℕ) (total : Result (List ℕ) ℕ) → i < count → Fails e (number_at low high rest) → with_front front (still count i high low rest) ≡ total → Fails e total
no_number faults.OutOfMemory front count i high low rest total lt h so_far = tt
no_number (faults.Wrong left) front count i high low rest total lt h so_far =
    let one : with_front front (still count i high low rest) ≡ Err left = ap (with_front front) (one_turn count i high low rest lt) ∙ rw h refl in
    sym so_far ∙ one

turned : (front : List ℕ) (count i high low id : ℕ) (rest tail : List ℕ) → i < count → number_at low high rest ≡ Ok (id, tail) → with_front front (still count i high low rest) ≡ with_front front (after_number (numbers_within (count - (i + 1)) high) (id, tail))
turned front count i high low id rest tail lt h = ap (with_front front) (one_turn count i high low rest lt) ∙ rw h refl

pub none_left : (xs : List ℕ) → true ≡ eqb (length xs) 0 → length xs ≡ 0
none_left xs e = eqb-true (length xs) 0 (sym e)

pub some_left : (xs : List ℕ) → false ≡ eqb (length xs) 0 → 0 < length xs
some_left [] e = absurd (true≢false (sym e))
some_left (x ∷ xs) e = omega arith

nothing : (xs : List ℕ) → length xs ≡ 0 → xs ≡ []
nothing [] e = refl
nothing (x ∷ xs) e = absurd (omega (arith, e))

pub last_number : (front : List ℕ) (count i high low id : ℕ) (rest tail : List ℕ) (total : Result (List ℕ) ℕ) → i < count → number_at low high rest ≡ Ok (id, tail) → length tail ≡ 0 → with_front front (still count i high low rest) ≡ total → total ≡ Ok (front ++ id ∷ [])
last_number front count i high low id rest tail total lt h none so_far =
    sym so_far ∙ turned front count i high low id rest tail lt h ∙ ap (λ (xs : List ℕ). with_front front (after_number (numbers_within (count - (i + 1)) high) (id, xs))) (nothing tail none)

-- a byte that is there or not
comma_if : (front : List ℕ) (id : ℕ) (b : Bool) (x : Result (List ℕ) ℕ) (left : ℕ) → with_front front (cond b (one_more id x) (Err left)) ≡ with_front (front ++ id ∷ []) (cond b x (Err left))
comma_if front id true x left = with_more front id x
comma_if front id false x left = refl

behind : (later : ℕ → List ℕ → Result (List ℕ) ℕ) (id : ℕ) (b : Bool) (bytes : List ℕ) (left : ℕ) → cond b (later (id + 1) bytes) (Err left) ≡ (cond b (Ok bytes) (Err left) >>= later (id + 1))
behind later id true bytes left = refl
behind later id false bytes left = refl

-- after a number that does not end the text
next_number : (front : List ℕ) (later : ℕ → List ℕ → Result (List ℕ) ℕ) (id : ℕ) (tail : List ℕ) → 0 < length tail → with_front front (after_number later (id, tail)) ≡ with_front (front ++ id ∷ []) (byte_at 44 tail >>= later (id + 1))
next_number front later id [] some = absurd (omega (arith, some))
next_number front later id (b ∷ bytes) some = comma_if front id (eqb b 44) (later (id + 1) bytes) (suc (length bytes)) ∙ ap (with_front (front ++ id ∷ [])) (behind later id (eqb b 44) bytes (suc (length bytes)))

pub no_comma : (e : Fault) (front : List ℕ) (count i high low id : ℕ) (rest tail : List ℕ) (total : Result (List ℕ) ℕ) → i < count → number_at low high rest ≡ Ok (id, tail) → 0 < length tail → Fails e (byte_at 44 tail)
    → with_front front (still count i high low rest) ≡ total → Fails e total
no_comma faults.OutOfMemory front count i high low id rest tail total lt h some f so_far = tt
no_comma (faults.Wrong left) front count i high low id rest tail total lt h some f so_far =
    sym so_far ∙ turned front count i high low id rest tail lt h ∙ next_number front (numbers_within (count - (i + 1)) high) id tail some ∙ ap (λ (r : Result (List ℕ) ℕ). with_front (front ++ id ∷ []) (r >>= numbers_within (count - (i + 1)) high (id + 1))) f

pub goes_on : (front : List ℕ) (count i high low id : ℕ) (rest tail after : List ℕ) (total : Result (List ℕ) ℕ) → i < count → number_at low high rest ≡ Ok (id, tail) → 0 < length tail → byte_at 44 tail ≡ Ok after
    → with_front front (still count i high low rest) ≡ total → with_front (front ++ id ∷ []) (still count (i + 1) high (id + 1) after) ≡ total
goes_on front count i high low id rest tail after total lt h some f so_far =
    sym (turned front count i high low id rest tail lt h ∙ next_number front (numbers_within (count - (i + 1)) high) id tail some ∙ ap (λ (r : Result (List ℕ) ℕ). with_front (front ++ id ∷ []) (r >>= numbers_within (count - (i + 1)) high (id + 1))) f) ∙ so_far

pub no_turn_left : (front : List ℕ) (count i high low : ℕ) (rest : List ℕ) (total : Result (List ℕ) ℕ) → count ≤ i → with_front front (still count i high low rest) ≡ total → total ≡ Err (length rest)
unfolding numbers_within
no_turn_left front count i high low rest total le so_far =
    let k : count - i ≡ 0 = omega arith in
    sym so_far ∙ rw k refl
