-- The fields of an ErrorResponse, read one by one.
use Rattle.std.proofs.Common.{◌≡◌, ℕ, zero, suc, ◌-◌, ◌+◌, ◌≤◌, ◌<◌, Bool, true, false, cond, eqb, List, [], ◌∷◌, length, Option, None, Some, Result, Ok, Err, refl, sym, ap, ◌∙◌, arith}
use Rattle.byte_format.specs.Format.{Read, ◌>>=◌, string_at}
use Rattle.byte_format.specs.Whole.{ended}
use Rattle.pg_wire.specs.ErrorFields.{Field, fields_at, code_in, code_read, sqlstate_of, found_by}

-- what was found, else the code among the fields that follow; none where they are no list of fields
abbrev pub with_found : Option (List ℕ) → Result (List Field) ℕ → Option (List ℕ)
with_found (Some code) (Ok fs) = Some code
with_found None (Ok fs) = code_in fs
with_found found (Err left) = None

-- how the rest goes on, when n fields at most are still read
abbrev pub still : Option (List ℕ) → ℕ → List ℕ → Option (List ℕ)
still found n rest = with_found found (fields_at n rest >>= ended)

begun : (r : Result (List Field) ℕ) → with_found None r ≡ code_read r
begun (Ok fs) = refl
begun (Err left) = refl

pub still_begins : (payload : List ℕ) → still None (length payload) payload ≡ sqlstate_of payload
still_begins payload = begun (fields_at (length payload) payload >>= ended)

none_found : (found : Option (List ℕ)) (left : ℕ) → with_found found (Err left) ≡ None
none_found (Some code) left = refl
none_found None left = refl

pub still_none : (found : Option (List ℕ)) (n : ℕ) → still found n [] ≡ None
unfolding fields_at
still_none found zero = none_found found 0
still_none found (suc n) = none_found found 0

pub still_over : (found : Option (List ℕ)) (rest : List ℕ) → still found 0 rest ≡ None
unfolding fields_at
still_over found rest = none_found found 0

nothing_more : (found : Option (List ℕ)) → with_found found (Ok []) ≡ found
unfolding code_in
nothing_more (Some code) = refl
nothing_more None = refl

still_ends : (found : Option (List ℕ)) (n : ℕ) (bytes : List ℕ) → eqb (length bytes) 0 ≡ true → still found (suc n) (0 ∷ bytes) ≡ found
unfolding fields_at
still_ends found n bytes e = rw e (nothing_more found)

still_left : (found : Option (List ℕ)) (n : ℕ) (bytes : List ℕ) → eqb (length bytes) 0 ≡ false → still found (suc n) (0 ∷ bytes) ≡ None
unfolding fields_at
still_left found n bytes e = rw e (none_found found (length bytes))

pub still_open : (found : Option (List ℕ)) (n kind : ℕ) (bytes : List ℕ) (left : ℕ) → 0 < kind → string_at bytes ≡ Err left → still found (suc n) (kind ∷ bytes) ≡ None
unfolding fields_at
still_open found n zero bytes left pos e = absurd (omega arith)
still_open found n (suc kind) bytes left pos e = rw e (none_found found left)

chosen_code : (text : List ℕ) (fs : List Field) (b : Bool) → cond b (Some text) (code_in fs) ≡ with_found (cond b (Some text) None) (Ok fs)
chosen_code text fs true = refl
chosen_code text fs false = refl

first_field : (found : Option (List ℕ)) (kind : ℕ) (text : List ℕ) (fs : List Field) → with_found found (Ok ((kind, text) ∷ fs)) ≡ with_found (found_by found kind text) (Ok fs)
unfolding code_in
first_field (Some code) kind text fs = refl
first_field None kind text fs = chosen_code text fs (eqb kind 67)

at_end : (found : Option (List ℕ)) (kind : ℕ) (text : List ℕ) (fs : List Field) (d : ℕ) (b : Bool) → with_found found (cond b (Ok ((kind, text) ∷ fs)) (Err d)) ≡ with_found (found_by found kind text) (cond b (Ok fs) (Err d))
at_end found kind text fs d true = first_field found kind text fs
at_end found kind text fs d false = none_found found d ∙ sym (none_found (found_by found kind text) d)

one_field : (found : Option (List ℕ)) (kind : ℕ) (text : List ℕ) (r : Read (List Field)) → with_found found ((r >>= (λ others. Ok ((kind, text) ∷ others.0, others.1))) >>= ended) ≡ with_found (found_by found kind text) (r >>= ended)
one_field found kind text (Err left) = none_found found left ∙ sym (none_found (found_by found kind text) left)
one_field found kind text (Ok x) = at_end found kind text x.0 (length x.1) (eqb (length x.1) 0)

pub still_more : (found : Option (List ℕ)) (n kind : ℕ) (bytes text more : List ℕ) → 0 < kind → string_at bytes ≡ Ok (text, more) → still found (suc n) (kind ∷ bytes) ≡ still (found_by found kind text) n more
unfolding fields_at
still_more found n zero bytes text more pos e = absurd (omega arith)
still_more found n (suc kind) bytes text more pos e = rw e (one_field found (suc kind) text (fields_at n more))

-- ---- the ways out of the loop, and its next turn

-- the loop's own numbers: n bytes in all, i turns done
goes : (found : Option (List ℕ)) (n i kind : ℕ) (rest after : List ℕ) (total : Option (List ℕ)) → i < n → still found (n - i) rest ≡ total → rest ≡ kind ∷ after → still found (suc (n - (i + 1))) (kind ∷ after) ≡ total
goes found n i kind rest after total lt so_far same =
    let k : suc (n - (i + 1)) ≡ n - i = omega arith in
    rw (k, ← same) so_far

pub ran_out : (found : Option (List ℕ)) (n : ℕ) (rest : List ℕ) (total : Option (List ℕ)) → still found n rest ≡ total → length rest ≡ 0 → None ≡ total
ran_out found n [] total so_far e = sym (still_none found n) ∙ so_far
ran_out found n (b ∷ rest) total so_far e = absurd (omega (arith, e))

pub at_zero : (found : Option (List ℕ)) (n i kind : ℕ) (rest after : List ℕ) (total : Option (List ℕ)) → i < n → still found (n - i) rest ≡ total → rest ≡ kind ∷ after → kind ≡ 0 → eqb (length after) 0 ≡ true → found ≡ total
at_zero found n i kind rest after total lt so_far same z e = sym (still_ends found (n - (i + 1)) after e) ∙ ap (λ (b : ℕ). still found (suc (n - (i + 1))) (b ∷ after)) (sym z) ∙ goes found n i kind rest after total lt so_far same

pub not_at_end : (found : Option (List ℕ)) (n i kind : ℕ) (rest after : List ℕ) (total : Option (List ℕ)) → i < n → still found (n - i) rest ≡ total → rest ≡ kind ∷ after → kind ≡ 0 → eqb (length after) 0 ≡ false → None ≡ total
not_at_end found n i kind rest after total lt so_far same z e = sym (still_left found (n - (i + 1)) after e) ∙ ap (λ (b : ℕ). still found (suc (n - (i + 1))) (b ∷ after)) (sym z) ∙ goes found n i kind rest after total lt so_far same

pub no_text : (found : Option (List ℕ)) (n i kind : ℕ) (rest after : List ℕ) (total : Option (List ℕ)) → i < n → still found (n - i) rest ≡ total → rest ≡ kind ∷ after → 0 < kind → (left : ℕ) → string_at after ≡ Err left → None ≡ total
no_text found n i kind rest after total lt so_far same pos left e = sym (still_open found (n - (i + 1)) kind after left pos e) ∙ goes found n i kind rest after total lt so_far same

pub next_field : (found : Option (List ℕ)) (n i kind : ℕ) (rest after text more : List ℕ) (total : Option (List ℕ)) → i < n → still found (n - i) rest ≡ total → rest ≡ kind ∷ after → 0 < kind → string_at after ≡ Ok (text, more)
    → still (found_by found kind text) (n - (i + 1)) more ≡ total
next_field found n i kind rest after text more total lt so_far same pos e = sym (still_more found (n - (i + 1)) kind after text more pos e) ∙ goes found n i kind rest after total lt so_far same

pub over : (found : Option (List ℕ)) (n i : ℕ) (rest : List ℕ) (total : Option (List ℕ)) → n ≤ i → still found (n - i) rest ≡ total → None ≡ total
over found n i rest total le so_far =
    let k : 0 ≡ n - i = omega arith in
    sym (still_over found rest) ∙ rw k so_far
