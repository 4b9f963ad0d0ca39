-- The longest front of bytes that pass.
use Rattle.std.proofs.Common.{◌≡◌, ◌<◌, ◌≤◌, ◌+◌, ℕ, List, [], ◌∷◌, ◌++◌, length, take, drop, get_or, Bool, true, false, cond, refl, sym, ap, ◌∙◌, append_assoc, arith, drop-cons, add-one}
use Rattle.std.proofs.lemmas.List.{append-nil, drop_all, take_more}
use Rattle.where_lexer.specs.Lexing.{run, past}

pub record Spanned (test : ℕ → Bool) (bytes : List ℕ) (n : ℕ) : Type 0 where
  pub fits : n ≤ length bytes
  pub front : run test bytes ≡ take n bytes ++ run test (drop n bytes)
  pub rest : past test bytes ≡ past test (drop n bytes)

pub spanned_start : (test : ℕ → Bool) (bytes : List ℕ) → Spanned test bytes 0
spanned_start test bytes = record { fits = omega arith; front = refl; rest = refl }

pub run_step : (test : ℕ → Bool) (b : ℕ) (bs : List ℕ) → test b ≡ true → (run test (b ∷ bs) ≡ b ∷ run test bs) × (past test (b ∷ bs) ≡ past test bs)
unfolding run past
run_step test b bs e = (ap (λ c. cond c (b ∷ run test bs) []) e, ap (λ c. cond c (past test bs) (b ∷ bs)) e)

pub run_end : (test : ℕ → Bool) (b : ℕ) (bs : List ℕ) → test b ≡ false → (run test (b ∷ bs) ≡ []) × (past test (b ∷ bs) ≡ b ∷ bs)
unfolding run past
run_end test b bs e = (ap (λ c. cond c (b ∷ run test bs) []) e, ap (λ c. cond c (past test bs) (b ∷ bs)) e)

pub run_none : (test : ℕ → Bool) → (run test [] ≡ []) × (past test [] ≡ [])
unfolding run past
run_none test = (refl, refl)

pub taken_more : (n : ℕ) (bytes : List ℕ) → n < length bytes → take (n + 1) bytes ≡ take n bytes ++ get_or bytes n 0 ∷ []
taken_more n bytes h = take_more bytes n 0 h

pub dropped : (n : ℕ) (bytes : List ℕ) → n < length bytes → drop n bytes ≡ get_or bytes n 0 ∷ drop (n + 1) bytes
dropped n bytes h = rw (add-one) (drop-cons bytes n 0 h)

pub spanned_step : (test : ℕ → Bool) (bytes : List ℕ) (n : ℕ) → Spanned test bytes n → n < length bytes → test (get_or bytes n 0) ≡ true → Spanned test bytes (n + 1)
spanned_step test bytes n s h e =
    let b = get_or bytes n 0 in
    let d : drop n bytes ≡ b ∷ drop (n + 1) bytes = dropped n bytes h in
    let r = run_step test b (drop (n + 1) bytes) e in
    record {
      fits = omega arith;
      front = s.front ∙ ap (λ u. take n bytes ++ run test u) d ∙ ap (λ u. take n bytes ++ u) r.0 ∙ sym (append_assoc (take n bytes) (b ∷ []) (run test (drop (n + 1) bytes))) ∙ ap (λ u. u ++ run test (drop (n + 1) bytes)) (sym (taken_more n bytes h));
      rest = s.rest ∙ ap (past test) d ∙ r.1;
    }

pub spanned_at : (test : ℕ → Bool) (bytes : List ℕ) (n : ℕ) → Spanned test bytes n → n < length bytes → test (get_or bytes n 0) ≡ false → (run test bytes ≡ take n bytes) × (past test bytes ≡ drop n bytes)
spanned_at test bytes n s h e =
    let b = get_or bytes n 0 in
    let d : drop n bytes ≡ b ∷ drop (n + 1) bytes = dropped n bytes h in
    let r = run_end test b (drop (n + 1) bytes) e in
    (s.front ∙ ap (λ u. take n bytes ++ run test u) d ∙ ap (λ u. take n bytes ++ u) r.0 ∙ append-nil (take n bytes), s.rest ∙ ap (past test) d ∙ r.1 ∙ sym d)

pub spanned_all : (test : ℕ → Bool) (bytes : List ℕ) (n : ℕ) → Spanned test bytes n → length bytes ≤ n → (run test bytes ≡ take n bytes) × (past test bytes ≡ drop n bytes)
spanned_all test bytes n s h =
    let d : drop n bytes ≡ [] = drop_all n bytes h in
    (s.front ∙ ap (λ u. take n bytes ++ run test u) d ∙ ap (λ u. take n bytes ++ u) (run_none test).0 ∙ append-nil (take n bytes), s.rest ∙ ap (past test) d ∙ (run_none test).1 ∙ sym d)

pub spanned_split : (test : ℕ → Bool) (bytes : List ℕ) (n : ℕ) (front rest : List ℕ) → (run test bytes ≡ take n bytes) × (past test bytes ≡ drop n bytes) → front ≡ take n bytes → rest ≡ drop n bytes → (front ≡ run test bytes) × (rest ≡ past test bytes)
spanned_split test bytes n front rest s e f = (e ∙ sym s.0, f ∙ sym s.1)
