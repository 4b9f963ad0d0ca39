-- A text in lower case is a text.
use Rattle.std.proofs.Common.{◌≡◌, ◌<◌, ◌≤◌, ◌+◌, ℕ, zero, suc, List, [], ◌∷◌, ◌++◌, length, take, map, get_or, Bool, true, false, cond, nat_lt, refl, sym, ap, subst, ◌∙◌, arith, length-append}
use Rattle.std.proofs.lemmas.List.{append-nil, map-append, take_all}
use Rattle.std.proofs.lemmas.Bool.{ltb-true, ltb-false}
use Rattle.std.proofs.lemmas.Str.Ascii.{lowercase_ascii, lowercase_is}
use Rattle.std.proofs.lemmas.Str.{IsUtf8-append, IsUtf8-nil, IsUtf8-from_ascii}
use Rattle.std.specs.Str.{IsUtf8}
use Rattle.std.specs.Char.{to_ascii_lowercase}
use Rattle.where_lexer.specs.Lexing.{run, past}
use Rattle.where_lexer.specs.Classes.{PassAll}
use Rattle.where_lexer.proofs.Quotes.{cut_before, after_ascii, run_past, past_head}

abbrev pub high : ℕ → Bool
high b = cond (nat_lt b 128) false true

pub high_big : (b : ℕ) → high b ≡ true → 128 ≤ b
high_big b e = by (nat_lt b 128) refl e where
  by : (c : Bool) → nat_lt b 128 ≡ c → cond c false true ≡ true → 128 ≤ b
  by true i k = absurd (no k) where
    no : false ≡ true → ⊥
    no k = cc
  by false i k = ltb-false b 128 i

pub low_small : (b : ℕ) → high b ≡ false → b < 128
low_small b e = by (nat_lt b 128) refl e where
  by : (c : Bool) → nat_lt b 128 ≡ c → cond c false true ≡ false → b < 128
  by true i k = ltb-true b 128 i
  by false i k = absurd (no k) where
    no : true ≡ false → ⊥
    no k = cc

pub high_same : (xs : List ℕ) → PassAll high xs → map to_ascii_lowercase xs ≡ xs
high_same [] h = refl
high_same (x ∷ xs) h =
    let b : 128 ≤ x = high_big x h.0 in
    let s : 90 < x = omega arith in
    ap (λ y. y ∷ map to_ascii_lowercase xs) ((lowercase_is x).2 s) ∙ ap (λ ys. x ∷ ys) (high_same xs h.1)

pub run_passes : (test : ℕ → Bool) (bs : List ℕ) → PassAll test (run test bs)
unfolding run
run_passes test [] = tt
run_passes test (b ∷ bs) = by (run_passes test bs) (test b) refl where
  by : PassAll test (run test bs) → (c : Bool) → test b ≡ c → PassAll test (cond c (b ∷ run test bs) [])
  by ih true i = (i, ih)
  by ih false i = tt

pub one_ascii : (b : ℕ) → b < 128 → IsUtf8 (b ∷ [])
one_ascii b h = IsUtf8-from_ascii (b ∷ []) (λ i. at i) where
  at : (i : ℕ) → get_or (b ∷ []) i 0 < 128
  at zero = h
  at (suc i) = omega arith

-- a run of bytes from 128 on, and then a text that begins with a smaller one
pub split_high : (xs ps : List ℕ) → IsUtf8 (xs ++ ps) → PassAll high xs → ((d : ℕ) (ds : List ℕ) → ps ≡ d ∷ ds → d < 128) → (IsUtf8 ps → IsUtf8 (map to_ascii_lowercase ps)) → IsUtf8 (map to_ascii_lowercase (xs ++ ps))
split_high xs [] u h k ih =
    let e : xs ++ [] ≡ xs = append-nil xs in
    subst IsUtf8 (sym (ap (map to_ascii_lowercase) e ∙ high_same xs h)) (subst IsUtf8 e u)
split_high xs (d ∷ ds) u h k ih =
    let c = cut_before xs d ds u (k d ds refl) in
    subst IsUtf8 (sym (map-append to_ascii_lowercase xs (d ∷ ds) ∙ ap (λ v. v ++ map to_ascii_lowercase (d ∷ ds)) (high_same xs h))) (IsUtf8-append xs (map to_ascii_lowercase (d ∷ ds)) c.0 (ih c.1))

pub lowered_at : (n : ℕ) (bs : List ℕ) → length bs ≤ n → IsUtf8 bs → IsUtf8 (map to_ascii_lowercase bs)
lowered_at n [] h u = IsUtf8-nil
lowered_at zero (b ∷ bs) h u = absurd (omega arith)
lowered_at (suc n) (b ∷ bs) h u = by (λ cs l v. lowered_at n cs l v) (high b) refl where
  by : ((cs : List ℕ) → length cs ≤ n → IsUtf8 cs → IsUtf8 (map to_ascii_lowercase cs)) → (c : Bool) → high b ≡ c → IsUtf8 (map to_ascii_lowercase (b ∷ bs))
  by ih false i =
      let s : b < 128 = low_small b i in
      IsUtf8-append (to_ascii_lowercase b ∷ []) (map to_ascii_lowercase bs) (one_ascii (to_ascii_lowercase b) (lowercase_ascii b s)) (ih bs (omega arith) (after_ascii b bs u s))
  by ih true i =
      let cut : b ∷ bs ≡ (b ∷ run high bs) ++ past high bs = ap (λ v. b ∷ v) (run_past high bs) in
      let l : length bs ≡ length (run high bs) + length (past high bs) = ap length (run_past high bs) ∙ length-append (run high bs) (past high bs) in
      subst (λ v. IsUtf8 (map to_ascii_lowercase v)) (sym cut)
      (split_high (b ∷ run high bs) (past high bs) (subst IsUtf8 cut u) (i, run_passes high bs) (λ d ds e. low_small d (past_head high bs d ds e)) (λ v. ih (past high bs) (omega arith) v))

pub lowered : (bs : List ℕ) → IsUtf8 bs → IsUtf8 (map to_ascii_lowercase bs)
lowered bs u = lowered_at (length bs) bs (omega arith) u

pub lowered_taken : (items bytes : List ℕ) (i : ℕ) → items ≡ map to_ascii_lowercase (take i bytes) → length bytes ≤ i → IsUtf8 bytes → IsUtf8 items
lowered_taken items bytes i e h u = subst IsUtf8 (sym (e ∙ ap (map to_ascii_lowercase) (take_all i bytes h))) (lowered bytes u)
