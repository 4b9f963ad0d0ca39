-- Bytes go over from a source to a buffer, within a budget.
use Rattle.std.proofs.Common.{◌≡◌, ℕ, ◌+◌, List, ◌++◌, length, take, drop, refl, sym, ap, ◌∙◌, append_assoc, arith}
use Rattle.std.proofs.lemmas.List.{length-append, append-nil}
use Rattle.std.proofs.Math.Seq.{take-append-add, drop-append-add, drop-append_seam, drop-length}
use Rattle.script.specs.Reading.{Consumes, since}

-- nothing went over yet
pub consumes_none : (g l : List ℕ) (b : ℕ) → Consumes g l b g l b
consumes_none g l b = record {
  came = rw (drop-length g) (sym (append-nil g));
  gone = rw (drop-length g) refl;
  size = rw (drop-length g) (omega arith);
}

-- one more piece
pub since_step : {g l g1 l1 : List ℕ} {b b1 : ℕ} (g2 piece : List ℕ) → Consumes g l b g1 l1 b1 → g2 ≡ g1 ++ piece → since g g2 ≡ since g g1 ++ piece
since_step {g} {l} {g1} g2 piece c e =
    ap (λ (xs : List ℕ). drop (length g) xs) (e ∙ ap (λ (xs : List ℕ). xs ++ piece) c.came ∙ append_assoc g (since g g1) piece) ∙ drop-append_seam g (since g g1 ++ piece)

pub consumes_step : {g l g1 l1 : List ℕ} {b b1 : ℕ} (g2 l2 piece : List ℕ) (b2 : ℕ) → Consumes g l b g1 l1 b1 → g2 ≡ g1 ++ piece → l1 ≡ piece ++ l2 → b1 ≡ length piece + b2 → Consumes g l b g2 l2 b2
consumes_step {g} {l} {g1} g2 l2 piece b2 c e f k =
    let s = since_step g2 piece c e in
    record {
      came = e ∙ ap (λ (xs : List ℕ). xs ++ piece) c.came ∙ append_assoc g (since g g1) piece ∙ ap (λ (xs : List ℕ). g ++ xs) (sym s);
      gone = c.gone ∙ ap (λ (xs : List ℕ). since g g1 ++ xs) f ∙ sym (append_assoc (since g g1) piece l2) ∙ ap (λ (xs : List ℕ). xs ++ l2) (sym s);
      size = omega (arith, c.size, k, ap length s, length-append (since g g1) piece);
    }

pub consumes_then : {g l g1 l1 g2 l2 : List ℕ} {b b1 b2 : ℕ} → Consumes g l b g1 l1 b1 → Consumes g1 l1 b1 g2 l2 b2 → Consumes g l b g2 l2 b2
consumes_then {g} {l} {g1} {l1} {g2} {l2} {b} {b1} {b2} c d = consumes_step g2 l2 (since g1 g2) b2 c d.came d.gone d.size

-- what is seen within the budget, and what lies beyond it
pub seen_of : {g l g1 l1 : List ℕ} {b b1 : ℕ} → Consumes g l b g1 l1 b1 → take b l ≡ since g g1 ++ take b1 l1
seen_of {g} {l} {g1} {l1} {b} {b1} c =
    ap (λ (xs : List ℕ). take b xs) c.gone ∙ ap (λ (n : ℕ). take n (since g g1 ++ l1)) c.size ∙ take-append-add (since g g1) l1 b1

pub beyond_of : {g l g1 l1 : List ℕ} {b b1 : ℕ} → Consumes g l b g1 l1 b1 → drop b l ≡ drop b1 l1
beyond_of {g} {l} {g1} {l1} {b} {b1} c =
    ap (λ (xs : List ℕ). drop b xs) c.gone ∙ ap (λ (n : ℕ). drop n (since g g1 ++ l1)) c.size ∙ drop-append-add (since g g1) l1 b1
