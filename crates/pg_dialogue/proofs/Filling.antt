-- Bytes go over from a link to a dialogue, within its limit.
use Rattle.std.proofs.Common.{◌≡◌, ℕ, ◌+◌, ◌-◌, ◌≤◌, List, ◌++◌, length, take, drop, refl, sym, ap, ◌∙◌, append_assoc, arith}
use Rattle.std.proofs.lemmas.List.{length-append, append-nil}
use Rattle.std.proofs.Math.Seq.{take-append-add, drop-append_seam, drop-length}
use Rattle.pg_dialogue.specs.Links.{within, since, Takes}

-- nothing went over yet
pub takes_none : (g l : List ℕ) (p : ℕ) → Takes g l p g l p
takes_none g l p = record {
  came = rw (drop-length g) (sym (append-nil g));
  gone = rw (drop-length g) refl;
  size = rw (drop-length g) (omega arith);
}

-- one more piece
pub since_step : {g l g1 l1 : List ℕ} {p p1 : ℕ} (g2 piece : List ℕ) → Takes g l p g1 l1 p1 → g2 ≡ g1 ++ piece → since g g2 ≡ since g g1 ++ piece
since_step {g} {l} {g1} g2 piece c e =
    ap (λ (xs : List ℕ). drop (length g) xs) (e ∙ ap (λ (xs : List ℕ). xs ++ piece) c.came ∙ append_assoc g (since g g1) piece) ∙ drop-append_seam g (since g g1 ++ piece)

pub takes_step : {g l g1 l1 : List ℕ} {p p1 : ℕ} (g2 l2 piece : List ℕ) (p2 : ℕ) → Takes g l p g1 l1 p1 → g2 ≡ g1 ++ piece → l1 ≡ piece ++ l2 → p2 ≡ p1 + length piece → Takes g l p g2 l2 p2
takes_step {g} {l} {g1} g2 l2 piece p2 c e f k =
    let s = since_step g2 piece c e in
    record {
      came = e ∙ ap (λ (xs : List ℕ). xs ++ piece) c.came ∙ append_assoc g (since g g1) piece ∙ ap (λ (xs : List ℕ). g ++ xs) (sym s);
      gone = c.gone ∙ ap (λ (xs : List ℕ). since g g1 ++ xs) f ∙ sym (append_assoc (since g g1) piece l2) ∙ ap (λ (xs : List ℕ). xs ++ l2) (sym s);
      size = omega (arith, c.size, k, ap length s, length-append (since g g1) piece);
    }

pub takes_then : {g l g1 l1 g2 l2 : List ℕ} {p p1 p2 : ℕ} → Takes g l p g1 l1 p1 → Takes g1 l1 p1 g2 l2 p2 → Takes g l p g2 l2 p2
takes_then {g} {l} {g1} {l1} {g2} {l2} {p} {p1} {p2} c d = takes_step g2 l2 (since g1 g2) p2 c d.came d.gone d.size

-- what a dialogue may have: what went over, and what it may still have
pub within_of : {g l g1 l1 : List ℕ} {p p1 : ℕ} → Takes g l p g1 l1 p1 → p1 ≤ 68719476736 → within p l ≡ since g g1 ++ within p1 l1
within_of {g} {l} {g1} {l1} {p} {p1} c le =
    let more : 68719476736 - p ≡ length (since g g1) + (68719476736 - p1) = omega (arith, c.size, le) in
    ap (λ (xs : List ℕ). take (68719476736 - p) xs) c.gone ∙ ap (λ (n : ℕ). take n (since g g1 ++ l1)) more ∙ take-append-add (since g g1) l1 (68719476736 - p1)
