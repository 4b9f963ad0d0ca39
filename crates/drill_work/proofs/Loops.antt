-- What loops have made so far, and what they still make.
use Rattle.std.proofs.Common.{◌≡◌, ℕ, suc, ◌-◌, ◌+◌, ◌≤◌, ◌<◌, List, [], ◌∷◌, ◌++◌, sym, ap, ◌∙◌, append_assoc, arith}
use Rattle.std.proofs.lemmas.List.{append-nil}
use Rattle.drill_work.specs.declared.plain.Statement.{Statement}
use Rattle.drill_work.specs.declared.plain.Plain.{Plain}
use Rattle.drill_work.specs.declared.drill.Drill.{Drill}
use Rattle.drill_work.specs.declared.drill.Turn.{Turn}
use Rattle.drill_work.specs.Changes.{AllChanges, change, changes, all_made, made}
use Rattle.drill_work.specs.Rounds.{rounded, round, turns}

-- changes that were made before, and others
abbrev pub with_front : List Statement → AllChanges → AllChanges
with_front front r = all_made (front ++ r.statements) r.plain r.state

with_more : (front : List Statement) (s : Statement) (r : AllChanges) → with_front front (all_made (s ∷ r.statements) r.plain r.state) ≡ with_front (front ++ s ∷ []) r
with_more front s r = ap (λ (ss : List Statement). all_made ss r.plain r.state) (simp append_assoc)

pub goes_on : (front : List Statement) (count i x y : ℕ) (t u : Plain) (s : Statement) (all : AllChanges) → i < count → change x t ≡ made s u y
    → with_front front (changes (count - i) x t) ≡ all → with_front (front ++ s ∷ []) (changes (count - (i + 1)) y u) ≡ all
unfolding changes
goes_on front count i x y t u s all lt h so_far =
    let k : count - i ≡ suc (count - (i + 1)) = omega arith in
    let one : with_front front (changes (count - i) x t) ≡ with_front (front ++ s ∷ []) (changes (count - (i + 1)) y u) = rw (k, h) (with_more front s (changes (count - (i + 1)) y u)) in
    sym one ∙ so_far

pub is_done : (front : List Statement) (count i x : ℕ) (t : Plain) (all : AllChanges) → count ≤ i → with_front front (changes (count - i) x t) ≡ all → all ≡ all_made front t x
unfolding changes
is_done front count i x t all le so_far =
    let k : count - i ≡ 0 = omega arith in
    let one : with_front front (changes (count - i) x t) ≡ all_made front t x = rw k (ap (λ (ss : List Statement). all_made ss t x) (append-nil front)) in
    sym so_far ∙ one

pub turn_more : (front : List Turn) (count i : ℕ) (d e : Drill) (turn : Turn) (all : List Turn) → i < count → round d ≡ rounded turn e → front ++ turns (count - i) d ≡ all → (front ++ turn ∷ []) ++ turns (count - (i + 1)) e ≡ all
unfolding turns
turn_more front count i d e turn all lt h so_far =
    let k : count - i ≡ suc (count - (i + 1)) = omega arith in
    let one : front ++ turns (count - i) d ≡ (front ++ turn ∷ []) ++ turns (count - (i + 1)) e = rw (k, h) (simp append_assoc) in
    sym one ∙ so_far

pub turns_done : (front : List Turn) (count i : ℕ) (d : Drill) (all : List Turn) → count ≤ i → front ++ turns (count - i) d ≡ all → front ≡ all
unfolding turns
turns_done front count i d all le so_far =
    let k : count - i ≡ 0 = omega arith in
    let one : front ++ turns (count - i) d ≡ front = rw k (append-nil front) in
    sym one ∙ so_far
