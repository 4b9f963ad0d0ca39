use Rattle.std.proofs.Common.{◌≡◌, ℕ, ◌<◌, List, length, get_or, sym, subst}
use Rattle.script_play.proofs.Keys.{some_name, key_differs}
use Rattle.script_play.proofs.tables.served_of.Goals as goal

pub invariant_of-result : goal.invariant_of-result
invariant_of-result c = record {
  some = subst (λ (key : List (List ℕ)). 0 < length key) (sym c.in_ok-key.ensures) (some_name _ c.requires);
  distinct = subst (λ (key : List (List ℕ)). (i j : ℕ) (d : List ℕ) → i < j → j < length key → get_or key i d ≡ get_or key j d → ⊥) (sym c.in_ok-key.ensures) (key_differs _ c.requires);
}
