-- A pass that is joined with one that has no events of its own.
use Rattle.std.proofs.Common.{◌≡◌, Bool, List, [], ◌∷◌, refl, ap, ◌∙◌}
use Rattle.front_lock.specs.Rule.{any_of}

any_none : (own : List Bool) → any_of own [] ≡ own
any_none [] = refl
any_none (b ∷ own) = refl

pub own_joined : (own other joined : List Bool) → joined ≡ any_of own other → other ≡ [] → joined ≡ own
own_joined own other joined is none = is ∙ ap (any_of own) none ∙ any_none own
