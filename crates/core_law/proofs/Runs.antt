-- Runs, one after the other.
use Rattle.std.proofs.Common.{◌≡◌, List, [], ◌∷◌, ◌++◌, refl, sym, ◌∙◌, ap}
use Rattle.core_law.specs.Situation.{Options, Situation, at_start}
use Rattle.core_law.specs.Run as run
use Rattle.core_law.specs.Run.{turn_of, next_of, after}
use Rattle.core_law.specs.Reached.{IsReached}

pub after_both : (o : Options) (s : Situation) (es fs : List run.Event) → after o s (es ++ fs) ≡ after o (after o s es) fs
after_both o s [] fs = refl
after_both o s (e ∷ es) fs = after_both o (next_of s (turn_of o s e)) es fs

pub after_one_more : (o : Options) (s : Situation) (es : List run.Event) (e : run.Event) → after o s (es ++ e ∷ []) ≡ next_of (after o s es) (turn_of o (after o s es) e)
after_one_more o s es e = after_both o s es (e ∷ [])

-- One event more leads to the next situation.
pub reached_next : (o : Options) (s : Situation) (e : run.Event) → IsReached o s → IsReached o (next_of s (turn_of o s e))
reached_next o s e r = record { events = r.events ++ e ∷ []; is = ap (λ t. next_of t (turn_of o t e)) r.is ∙ sym (after_one_more o at_start r.events e) }
