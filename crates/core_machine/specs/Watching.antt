-- The rounds of a watch.
use Rattle.std.specs.Prelude.{◌≡◌, ℕ, Bool, true, false, List, Option, None, Some, IsSomeAnd, is_some, slice_get, Result, Ok, Err}
use Rattle.core_events.specs.declared.out.StepError.{StepError}
use Rattle.core_law.specs.Situation.{Options, Exchange, Situation}
use Rattle.core_law.specs.Clients.{Out, Turn, Goes, joined, watched_by}
use Rattle.core_machine.specs.declared.machine.Machine.{Machine}
use Rattle.core_machine.specs.declared.watching.Round.{Round}
use Rattle.core_machine.specs.Turns.{GoesOn, StopsBy}

-- an exchange that is there has a reply
abbrev pub has_reply : Option Exchange → Bool
has_reply None = false
has_reply (Some x) = is_some x.given

-- what a watch is whose first round puts this out and leads there: the rest goes on from there, or there is none
abbrev pub watch_from : (Situation → Turn) → List Out → Situation → Bool → Turn
watch_from rest outs next true = joined outs (rest next)
watch_from rest outs next false = Goes outs next

-- the connections of exchanges end with the replies as before
abbrev pub ClosesStay : List Exchange → List Exchange → Type 0
ClosesStay xs ys = (i : ℕ) (x : Exchange) → slice_get xs i ≡ Some x → IsSomeAnd (slice_get ys i) (λ y. y.close ≡ x.close)

-- One round was made: whatever the rest would be, the watch is what the round put out and the rest from where it led.
pub record IsRound (o : Options) (s : Situation) (n : ℕ) (round : Round) (m : Machine) : Type 0 where
  pub outs : List Out
  pub next : Situation
  pub watched : (rest : Situation → Turn) → watched_by o rest s n (slice_get s.customers n) ≡ watch_from rest outs next round.goes_on
  pub goes : GoesOn o (Goes outs next) round.outs m
  pub closes : ClosesStay s.exchanges next.exchanges

-- where it was not, the watch stops for that cause
abbrev pub Rounds : Options → Situation → ℕ → Result Round StepError → Machine → Type 0
Rounds o s n (Ok round) m = IsRound o s n round m
Rounds o s n (Err error) m = (rest : Situation → Turn) → StopsBy (watched_by o rest s n (slice_get s.customers n)) error
