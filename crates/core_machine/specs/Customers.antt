-- What a client's next request is, and what it makes of a reply.
use Rattle.std.specs.Prelude.{◌≡◌, ℕ, Bool, false, List, Option, None, Some, slice_get, Result, Ok, Err}
use Rattle.shape_base.specs.Tables.{same_text}
use Rattle.core_events.specs.declared.out.StepError.{StepError}
use Rattle.fold_client.specs.Client.{take_reply}
use Rattle.fold_client.specs.Following.{Heard}
use Rattle.core_clients.specs.declared.follower.Received.{Received}
use Rattle.core_law.specs.Situation.{Options, Exchange, Customer, Situation, held_of, next_asked}
use Rattle.core_law.specs.Clients.{take_by, goes_on}
use Rattle.core_exchanges.specs.declared.exchange.Asked as kept
use Rattle.core_exchanges.specs.Standing.{asked_of}
use Rattle.core_machine.specs.declared.machine.Machine.{Machine}
use Rattle.core_machine.specs.Opening.{IsServed}
use Rattle.core_machine.specs.Turns.{GoesOn, StopsBy}

-- what a client that is there makes of a reply that is there
abbrev pub TookIt : Options → Situation → ℕ → ℕ → Customer → Exchange → Option Heard → Received → Machine → Type 0
TookIt o s n e c x None received m = ⊥
TookIt o s n e c x (Some h) received m = GoesOn o (take_by s n e (Some c)) received.outs m × (received.goes_on ≡ goes_on (take_reply (held_of c) h.given.reply h.body).outcome)

abbrev pub Receipt : Options → Situation → ℕ → ℕ → Option Customer → Option Exchange → Received → Machine → Type 0
Receipt o s n e None x received m = ⊥
Receipt o s n e (Some c) None received m = ⊥
Receipt o s n e (Some c) (Some x) received m = TookIt o s n e c x x.given received m

-- a request has this target
abbrev pub is_target : Option (List ℕ) → List ℕ → Bool
is_target None next = false
is_target (Some target) next = same_text target next

-- what a customer's next request asks for, where there is one
abbrev pub IsNextAsked : Machine → Option kept.Asked → Option Customer → Type 0
IsNextAsked m None None = Unit {0}
IsNextAsked m None (Some c) = ⊥
IsNextAsked m (Some asked) None = ⊥
IsNextAsked m (Some asked) (Some c) = (asked_of asked ≡ next_asked c) × IsServed m asked

-- a reply was taken: the turn of that, what is put out, and whether a watch goes on
abbrev pub ReceivesTurn : Options → Situation → ℕ → ℕ → Result Received StepError → Machine → Type 0
ReceivesTurn o s n e (Ok received) m = Receipt o s n e (slice_get s.customers n) (slice_get s.exchanges e) received m
ReceivesTurn o s n e (Err error) m = StopsBy (take_by s n e (slice_get s.customers n)) error
