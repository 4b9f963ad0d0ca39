-- What a machine makes of an event.
use Rattle.std.specs.Prelude.{◌≡◌, List, [], ◌∷◌, IsSomeAnd, slice_get, Result, Ok, Err}
use Rattle.http_edge.specs.ReplyText.{reply_text}
use Rattle.core_events.specs.declared.out.Out.{Out}
use Rattle.core_events.specs.declared.out.Out.TheVariants as outs
use Rattle.core_events.specs.declared.out.StepError.{StepError}
use Rattle.core_events.specs.declared.out.StepError.TheVariants as errors
use Rattle.core_law.specs.Situation.{Options, Exchange, Situation}
use Rattle.core_law.specs.Clients.{Gives, Cut, Block, Refetched, Refused, Turn, Goes, Stops}
use Rattle.core_law.specs.Clients as law
use Rattle.core_law.specs.Run.{Event, turn_of}
use Rattle.core_clients.specs.Outs.{IsOfClient}
use Rattle.core_machine.specs.declared.machine.Machine.{Machine}
use Rattle.core_machine.specs.Standing.{Stands}

-- What one thing is that is put out: a reply is its text, behind which the connection ends where its exchange says so.
abbrev pub IsOut : List Exchange → law.Out → Out → Type 0
IsOut xs (Gives i heard) out = IsSomeAnd (slice_get xs i) (λ (x : Exchange). out ≡ outs.Given i (reply_text heard.given.reply x.close))
IsOut xs (Cut i) out = out ≡ outs.Cut i
IsOut xs (Block n handle offset rows) out = IsOfClient (Block n handle offset rows) out
IsOut xs (Refetched n) out = IsOfClient (Refetched n) out
IsOut xs (Refused n status) out = IsOfClient (Refused n status) out

-- one for each, in order
abbrev pub AreOuts : List Exchange → List law.Out → List Out → Type 0
AreOuts xs [] [] = Unit {0}
AreOuts xs [] (b ∷ bs) = ⊥
AreOuts xs (a ∷ as_) [] = ⊥
AreOuts xs (a ∷ as_) (b ∷ bs) = IsOut xs a b × AreOuts xs as_ bs

-- it goes on to the next situation, and puts out what the definitions do
abbrev pub GoesOn : Options → Turn → List Out → Machine → Type 0
GoesOn o (Goes expected next) outs m = AreOuts next.exchanges expected outs × Stands o next m
GoesOn o (Stops error) outs m = ⊥

-- it does not, for this cause; want of memory comes free
abbrev pub StopsBy : Turn → StepError → Type 0
StopsBy turn (errors.Unfit cause) = turn ≡ Stops (errors.Unfit cause)
StopsBy turn errors.TooManyExchanges = turn ≡ Stops errors.TooManyExchanges
StopsBy turn errors.OutOfMemory = Unit {0}

abbrev pub TurnsTo : Options → Turn → Result (List Out) StepError → Machine → Type 0
TurnsTo o turn (Ok outs) m = GoesOn o turn outs m
TurnsTo o turn (Err error) m = StopsBy turn error

-- What it makes of an event is what the definitions say, for each situation for which it stood.
abbrev pub Takes : Machine → Machine → Event → Result (List Out) StepError → Type 0
Takes old new e result = (o : Options) (s : Situation) → Stands o s old → TurnsTo o (turn_of o s e) result new
