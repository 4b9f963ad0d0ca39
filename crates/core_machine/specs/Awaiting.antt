-- What is left once the exchanges that await numbers were answered.
use Rattle.std.specs.Prelude.{◌≡◌, ℕ, Bool, false, ◌&&◌, List, [], Option, None, Some}
use Rattle.core_events.specs.declared.out.Out.{Out}
use Rattle.core_law.specs.Situation.{Options, Exchange, Situation}
use Rattle.core_law.specs.Waiting.{awaited}
use Rattle.core_exchanges.specs.Indexing.{is_among}
use Rattle.core_exchanges.specs.Standing.{ArePlaces, is_open, awaits}
use Rattle.core_machine.specs.declared.answering.Refusal.{Refusal}
use Rattle.core_machine.specs.declared.machine.Machine.{Machine}
use Rattle.core_machine.specs.Replying.{answered_in}
use Rattle.core_machine.specs.Answering.{Halfway, AnswersAll, settled_at, texts_at}

-- it is one of the numbers
abbrev pub is_one_of : List ℕ → Option ℕ → Bool
is_one_of numbers None = false
is_one_of numbers (Some n) = is_among n numbers

-- it has no reply, and awaits one of the numbers
abbrev pub awaits_any : List ℕ → Exchange → Bool
awaits_any numbers x = is_open x && is_one_of numbers (awaited x.asked x.role)

-- Those in these places were answered, for whatever the server and the exchanges stood.
abbrev pub AnswersAt : Machine → Machine → List ℕ → Bool → Option Refusal → List Out → Type 0
AnswersAt old new places late r outs = (o : Options) (s : Situation) (xs : List Exchange) → AnswersAll o s xs old.server r old.exchanges [] places late new.exchanges outs

-- those that pass a test were answered
pub record AreAnswered (o : Options) (s : Situation) (xs : List Exchange) (new : Machine) (test : Exchange → Bool) (r : Option Refusal) (outs : List Out) : Type 0 where
  pub places : List ℕ
  pub await : ArePlaces test xs places
  pub halfway : Halfway o s (settled_at (answered_in o s.server false r) places xs) new.server new.exchanges
  pub outs_are : outs ≡ texts_at (answered_in o s.server false r) places xs

abbrev pub IsAwaitingAnswered : Options → Situation → List Exchange → Machine → ℕ → Option Refusal → List Out → Type 0
IsAwaitingAnswered o s xs new number r outs = AreAnswered o s xs new (awaits number) r outs

-- For whatever the server and the exchanges stood.
abbrev pub AnswersAwaiting : Machine → Machine → ℕ → Option Refusal → List Out → Type 0
AnswersAwaiting old new number r outs = (o : Options) (s : Situation) (xs : List Exchange) → Halfway o s xs old.server old.exchanges → IsAwaitingAnswered o s xs new number r outs

abbrev pub AnswersAny : Machine → Machine → List ℕ → List Out → Type 0
AnswersAny old new numbers outs = (o : Options) (s : Situation) (xs : List Exchange) → Halfway o s xs old.server old.exchanges → AreAnswered o s xs new (awaits_any numbers) None outs
