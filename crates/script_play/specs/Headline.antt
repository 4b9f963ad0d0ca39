-- What the play of a script owes a history of its tables: the headline over a script.
use Rattle.std.specs.Prelude.{◌≡◌, ℕ, List, [], ◌∷◌, ◌++◌, length, map}
use Rattle.std.specs.List.{flat_map}
use Rattle.shape_base.specs.declared.history.History.{History}
use Rattle.core_events.specs.declared.event.Event.{Event}
use Rattle.core_events.specs.declared.out.Out.{Out}
use Rattle.core_law.specs.Situation.{Options, world_of}
use Rattle.core_law.specs.Laws.{AreOfRequests}
use Rattle.sync_core.specs.Run.{Situation, at_start}
use Rattle.core_run.specs.Steps.{Step, Leads}
use Rattle.core_run.specs.Laws.{IsToldBy}
use Rattle.core_run.specs.Calls.{ArePutOut, AreRightAnswers}
use Rattle.script.specs.Records.{Item}
use Rattle.script_play.specs.Script.{script_of}
use Rattle.script_play.specs.Played.{IsStart, Halt, Through, Misfit, Full, Ending, ending_of, IsPlayed}

-- ---- the events of a play

-- events without the places of their records
abbrev pub events_of : List (ℕ × Event) → List Event
events_of events = map (λ (e : ℕ × Event). e.1) events

-- the play stopped at the event whose record stands in this place
abbrev pub StopsAt : ℕ → Halt → Type 0
StopsAt place (Through exchanges) = ⊥
StopsAt place (Misfit at cause) = at ≡ place
StopsAt place Full = Unit {0}

-- how a play halts: where no event is left over it went through, and else it stopped at the first of them
abbrev pub Leaves : Situation → List (ℕ × Event) → Halt → Type 0
Leaves next [] halt = halt ≡ Through (length next.core.exchanges)
Leaves next (e ∷ events) halt = StopsAt e.0 halt

-- The first events were taken, and led to a situation; these are the steps, and what each put out, which is all that was put out.
pub record Took (o : Options) (s : Situation) (events : List (ℕ × Event)) (outs : List Out) (halt : Halt) : Type 0 where
  pub taken : List (ℕ × Event)
  pub others : List (ℕ × Event)
  pub are : events ≡ taken ++ others
  pub steps : List Step
  pub next : Situation
  pub leads : Leads o s (events_of taken) steps next
  pub said : List (List Out)
  pub put : ArePutOut steps said
  pub all : outs ≡ flat_map (λ now. now) said
  pub leaves : Leaves next others halt

-- ---- the headline

-- What was put out is right for a history: each reply is the text of a lawful one, each block has the rows of the table after the client's reach that the shape of its identity selects, and the shape of each number is that of a request.
pub record IsRight (o : Options) (h : History) (step : ℕ → ℕ) (steps : List Step) (said : List (List Out)) (next : Situation) : Type 0 where
  pub answers : AreRightAnswers (world_of o h step next.core.server) next.core.exchanges steps said
  pub shapes : AreOfRequests o next.core.server

-- The play of a script is right: of its events the first were taken, and what they put out is right for each history and each choice of steps by which they are told.
pub record IsRightlyPlayed (words : List (List ℕ)) (items : List Item) (outs : List Out) (ending : Ending) : Type 0 where
  pub options : Options
  pub start : IsStart words (script_of items).tables options
  pub halt : Halt
  pub ends : ending ≡ ending_of (script_of items).tail halt
  pub took : Took options at_start (script_of items).events outs halt
  pub right : (h : History) (step : ℕ → ℕ) → IsToldBy options h step took.next → IsRight options h step took.steps took.said took.next

-- Each play of a script is right.
abbrev pub Headline : Type 0
Headline = (words : List (List ℕ)) (items : List Item) (outs : List Out) (ending : Ending) → IsPlayed words items outs ending → IsRightlyPlayed words items outs ending
