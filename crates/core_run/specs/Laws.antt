-- The laws over whole lists of events.
use Rattle.std.specs.Prelude.{◌≡◌, ℕ, List, [], ◌∷◌, ◌++◌, Some, IsSomeAnd, slice_get}
use Rattle.std.specs.List.{AllByRecursion}
use Rattle.shape_base.specs.declared.history.History.{History}
use Rattle.shape_base.specs.Tables.{IsGoodHistory}
use Rattle.tx_assembler.specs.Shown.{Stretch, Shows}
use Rattle.core_events.specs.declared.event.Event.{Event}
use Rattle.http_edge.specs.World.{World}
use Rattle.http_edge.specs.Lawful.{IsLawful}
use Rattle.fold_client.specs.Following.{Heard}
use Rattle.core_law.specs.Situation.{Options, Exchange, world_of}
use Rattle.core_law.specs.Situation as law
use Rattle.core_law.specs.Clients.{Out, Gives, Cut, Block, Refetched, Refused}
use Rattle.core_law.specs.Run.{after, told}
use Rattle.core_law.specs.Laws.{IsStart, IsRoutedEvent, AreHonest, IsLawfulExchange, IsRightOut, AreOfRequests}
use Rattle.sync_core.specs.Stream.{Stream, stretch_of, done_in, commits_of}
use Rattle.sync_core.specs.Run.{Situation, at_start, Goes, IsRead, turned}
use Rattle.core_run.specs.Steps.{Step, Leads, brought_in, told_in}

-- ---- lists of events

-- One event more: where events lead to a situation, and the next event is read there and goes on, they lead with it to the situation after it.
abbrev pub LeadsMore : Type 0
LeadsMore = (o : Options) (s : Situation) (events : List Event) (steps : List Step) (next : Situation) (e : Event) (step : Step) → Leads o s events steps next → IsRead o next e step.reading → turned o next e step.reading ≡ Goes step.refusal step.outs step.after
    → Leads o s (events ++ e ∷ []) (steps ++ step ∷ []) step.after

-- the first events of a list, and the others
pub record LeadsBy (o : Options) (s : Situation) (first others : List Event) (steps : List Step) (next : Situation) : Type 0 where
  pub front : List Step
  pub back : List Step
  pub middle : Situation
  pub are : steps ≡ front ++ back
  pub begins : Leads o s first front middle
  pub ends : Leads o middle others back next

-- What events lead to is what the others lead to from where the first ones led.
abbrev pub LeadsOn : Type 0
LeadsOn = (o : Options) (s : Situation) (first others : List Event) (steps : List Step) (next : Situation) → Leads o s (first ++ others) steps next → LeadsBy o s first others steps next

-- ---- what happens to the server and its clients

-- What events did is what `core_law` says of what they came to; and what a target asks for there is what a GET of it is answered.
pub record ComesTo (o : Options) (steps : List Step) (next : Situation) : Type 0 where
  pub core : next.core ≡ after o law.at_start (brought_in steps)
  pub outs : told_in steps ≡ told o law.at_start (brought_in steps)
  pub routed : AllByRecursion (IsRoutedEvent o) (brought_in steps)

-- Events over bytes come to events of `core_law`, which put out the same and lead to the same.
abbrev pub LeadsToEvents : Type 0
LeadsToEvents = (o : Options) (events : List Event) (steps : List Step) (next : Situation) → Leads o at_start events steps next → ComesTo o steps next

-- ---- the stream

-- its stretches, with the present one
abbrev pub stretches_of : Stream → List Stretch
stretches_of s = done_in s ++ stretch_of s.now ∷ []

-- The commits of the server are those that the stream shows: each once, in order, none passed over.
abbrev pub CommitsAreShown : Type 0
CommitsAreShown = (o : Options) (events : List Event) (steps : List Step) (next : Situation) → Leads o at_start events steps next → next.core.server.commits ≡ commits_of o.tables next.stream

-- ---- histories

-- What a history and a step for each number owe what events led to: the history is good and of the served tables, the stream shows it, and the snapshots that became ready are honest.
pub record IsToldBy (o : Options) (h : History) (step : ℕ → ℕ) (next : Situation) : Type 0 where
  pub good : IsGoodHistory h
  pub tables : h.tables ≡ o.tables
  pub shows : Shows h (stretches_of next.stream)
  pub honest : AreHonest h step next.core.server

-- Each reply that was given is lawful, in the world that the last situation tells.
abbrev pub RepliesAreLawful : Type 0
RepliesAreLawful = (o : Options) (h : History) (step : ℕ → ℕ) (events : List Event) (steps : List Step) (next : Situation) → IsStart o → Leads o at_start events steps next → IsToldBy o h step next
    → AllByRecursion (IsLawfulExchange (world_of o h step next.core.server)) next.core.exchanges

-- the exchange has this reply, which is lawful
pub record HasLawful (w : World) (heard : Heard) (x : Exchange) : Type 0 where
  pub given : x.given ≡ Some heard
  pub lawful : IsLawful w x.asked heard.given

abbrev pub IsLawfulOut : World → List Exchange → Out × law.Situation → Type 0
IsLawfulOut w xs (Gives e heard, s) = IsSomeAnd (slice_get xs e) (HasLawful w heard)
IsLawfulOut w xs (Cut e, s) = Unit {0}
IsLawfulOut w xs (Block n handle offset rows, s) = Unit {0}
IsLawfulOut w xs (Refetched n, s) = Unit {0}
IsLawfulOut w xs (Refused n status, s) = Unit {0}

-- Each reply that was put out is that of its exchange, and lawful.
abbrev pub OutsAreLawful : Type 0
OutsAreLawful = (o : Options) (h : History) (step : ℕ → ℕ) (events : List Event) (steps : List Step) (next : Situation) → IsStart o → Leads o at_start events steps next → IsToldBy o h step next
    → AllByRecursion (IsLawfulOut (world_of o h step next.core.server) next.core.exchanges) (told_in steps)

-- Each block has the rows of the table after the client's reach that the shape of its identity selects, and the shape of each number is that of a request.
pub record AreRight (o : Options) (h : History) (step : ℕ → ℕ) (steps : List Step) (next : Situation) : Type 0 where
  pub blocks : AllByRecursion (IsRightOut (world_of o h step next.core.server)) (told_in steps)
  pub shapes : AreOfRequests o next.core.server

-- The headline over bytes.
abbrev pub Headline : Type 0
Headline = (o : Options) (h : History) (step : ℕ → ℕ) (events : List Event) (steps : List Step) (next : Situation) → IsStart o → Leads o at_start events steps next → IsToldBy o h step next → AreRight o h step steps next
