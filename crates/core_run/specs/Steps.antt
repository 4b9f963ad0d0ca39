-- What a list of events leads to.
use Rattle.std.specs.Prelude.{◌≡◌, List, [], ◌∷◌, ◌++◌, map, Option}
use Rattle.core_events.specs.declared.event.Event.{Event}
use Rattle.core_law.specs.Situation.{Options}
use Rattle.core_law.specs.Situation as law
use Rattle.core_law.specs.Clients.{Out}
use Rattle.core_law.specs.Run as law_run
use Rattle.sync_core.specs.Stream.{Fault}
use Rattle.sync_core.specs.Reading.{Reading, Passes, Brings, Misfits}
use Rattle.sync_core.specs.Run.{Situation, Goes, IsRead, turned}

-- An event that was taken: what it came to, the refusal of the stream, where one came, what else was put out, and the situation after it.
pub record Step : Type 0 where
  pub reading : Reading
  pub refusal : Option Fault
  pub outs : List Out
  pub after : Situation

-- The event was read so, and its turn goes on so.
pub record IsTaken (o : Options) (s : Situation) (e : Event) (step : Step) : Type 0 where
  pub read : IsRead o s e step.reading
  pub goes : turned o s e step.reading ≡ Goes step.refusal step.outs step.after

-- Events lead from a situation to the next one: each is taken, in order, and all go on.
abbrev pub Leads : Options → Situation → List Event → List Step → Situation → Type 0
Leads o s [] [] next = next ≡ s
Leads o s [] (step ∷ steps) next = ⊥
Leads o s (e ∷ events) [] next = ⊥
Leads o s (e ∷ events) (step ∷ steps) next = IsTaken o s e step × Leads o step.after events steps next

-- ---- what they did

abbrev pub brought_by : Reading → List law_run.Event
brought_by Passes = []
brought_by (Brings event) = event ∷ []
brought_by (Misfits cause) = []

-- what happened to the server and its clients, in order
abbrev pub brought_in : List Step → List law_run.Event
brought_in [] = []
brought_in (step ∷ steps) = brought_by step.reading ++ brought_in steps

-- what the server and its clients put out, each with their situation after its event
abbrev pub told_in : List Step → List (Out × law.Situation)
told_in [] = []
told_in (step ∷ steps) = map (λ out. (out, step.after.core)) step.outs ++ told_in steps
