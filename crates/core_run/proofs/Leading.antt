-- Lists of events, one after the other, and what they come to.
use Rattle.std.proofs.Common.{◌≡◌, List, [], ◌∷◌, ◌++◌, map, refl, sym, ◌∙◌, ap, subst, Option}
use Rattle.std.specs.List.{AllByRecursion}
use Rattle.core_events.specs.declared.event.Event.{Event}
use Rattle.core_law.specs.Situation.{Options}
use Rattle.core_law.specs.Situation as law
use Rattle.core_law.specs.Clients.{Out}
use Rattle.core_law.specs.Clients as turns
use Rattle.core_law.specs.Run as law_run
use Rattle.core_law.specs.Run.{turn_of, next_of, outs_of, after, told}
use Rattle.core_law.specs.Laws.{IsRoutedEvent}
use Rattle.sync_core.specs.Stream.{Fault}
use Rattle.sync_core.specs.Reading.{Reading, Passes, Brings, Misfits}
use Rattle.sync_core.specs.Run.{Situation, at_start, Goes, IsRead, stream_after, moved, goes_by, turned}
use Rattle.core_run.specs.Steps.{Step, IsTaken, Leads, brought_by, brought_in, told_in}
use Rattle.core_run.specs.Laws.{LeadsMore, LeadsOn, LeadsToEvents}
use Rattle.core_run.proofs.Readings.{routed_read}

-- ---- one event more

leads_one : (o : Options) (s next : Situation) (e : Event) (step : Step) → next ≡ s → IsTaken o next e step → Leads o s (e ∷ []) (step ∷ []) step.after
leads_one o s next e step same taken = (subst (λ (t : Situation). IsTaken o t e step) same taken, refl)

pub leads_more : LeadsMore
leads_more o s [] [] next e step leads read goes = leads_one o s next e step leads (record { read = read; goes = goes })
leads_more o s [] (x ∷ steps) next e step leads read goes = absurd leads
leads_more o s (x ∷ events) [] next e step leads read goes = absurd leads
leads_more o s (x ∷ events) (y ∷ steps) next e step leads read goes = (leads.0, leads_more o y.after events steps next e step leads.1 read goes)

pub leads_on : LeadsOn
leads_on o s [] others steps next leads = record { front = []; back = steps; middle = s; are = refl; begins = refl; ends = leads }
leads_on o s (e ∷ first) others [] next leads = absurd leads
leads_on o s (e ∷ first) others (step ∷ steps) next leads =
    let rest = leads_on o step.after first others steps next leads.1 in
    record { front = step ∷ rest.front; back = rest.back; middle = rest.middle; are = ap (λ (xs : List Step). step ∷ xs) rest.are; begins = (leads.0, rest.begins); ends = rest.ends }

-- ---- one turn

-- how a turn went on
pub record Went (o : Options) (s : Situation) (e : Event) (turn : turns.Turn) (outs : List Out) (next : Situation) : Type 0 where
  pub turn_is : turn ≡ turns.Goes outs next.core
  pub stream_is : next.stream ≡ stream_after o.tables s.stream e

pub went : (o : Options) (s : Situation) (e : Event) (turn : turns.Turn) (refusal : Option Fault) (outs : List Out) (next : Situation) → goes_by o s e turn ≡ Goes refusal outs next → Went o s e turn outs next
went o s e (turns.Goes said core) refusal outs next h =
    let same : said ≡ outs = cc in
    let to : moved o s e core ≡ next = cc in
    let there : core ≡ next.core = ap (λ (t : Situation). t.core) to in
    record { turn_is = cc; stream_is = sym (ap (λ (t : Situation). t.stream) to) }
went o s e (turns.Stops error) refusal outs next h = cc

-- ---- what events come to

-- what steps did is what follows from these events
pub record Follows (o : Options) (s : law.Situation) (events : List law_run.Event) (outs : List (Out × law.Situation)) (next : law.Situation) : Type 0 where
  pub core : next ≡ after o s events
  pub told_is : outs ≡ told o s events
  pub routed : AllByRecursion (IsRoutedEvent o) events

follows_same : (o : Options) (s t : law.Situation) (events : List law_run.Event) (said : List Out) (outs : List (Out × law.Situation)) (next : law.Situation) → turns.Goes [] s ≡ turns.Goes said t → Follows o t events outs next → Follows o s events (map {B = Out × law.Situation} (λ out. (out, t)) said ++ outs) next
follows_same o s t events said outs next h f =
    let none : said ≡ [] = cc in
    let same : t ≡ s = cc in
    record {
      core = f.core ∙ ap (λ (u : law.Situation). after o u events) same;
      told_is = ap (λ (xs : List Out). map {B = Out × law.Situation} (λ out. (out, t)) xs ++ outs) none ∙ f.told_is ∙ ap (λ (u : law.Situation). told o u events) same;
      routed = f.routed;
    }

follows_next : (o : Options) (s t : law.Situation) (event : law_run.Event) (events : List law_run.Event) (said : List Out) (outs : List (Out × law.Situation)) (next : law.Situation) → turn_of o s event ≡ turns.Goes said t → IsRoutedEvent o event → Follows o t events outs next
    → Follows o s (event ∷ events) (map {B = Out × law.Situation} (λ out. (out, t)) said ++ outs) next
follows_next o s t event events said outs next h routed f = record {
  core = f.core ∙ ap (λ (u : turns.Turn). after o (next_of s u) events) (sym h);
  told_is = ap (λ (xs : List (Out × law.Situation)). map {B = Out × law.Situation} (λ out. (out, t)) said ++ xs) f.told_is ∙ ap (λ (u : turns.Turn). map {B = Out × law.Situation} (λ out. (out, next_of s u)) (outs_of u) ++ told o (next_of s u) events) (sym h);
  routed = (routed, f.routed);
}

follows_one : (o : Options) (s : Situation) (e : Event) (reading : Reading) (refusal : Option Fault) (said : List Out) (t : Situation) (events : List law_run.Event) (outs : List (Out × law.Situation)) (next : law.Situation) → IsRead o s e reading → turned o s e reading ≡ Goes refusal said t → Follows o t.core events outs next
    → Follows o s.core (brought_by reading ++ events) (map {B = Out × law.Situation} (λ out. (out, t.core)) said ++ outs) next
follows_one o s e Passes refusal said t events outs next read goes f = follows_same o s.core t.core events said outs next (went o s e (turns.Goes [] s.core) refusal said t goes).turn_is f
follows_one o s e (Brings event) refusal said t events outs next read goes f = follows_next o s.core t.core event events said outs next (went o s e (turn_of o s.core event) refusal said t goes).turn_is (routed_read o s e event read) f
follows_one o s e (Misfits cause) refusal said t events outs next read goes f = cc

pub follows : (o : Options) (s : Situation) (events : List Event) (steps : List Step) (next : Situation) → Leads o s events steps next → Follows o s.core (brought_in steps) (told_in steps) next.core
follows o s [] [] next leads = record { core = ap (λ (t : Situation). t.core) leads; told_is = refl; routed = tt }
follows o s [] (step ∷ steps) next leads = absurd leads
follows o s (e ∷ events) [] next leads = absurd leads
follows o s (e ∷ events) (step ∷ steps) next leads =
    follows_one o s e step.reading step.refusal step.outs step.after (brought_in steps) (told_in steps) next.core leads.0.read leads.0.goes (follows o step.after events steps next leads.1)

pub leads_to_events : LeadsToEvents
leads_to_events o events steps next leads = let f = follows o at_start events steps next leads in record { core = f.core; outs = f.told_is; routed = f.routed }
