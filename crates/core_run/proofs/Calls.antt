-- What the calls of a core lead to.
use Rattle.std.proofs.Common.{◌≡◌, List, [], ◌∷◌, ◌++◌, refl, sym, subst, append_assoc}
use Rattle.std.proofs.lemmas.List.{append-nil}
use Rattle.core_events.specs.declared.event.Event.{Event}
use Rattle.core_events.specs.declared.out.Out.{Out}
use Rattle.core_law.specs.Situation.{Options}
use Rattle.sync_core.specs.declared.stepping.Core.{Core}
use Rattle.sync_core.specs.Reading.{Reading}
use Rattle.sync_core.specs.Run.{Situation, Turn, Goes, Stops, IsRead, turned}
use Rattle.sync_core.specs.Core.{PutsOut, GoesOn}
use Rattle.core_run.specs.Steps.{Step}
use Rattle.core_run.specs.Calls.{ArePutOut, StandsAfter, StandsFirst, StandsMore, TakesAll, CallsLead}
use Rattle.core_run.proofs.Leading.{leads_more}

pub stands_first : StandsFirst
stands_first o s core stands = record { steps = []; next = s; leads = refl; outs = tt; stands = stands }

put_more : (steps : List Step) (said : List (List Out)) (step : Step) (now : List Out) → ArePutOut steps said → PutsOut step.refusal step.after step.outs now → ArePutOut (steps ++ step ∷ []) (said ++ now ∷ [])
put_more [] [] step now all one = (one, tt)
put_more [] (x ∷ said) step now all one = absurd all
put_more (y ∷ steps) [] step now all one = absurd all
put_more (y ∷ steps) (x ∷ said) step now all one = (all.0, put_more steps said step now all.1 one)

-- an event was read so, and its turn goes on as the core does
more_by : (o : Options) (s : Situation) (events : List Event) (said : List (List Out)) (old new : Core) (e : Event) (now : List Out) (h : StandsAfter o s events said old) (reading : Reading) (turn : Turn) → IsRead o h.next e reading → turned o h.next e reading ≡ turn → GoesOn o turn now new → StandsAfter o s (events ++ e ∷ []) (said ++ now ∷ []) new
more_by o s events said old new e now h reading (Goes refusal outs next) read is goes =
    let step : Step = record { reading = reading; refusal = refusal; outs = outs; after = next } in
    record {
      steps = h.steps ++ step ∷ [];
      next = next;
      leads = leads_more o s events h.steps h.next e step h.leads read is;
      outs = put_more h.steps said step now h.outs goes.0;
      stands = goes.1;
    }
more_by o s events said old new e now h reading (Stops error) read is goes = absurd goes

pub stands_more : StandsMore
stands_more o s events said old new e now h takes =
    let step = takes o h.next h.stands in
    more_by o s events said old new e now h step.reading (turned o h.next e step.reading) step.is refl step.turns

-- what comes behind these events
stands_behind : (o : Options) (s : Situation) (before events : List Event) (earlier said : List (List Out)) (first last : Core) → StandsAfter o s before earlier first → TakesAll first events said last → StandsAfter o s (before ++ events) (earlier ++ said) last
stands_behind o s before [] earlier [] first last h taken =
    let same : first ≡ last = sym taken in
    subst (λ (c : Core). StandsAfter o s (before ++ []) (earlier ++ []) c) same (subst (λ (es : List Event). StandsAfter o s es (earlier ++ []) first) (sym (append-nil before)) (subst (λ (ys : List (List Out)). StandsAfter o s before ys first) (sym (append-nil earlier)) h))
stands_behind o s before [] earlier (now ∷ said) first last h taken = absurd taken
stands_behind o s before (e ∷ events) earlier [] first last h taken = absurd taken
stands_behind o s before (e ∷ events) earlier (now ∷ said) first last h taken =
    let one = stands_more o s before earlier first taken.0 e now h taken.1 in
    let all = stands_behind o s (before ++ e ∷ []) events (earlier ++ now ∷ []) said taken.0 last one taken.2 in
    subst (λ (es : List Event). StandsAfter o s es (earlier ++ (now ∷ said)) last) (append_assoc before (e ∷ []) events) (subst (λ (ys : List (List Out)). StandsAfter o s ((before ++ e ∷ []) ++ events) ys last) (append_assoc earlier (now ∷ []) said) all)

pub calls_lead : CallsLead
calls_lead first last events said taken o s stands = stands_behind o s [] events [] said first last (stands_first o s first stands) taken
