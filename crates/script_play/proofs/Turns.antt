-- A record more.
use Rattle.std.proofs.Common.{◌≡◌, ℕ, ◌+◌, Bool, true, false, List, [], ◌∷◌, ◌++◌, length, refl, sym, ap, subst, ◌∙◌, append_assoc, Option, None, Some}
use Rattle.std.specs.Prelude.{is_some, is_none, if◌then◌else◌, codes, nat_lt, Result, Ok, Err}
use Rattle.std.specs.List.{AllByRecursion}
use Rattle.std.proofs.lemmas.List.{append-nil}
use Rattle.core_events.specs.declared.event.Event.{Event}
use Rattle.core_events.specs.declared.out.Out.{Out}
use Rattle.core_events.specs.declared.out.Unfit.{Unfit}
use Rattle.core_events.specs.declared.out.StepError.{StepError}
use Rattle.core_events.specs.declared.out.StepError.TheVariants as errors
use Rattle.core_law.specs.Situation.{Options}
use Rattle.script.specs.declared.fault.RecordError.{RecordError}
use Rattle.script.specs.declared.fault.RecordError.TheVariants as faults
use Rattle.script.specs.declared.record.Record.{Record}
use Rattle.script.specs.declared.record.Record.TheVariants as records
use Rattle.script.specs.declared.table.Declaration.{Declaration}
use Rattle.script.specs.Records.{Item, record_of}
use Rattle.sync_core.specs.declared.stepping.Core.{Core}
use Rattle.sync_core.specs.Run.{Situation, at_start, Turn, Goes, Stops, IsRead, turned}
use Rattle.sync_core.specs.Core as cores
use Rattle.sync_core.specs.Core.{Stands, Takes, IsStep}
use Rattle.shape_base.specs.declared.limits.Limits.{Limits}
use Rattle.script_play.specs.declared.steps.Step.{Step}
use Rattle.script_play.specs.declared.steps.Step.TheVariants as steps
use Rattle.script_play.specs.declared.cause.ScriptCause.{ScriptCause}
use Rattle.script_play.specs.declared.cause.ScriptCause.TheVariants as causes
use Rattle.script_play.specs.Settings.{AreLimits}
use Rattle.script_play.specs.Tables.{HasKey, catalog_of}
use Rattle.script_play.specs.Script.{Script, Tail, AtEnd, AtRefusal, Open, is_declared, declares, passes_over, step_by, step_of, script_of, script_from, by_step, after_events, without_events, size_of, cause_for}
use Rattle.script_play.specs.Played.{IsStart, Halt, Through, Misfit, Full, GoesBy, Plays, Ending, Ended, Refused, TooMany, Unended, ending_of, IsPlayed}
use Rattle.script_play.specs.Playing.{IsDeclaring, IsUnder, IsGoing, IsStaged, IsLast}
use Rattle.script_play.proofs.Keys.{tables_for}

-- ---- the script, a record further

abbrev onward : ℕ → Item → List Item → List Declaration → Bool → Script
onward place item items ts later = script_from ts later (place + size_of item) items

pub script_next : (ds : List Declaration) (late : Bool) (place : ℕ) (item : Item) (items : List Item) (step : Step) → step ≡ step_of ds late item → script_from ds late place (item ∷ items) ≡ by_step (onward place item items) ds late place step
unfolding script_from
script_next ds late place item items step e = ap (by_step (onward place item items) ds late place) (sym e)

pub script_ends : (ds : List Declaration) (late : Bool) (place : ℕ) → script_from ds late place [] ≡ without_events ds Open
unfolding script_from
script_ends ds late place = refl

-- no table is declared late
late_by : (ds : List Declaration) (t u : Declaration) (b : Bool) → steps.Declares t ≡ (if b then steps.Refused causes.BadPayload else steps.Refused causes.LateTable) → ⊥
late_by ds t u true e = cc
late_by ds t u false e = cc

passes_by : (t : Declaration) (b : Bool) → steps.Declares t ≡ (if b then steps.Passes else steps.Refused causes.NoTable) → ⊥
passes_by t true e = cc
passes_by t false e = cc

not_late_by : (ds : List Declaration) (t : Declaration) (r : Result Record RecordError) → steps.Declares t ≡ step_by ds true r → ⊥
not_late_by ds t (Ok (records.Table u)) e = late_by ds t u (is_declared ds u) e
not_late_by ds t (Ok (records.Start rows)) e = passes_by t (nat_lt rows.table (length ds)) e
not_late_by ds t (Ok (records.Brings event)) e = cc
not_late_by ds t (Ok records.End) e = cc
not_late_by ds t (Err faults.UnknownKind) e = cc
not_late_by ds t (Err faults.BadPayload) e = cc
not_late_by ds t (Err faults.OutOfMemory) e = cc

pub not_late : (ds : List Declaration) (t : Declaration) (item : Item) → steps.Declares t ≡ step_of ds true item → ⊥
unfolding step_of
not_late ds t item e = not_late_by ds t (record_of item) e

late_step : (next : List Declaration → Bool → Script) (ds : List Declaration) (place : ℕ) (item : Item) (step : Step) → (next ds true).tables ≡ ds → step ≡ step_of ds true item → (by_step next ds true place step).tables ≡ ds
late_step next ds place item (steps.Declares t) h e = absurd (not_late ds t item e)
late_step next ds place item steps.Passes h e = h
late_step next ds place item (steps.Brings event) h e = h
late_step next ds place item steps.Ends h e = refl
late_step next ds place item (steps.Refused cause) h e = refl

late_tables : (ds : List Declaration) (place : ℕ) (items : List Item) → (script_from ds true place items).tables ≡ ds
late_tables ds place [] = ap (λ (s : Script). s.tables) (script_ends ds true place)
late_tables ds place (item ∷ items) = ap (λ (s : Script). s.tables) (script_next ds true place item items (step_of ds true item) refl) ∙ late_step (onward place item items) ds place item (step_of ds true item) (late_tables ds (place + size_of item) items) refl

-- ---- ends

-- a script that goes on so ends so
pub halted : (words : List (List ℕ)) (ds : List Declaration) (late : Bool) (place : ℕ) (first items : List Item) (outs others : List Out) (u : IsUnder words ds late place first outs) (sc : Script) (halt : Halt) (ending : Ending)
    → script_from ds late place items ≡ sc → sc.tables ≡ ds → Plays u.options u.situation sc.events others halt → ending ≡ ending_of sc.tail halt → IsPlayed words (first ++ items) (outs ++ others) ending
halted words ds late place first items outs others u sc halt ending is tables plays ends =
    let whole : script_of (first ++ items) ≡ after_events u.events sc = u.script items ∙ ap (after_events u.events) is in
    record {
      options = u.options;
      start = subst (λ (ts : List Declaration). IsStart words ts u.options) (sym (ap (λ (s : Script). s.tables) whole ∙ tables)) u.start;
      halt = halt;
      plays = subst (λ (es : List (ℕ × Event)). Plays u.options at_start es (outs ++ others) halt) (sym (ap (λ (s : Script). s.events) whole)) (u.plays sc.events others halt plays);
      ends = ends ∙ sym (ap (λ (s : Script). ending_of s.tail halt) whole);
    }

without_outs : (words : List (List ℕ)) (items : List Item) (outs : List Out) (ending : Ending) → IsPlayed words items (outs ++ []) ending → IsPlayed words items outs ending
without_outs words items outs ending p = subst (λ (os : List Out). IsPlayed words items os ending) (append-nil outs) p

-- no record is left
pub unended : (words : List (List ℕ)) (ds : List Declaration) (late : Bool) (place : ℕ) (first : List Item) (outs : List Out) → IsUnder words ds late place first outs → IsPlayed words first outs Unended
unended words ds late place first outs u =
    subst (λ (items : List Item). IsPlayed words items outs Unended) (append-nil first)
    (without_outs words (first ++ []) outs Unended (halted words ds late place first [] outs [] u (without_events ds Open) (Through (length u.situation.core.exchanges)) Unended (script_ends ds late place) refl (refl, refl) refl))

pub refused_last : (words : List (List ℕ)) (ds : List Declaration) (late : Bool) (place : ℕ) (first : List Item) (item : Item) (outs : List Out) (cause : ScriptCause) → IsUnder words ds late place first outs → steps.Refused cause ≡ step_of ds late item → IsLast words first item outs (Refused place cause)
refused_last words ds late place first item outs cause u e = record {
  played = λ rest.
      without_outs words (first ++ item ∷ rest) outs (Refused place cause) (halted words ds late place first (item ∷ rest) outs [] u (without_events ds (AtRefusal place cause)) (Through (length u.situation.core.exchanges)) (Refused place cause) (script_next ds late place item rest (steps.Refused cause) e) refl (refl, refl) refl);
}

pub end_last : (words : List (List ℕ)) (ds : List Declaration) (late : Bool) (place : ℕ) (first : List Item) (item : Item) (outs : List Out) (n : ℕ) (u : IsUnder words ds late place first outs) → steps.Ends ≡ step_of ds late item → n ≡ length u.situation.core.exchanges → IsLast words first item outs (Ended n)
end_last words ds late place first item outs n u e count = record {
  played = λ rest.
      without_outs words (first ++ item ∷ rest) outs (Ended n) (halted words ds late place first (item ∷ rest) outs [] u (without_events ds AtEnd) (Through (length u.situation.core.exchanges)) (Ended n) (script_next ds late place item rest steps.Ends e) refl (refl, refl) (ap Ended count));
}

misfit_ending : (tail : Tail) (place : ℕ) (cause : Unfit) → Refused place (cause_for cause) ≡ ending_of tail (Misfit place cause)
misfit_ending AtEnd place cause = refl
misfit_ending (AtRefusal p c) place cause = refl
misfit_ending Open place cause = refl

full_ending : (tail : Tail) → TooMany ≡ ending_of tail Full
full_ending AtEnd = refl
full_ending (AtRefusal p c) = refl
full_ending Open = refl

-- what comes behind an event
abbrev behind_event : List Declaration → ℕ → Item → List Item → Event → Script
behind_event ds place item rest e = after_events ((place, e) ∷ []) (script_from ds true (place + size_of item) rest)

pub misfit_last : (words : List (List ℕ)) (ds : List Declaration) (late : Bool) (place : ℕ) (first : List Item) (item : Item) (outs : List Out) (e : Event) (cause : Unfit) (old new : Core) (u : IsUnder words ds late place first outs) → Stands u.options u.situation old
    → steps.Brings e ≡ step_of ds late item → Takes old new e (Err (errors.Unfit cause)) → IsLast words first item outs (Refused place (cause_for cause))
misfit_last words ds late place first item outs e cause old new u stands is takes =
    let step = takes u.options u.situation stands in
    record {
      played = λ rest.
          let sc = behind_event ds place item rest e in
          without_outs words (first ++ item ∷ rest) outs (Refused place (cause_for cause)) (halted words ds late place first (item ∷ rest) outs [] u sc (Misfit place cause) (Refused place (cause_for cause)) (script_next ds late place item rest (steps.Brings e) is)
          (late_tables ds (place + size_of item) rest)
          (step.reading, (step.is, subst (λ (turn : Turn). GoesBy (λ next. Plays u.options next (script_from ds true (place + size_of item) rest).events) place turn [] (Misfit place cause)) (sym step.turns) (refl, refl)))
          (misfit_ending sc.tail place cause));
    }

pub full_last : (words : List (List ℕ)) (ds : List Declaration) (late : Bool) (place : ℕ) (first : List Item) (item : Item) (outs : List Out) (e : Event) (old new : Core) (u : IsUnder words ds late place first outs) → Stands u.options u.situation old
    → steps.Brings e ≡ step_of ds late item → Takes old new e (Err errors.TooManyExchanges) → IsLast words first item outs TooMany
full_last words ds late place first item outs e old new u stands is takes =
    let step = takes u.options u.situation stands in
    record {
      played = λ rest.
          let sc = behind_event ds place item rest e in
          without_outs words (first ++ item ∷ rest) outs TooMany (halted words ds late place first (item ∷ rest) outs [] u sc Full TooMany (script_next ds late place item rest (steps.Brings e) is)
          (late_tables ds (place + size_of item) rest)
          (step.reading, (step.is, subst (λ (turn : Turn). GoesBy (λ next. Plays u.options next (script_from ds true (place + size_of item) rest).events) place turn [] Full) (sym step.turns) (refl, refl)))
          (full_ending sc.tail));
    }

-- ---- the script goes on

one_further : (first : List Item) (item : Item) (rest : List Item) → script_of ((first ++ item ∷ []) ++ rest) ≡ script_of (first ++ item ∷ rest)
one_further first item rest = ap script_of (append_assoc first (item ∷ []) rest)

pub declared_more : (words : List (List ℕ)) (ds : List Declaration) (place : ℕ) (first : List Item) (item : Item) (outs : List Out) (t : Declaration) → IsDeclaring words ds place first outs → steps.Declares t ≡ step_of ds false item
    → IsDeclaring words (ds ++ t ∷ []) (place + size_of item) (first ++ item ∷ []) (outs ++ [])
declared_more words ds place first item outs t d e = record {
  script = λ rest. one_further first item rest ∙ d.script (item ∷ rest) ∙ script_next ds false place item rest (steps.Declares t) e;
  none = append-nil outs ∙ d.none;
}

pub passed : (words : List (List ℕ)) (ds : List Declaration) (late : Bool) (core : Core) (place : ℕ) (first : List Item) (item : Item) (outs : List Out) → IsGoing words ds late core place first outs → steps.Passes ≡ step_of ds late item
    → IsGoing words ds true core (place + size_of item) (first ++ item ∷ []) (outs ++ [])
passed words ds late core place first item outs g e = let u = g.under in record {
  under = record {
    options = u.options;
    start = u.start;
    situation = u.situation;
    events = u.events;
    script = λ rest. one_further first item rest ∙ u.script (item ∷ rest) ∙ ap (after_events u.events) (script_next ds late place item rest steps.Passes e);
    plays = λ more others halt p. subst (λ (os : List Out). Plays u.options at_start (u.events ++ more) (os ++ others) halt) (sym (append-nil outs)) (u.plays more others halt p);
  };
  stands = g.stands;
}

-- an event that is taken
record HasTurned (o : Options) (core : Core) (place : ℕ) (turn : Turn) (now : List Out) : Type 1 where
  next : Situation
  stands : Stands o next core
  goes : (Rest : Situation → List Out → Halt → Type 0) (others : List Out) (halt : Halt) → Rest next others halt → GoesBy Rest place turn (now ++ others) halt

has_turned : (o : Options) (core : Core) (place : ℕ) (turn : Turn) (now : List Out) → cores.GoesOn o turn now core → HasTurned o core place turn now
has_turned o core place (Goes refusal expected next) now h = record { next = next; stands = h.1; goes = λ Rest others halt r. record { now = now; puts = h.0; more = others; are = refl; rest = r } }
has_turned o core place (Stops error) now h = absurd h

after_twice : (es fs : List (ℕ × Event)) (s : Script) → after_events es (after_events fs s) ≡ after_events (es ++ fs) s
after_twice es fs s = ap (λ (all : List (ℕ × Event)). record { tables = s.tables; events = all; tail = s.tail }) (sym (append_assoc es fs s.events))

pub brought_more : (words : List (List ℕ)) (ds : List Declaration) (late : Bool) (old new : Core) (place : ℕ) (first : List Item) (item : Item) (outs now : List Out) (e : Event) → IsGoing words ds late old place first outs → steps.Brings e ≡ step_of ds late item → Takes old new e (Ok now)
    → IsGoing words ds true new (place + size_of item) (first ++ item ∷ []) (outs ++ now)
brought_more words ds late old new place first item outs now e g is takes =
    let u = g.under in
    let step = takes u.options u.situation g.stands in
    let turn = has_turned u.options new place (turned u.options u.situation e step.reading) now step.turns in
    record {
      under = record {
        options = u.options;
        start = u.start;
        situation = turn.next;
        events = u.events ++ (place, e) ∷ [];
        script = λ rest. one_further first item rest ∙ u.script (item ∷ rest) ∙ ap (after_events u.events) (script_next ds late place item rest (steps.Brings e) is) ∙ after_twice u.events ((place, e) ∷ []) (script_from ds true (place + size_of item) rest);
        plays = λ more others halt p.
            let one : Plays u.options u.situation ((place, e) ∷ more) (now ++ others) halt = (step.reading, (step.is, turn.goes (λ next. Plays u.options next more) others halt p)) in
            subst (λ (es : List (ℕ × Event)). Plays u.options at_start es ((outs ++ now) ++ others) halt) (sym (append_assoc u.events ((place, e) ∷ []) more))
            (subst (λ (os : List Out). Plays u.options at_start (u.events ++ (place, e) ∷ more) os halt) (sym (append_assoc outs now others)) (u.plays ((place, e) ∷ more) (now ++ others) halt one));
      };
      stands = turn.stands;
    }

-- ---- the start

-- what the core is started with
pub start_for : (words : List (List ℕ)) (ds : List Declaration) (l : Limits) → AllByRecursion HasKey ds → AreLimits words l → (o : Options) × IsStart words ds o
start_for words ds l keys limits =
    let tables = tables_for ds keys in
    (record { run = codes "replay"; limits = l; tables = tables.0; catalog = catalog_of 0 ds }, record { run = refl; limits = limits; served = tables.1; catalog = refl })

pub starts : (words : List (List ℕ)) (ds : List Declaration) (place : ℕ) (first : List Item) (outs : List Out) (o : Options) → IsStart words ds o → IsDeclaring words ds place first outs → IsUnder words ds false place first outs
starts words ds place first outs o start d = record {
  options = o;
  start = start;
  situation = at_start;
  events = [];
  script = d.script;
  plays = λ more others halt p. subst (λ (os : List Out). Plays o at_start more (os ++ others) halt) (sym d.none) p;
}

pub under_staged : (words : List (List ℕ)) (ds : List Declaration) (l : Limits) (core : Option Core) (place : ℕ) (first : List Item) (outs : List Out) → AllByRecursion HasKey ds → AreLimits words l → IsStaged words ds core place first outs → IsUnder words ds (is_some core) place first outs
under_staged words ds l None place first outs keys limits d = let o = start_for words ds l keys limits in starts words ds place first outs o.0 o.1 d
under_staged words ds l (Some core) place first outs keys limits g = g.under

pub started_none : (words : List (List ℕ)) (ds : List Declaration) (core : Option Core) (new : Core) (place : ℕ) (first : List Item) (outs : List Out) (o : Options) → core ≡ None → IsStart words ds o → Stands o at_start new → IsStaged words ds core place first outs → IsGoing words ds (is_some core) new place first outs
unfolding starts
started_none words ds None new place first outs o is start stands d = record { under = starts words ds place first outs o start d; stands = stands }
started_none words ds (Some core) new place first outs o is start stands d = cc
