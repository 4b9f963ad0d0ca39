-- What a record comes to on the stage.
use Rattle.std.proofs.Common.{◌≡◌, ℕ, ◌+◌, Bool, true, false, List, [], ◌∷◌, ◌++◌, length, refl, sym, ap, subst, ◌∙◌, Option, None, Some}
use Rattle.std.specs.Prelude.{is_some, Result, Ok, Err}
use Rattle.std.specs.List.{AllByRecursion}
use Rattle.std.proofs.lemmas.List.{append-nil}
use Rattle.core_events.specs.declared.event.Event.{Event}
use Rattle.core_events.specs.declared.out.Out.{Out}
use Rattle.core_law.specs.Situation.{Options}
use Rattle.script.specs.declared.table.Declaration.{Declaration}
use Rattle.script.specs.Records.{Item}
use Rattle.script.specs.Lines.{outs_text, end_text}
use Rattle.sync_core.specs.declared.stepping.Core.{Core}
use Rattle.shape_base.specs.declared.limits.Limits.{Limits}
use Rattle.script_play.specs.declared.playing.Stage.{Stage}
use Rattle.script_play.specs.declared.steps.Step.TheVariants as steps
use Rattle.script_play.specs.declared.cause.ScriptCause.{ScriptCause}
use Rattle.script_play.specs.declared.stop.Stop.{Stop}
use Rattle.script_play.specs.declared.stop.Stop.TheVariants as stops
use Rattle.script_play.specs.Settings.{AreLimits}
use Rattle.script_play.specs.Tables.{HasKey}
use Rattle.script_play.specs.Script.{step_of, size_of}
use Rattle.script_play.specs.Played.{Ending, Ended, Refused, Unended, IsPlayed, text_of}
use Rattle.script_play.specs.Playing.{Wrote, HasGone, IsBroughtIn, IsDeclaring, IsGoing, IsGoingIn, IsStaged, IsNextStage, IsLast, IsEnd, IsCutShort, IsTurn, IsCount}
use Rattle.script_play.proofs.Turns.{not_late, unended, refused_last, end_last, misfit_last, full_last, declared_more, passed, brought_more, under_staged}

-- ---- a table

declared_on : (words : List (List ℕ)) (ds : List Declaration) (core : Option Core) (place : ℕ) (first : List Item) (item : Item) (outs : List Out) (t : Declaration) → IsStaged words ds core place first outs → steps.Declares t ≡ step_of ds (is_some core) item
    → IsStaged words (ds ++ t ∷ []) core (place + size_of item) (first ++ item ∷ []) (outs ++ [])
declared_on words ds None place first item outs t d e = declared_more words ds place first item outs t d e
declared_on words ds (Some core) place first item outs t g e = absurd (not_late ds t item e)

pub declared_next : (words : List (List ℕ)) (ds : List Declaration) (core : Option Core) (place : ℕ) (first : List Item) (item : Item) (outs : List Out) (t : Declaration) (new : Stage) (Writes : List ℕ → Type 0) → IsStaged words ds core place first outs → steps.Declares t ≡ step_of ds (is_some core) item
    → new.declared.items ≡ ds ++ t ∷ [] → new.core ≡ core → Writes [] → IsNextStage words new place first item outs Writes
declared_next words ds core place first item outs t new Writes staged e tables same written = record {
  now = [];
  staged = subst (λ (c : Option Core). IsStaged words new.declared.items c (place + size_of item) (first ++ item ∷ []) (outs ++ [])) (sym same)
      (subst (λ (ts : List Declaration). IsStaged words ts core (place + size_of item) (first ++ item ∷ []) (outs ++ [])) (sym tables) (declared_on words ds core place first item outs t staged e));
  written = written;
}

-- ---- a record that is passed over

passed_on : (words : List (List ℕ)) (ds : List Declaration) (late : Bool) (core : Option Core) (place : ℕ) (first : List Item) (item : Item) (outs : List Out) → IsGoingIn words ds late core place first outs → steps.Passes ≡ step_of ds late item
    → IsStaged words ds core (place + size_of item) (first ++ item ∷ []) (outs ++ [])
passed_on words ds late None place first item outs g e = absurd g
passed_on words ds late (Some core) place first item outs g e = passed words ds late core place first item outs g e

pub passed_next : (words : List (List ℕ)) (ds : List Declaration) (late : Bool) (place : ℕ) (first : List Item) (item : Item) (outs : List Out) (new : Stage) (Writes : List ℕ → Type 0) → IsGoingIn words ds late new.core place first outs → steps.Passes ≡ step_of ds late item
    → new.declared.items ≡ ds → Writes [] → IsNextStage words new place first item outs Writes
passed_next words ds late place first item outs new Writes g e tables written = record {
  now = [];
  staged = subst (λ (ts : List Declaration). IsStaged words ts new.core (place + size_of item) (first ++ item ∷ []) (outs ++ [])) (sym tables) (passed_on words ds late new.core place first item outs g e);
  written = written;
}

-- ---- an event

brought_on : (words : List (List ℕ)) (ds : List Declaration) (late : Bool) (a b : Option Core) (place : ℕ) (first : List Item) (item : Item) (outs : List Out) (e : Event) (Writes Cuts : List ℕ → Type 0) (u : Unit {0}) → IsGoingIn words ds late a place first outs → steps.Brings e ≡ step_of ds late item
    → IsBroughtIn a b e place Writes Cuts (Ok u) → (now : List Out) × (IsStaged words ds b (place + size_of item) (first ++ item ∷ []) (outs ++ now) × Writes (outs_text now))
brought_on words ds late None b place first item outs e Writes Cuts u g is h = absurd g
brought_on words ds late (Some old) None place first item outs e Writes Cuts u g is h = absurd h
brought_on words ds late (Some old) (Some new) place first item outs e Writes Cuts u g is h = (h.outs, (brought_more words ds late old new place first item outs h.outs e g is h.takes, h.written))

pub brought_next : (words : List (List ℕ)) (ds : List Declaration) (late : Bool) (a : Option Core) (place : ℕ) (first : List Item) (item : Item) (outs : List Out) (e : Event) (new : Stage) (Writes Cuts : List ℕ → Type 0) (u : Unit {0}) → IsGoingIn words ds late a place first outs → steps.Brings e ≡ step_of ds late item
    → IsBroughtIn a new.core e place Writes Cuts (Ok u) → new.declared.items ≡ ds → IsNextStage words new place first item outs Writes
brought_next words ds late a place first item outs e new Writes Cuts u g is h tables =
    let on = brought_on words ds late a new.core place first item outs e Writes Cuts u g is h in
    record {
      now = on.0;
      staged = subst (λ (ts : List Declaration). IsStaged words ts new.core (place + size_of item) (first ++ item ∷ []) (outs ++ on.0)) (sym tables) on.1.0;
      written = on.1.1;
    }

abbrev ending_in : Stop → Ending
ending_in stops.OutOfMemory = Unended
ending_in stops.Usage = Unended
ending_in stops.ReadFault = Unended
ending_in stops.WriteFault = Unended
ending_in (stops.BadScript place cause) = Refused place cause
ending_in stops.Unfinished = Unended
ending_in stops.TooLong = Unended
ending_in stops.TooManyExchanges = Unended

cut_event : (words : List (List ℕ)) (ds : List Declaration) (late : Bool) (old new : Core) (place : ℕ) (first : List Item) (item : Item) (outs : List Out) (e : Event) (Cuts : List ℕ → Type 0) → IsGoing words ds late old place first outs → steps.Brings e ≡ step_of ds late item → HasGone old new e Cuts → IsCutShort words first item outs Cuts
cut_event words ds late old new place first item outs e Cuts g is h = record {
  now = h.outs;
  ending = Unended;
  played = unended words ds true (place + size_of item) (first ++ item ∷ []) (outs ++ h.outs) (brought_more words ds late old new place first item outs h.outs e g is h.takes).under;
  written = subst Cuts (sym (append-nil (outs_text h.outs))) h.written;
}

pub event_stops : (words : List (List ℕ)) (ds : List Declaration) (late : Bool) (a b : Option Core) (place : ℕ) (first : List Item) (item : Item) (outs : List Out) (e : Event) (Writes Cuts : List ℕ → Type 0) (stage : Stage) (stop : Stop) → IsGoingIn words ds late a place first outs → steps.Brings e ≡ step_of ds late item
    → IsBroughtIn a b e place Writes Cuts (Err stop) → IsTurn words place first item outs Writes Cuts stage (Err stop)
event_stops words ds late None b place first item outs e Writes Cuts stage stop g is h = absurd g
event_stops words ds late (Some old) None place first item outs e Writes Cuts stage stop g is h = absurd h
event_stops words ds late (Some old) (Some new) place first item outs e Writes Cuts stage stops.OutOfMemory g is h = h
event_stops words ds late (Some old) (Some new) place first item outs e Writes Cuts stage stops.WriteFault g is h = cut_event words ds late old new place first item outs e Cuts g is h
event_stops words ds late (Some old) (Some new) place first item outs e Writes Cuts stage stops.ReadFault g is h = absurd h
event_stops words ds late (Some old) (Some new) place first item outs e Writes Cuts stage stops.Usage g is h = absurd h
event_stops words ds late (Some old) (Some new) place first item outs e Writes Cuts stage (stops.BadScript p cause) g is h =
    (subst (λ (ending : Ending). IsLast words first item outs ending) (sym (ap ending_in h.0.is)) (misfit_last words ds late place first item outs e h.0.cause old new g.under g.stands is h.0.takes), h.1)
event_stops words ds late (Some old) (Some new) place first item outs e Writes Cuts stage stops.Unfinished g is h = absurd h
event_stops words ds late (Some old) (Some new) place first item outs e Writes Cuts stage stops.TooLong g is h = absurd h
event_stops words ds late (Some old) (Some new) place first item outs e Writes Cuts stage stops.TooManyExchanges g is h = (full_last words ds late place first item outs e old new g.under g.stands is h.0, h.1)

-- ---- the end

pub ends_last : (words : List (List ℕ)) (ds : List Declaration) (late : Bool) (core : Option Core) (place : ℕ) (first : List Item) (item : Item) (outs : List Out) (n : ℕ) → IsGoingIn words ds late core place first outs → steps.Ends ≡ step_of ds late item
    → ((c : Core) → core ≡ Some c → IsCount c n) → IsLast words first item outs (Ended n)
ends_last words ds late None place first item outs n g e count = absurd g
ends_last words ds late (Some core) place first item outs n g e count = end_last words ds late place first item outs n g.under e (count core refl g.under.options g.under.situation g.stands)

pub end_stops : (words : List (List ℕ)) (place : ℕ) (first : List Item) (item : Item) (outs : List Out) (n : ℕ) (Writes Cuts : List ℕ → Type 0) (stage : Stage) (stop : Stop) → IsLast words first item outs (Ended n) → Wrote (Err stop) (end_text n) Writes Cuts → IsTurn words place first item outs Writes Cuts stage (Err stop)
end_stops words place first item outs n Writes Cuts stage stops.OutOfMemory last h = h
end_stops words place first item outs n Writes Cuts stage stops.WriteFault last h = record { now = []; ending = Ended n; played = subst (λ (os : List Out). IsPlayed words (first ++ item ∷ []) os (Ended n)) (sym (append-nil outs)) (last.played []); written = h }
end_stops words place first item outs n Writes Cuts stage stops.ReadFault last h = absurd h
end_stops words place first item outs n Writes Cuts stage stops.Usage last h = absurd h
end_stops words place first item outs n Writes Cuts stage (stops.BadScript p cause) last h = absurd h
end_stops words place first item outs n Writes Cuts stage stops.Unfinished last h = absurd h
end_stops words place first item outs n Writes Cuts stage stops.TooLong last h = absurd h
end_stops words place first item outs n Writes Cuts stage stops.TooManyExchanges last h = absurd h

-- ---- a refusal

pub is_refused : (words : List (List ℕ)) (ds : List Declaration) (l : Limits) (core : Option Core) (place : ℕ) (first : List Item) (item : Item) (outs : List Out) (cause : ScriptCause) → AllByRecursion HasKey ds → AreLimits words l → IsStaged words ds core place first outs → steps.Refused cause ≡ step_of ds (is_some core) item → IsLast words first item outs (Refused place cause)
is_refused words ds l core place first item outs cause keys limits staged e = refused_last words ds (is_some core) place first item outs cause (under_staged words ds l core place first outs keys limits staged) e
