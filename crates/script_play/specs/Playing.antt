-- A script on its stage: what comes of one record, and what is written.
use Rattle.std.specs.Prelude.{◌≡◌, ℕ, ◌+◌, Bool, true, false, List, [], ◌∷◌, ◌++◌, length, Option, Some, None, Result, Ok, Err}
use Rattle.std.specs.List.{AllByRecursion}
use Rattle.shape_base.specs.Outside.{AddsFront}
use Rattle.core_events.specs.declared.event.Event.{Event}
use Rattle.core_events.specs.declared.out.Out.{Out}
use Rattle.core_events.specs.declared.out.Unfit.{Unfit}
use Rattle.core_events.specs.declared.out.StepError.TheVariants as errors
use Rattle.core_law.specs.Situation.{Options}
use Rattle.script.specs.declared.table.Declaration.{Declaration}
use Rattle.script.specs.Records.{Item}
use Rattle.script.specs.Lines.{outs_text, end_text}
use Rattle.sync_core.specs.declared.stepping.Core.{Core}
use Rattle.sync_core.specs.Run.{Situation, at_start}
use Rattle.sync_core.specs.Core.{Stands, IsSituated, Takes}
use Rattle.script_play.specs.declared.playing.Stage.{Stage}
use Rattle.script_play.specs.declared.stop.Stop.{Stop}
use Rattle.script_play.specs.declared.stop.Stop.TheVariants as stops
use Rattle.script_play.specs.Script.{Script, script_of, script_from, after_events, size_of, cause_for}
use Rattle.script_play.specs.Tables.{HasKey}
use Rattle.script_play.specs.Played.{IsStart, Halt, Plays, Ending, Ended, Refused, TooMany, Unended, IsPlayed, text_of}

-- ---- one piece

-- a text was written, or none of it for want of memory, or a front where writing failed
abbrev pub Wrote : Result (Unit {0}) Stop → List ℕ → (List ℕ → Type 0) → (List ℕ → Type 0) → Type 0
Wrote (Ok _) text Writes Cuts = Writes text
Wrote (Err stops.OutOfMemory) text Writes Cuts = Writes []
Wrote (Err stops.WriteFault) text Writes Cuts = Cuts text
Wrote (Err stops.Usage) text Writes Cuts = ⊥
Wrote (Err stops.ReadFault) text Writes Cuts = ⊥
Wrote (Err (stops.BadScript place cause)) text Writes Cuts = ⊥
Wrote (Err stops.Unfinished) text Writes Cuts = ⊥
Wrote (Err stops.TooLong) text Writes Cuts = ⊥
Wrote (Err stops.TooManyExchanges) text Writes Cuts = ⊥

-- ---- one event

-- the core took the event, and put these out
pub record HasGone (old new : Core) (e : Event) (Writes : List ℕ → Type 0) : Type 0 where
  pub outs : List Out
  pub takes : Takes old new e (Ok outs)
  pub written : Writes (outs_text outs)

-- the event does not fit
pub record IsMisfit (old new : Core) (e : Event) (place : ℕ) (stop : Stop) : Type 0 where
  pub cause : Unfit
  pub takes : Takes old new e (Err (errors.Unfit cause))
  pub is : stop ≡ stops.BadScript place (cause_for cause)

-- What came of an event, whose record stands in a place: nothing is written of one that is not taken.
abbrev pub IsBrought : Core → Core → Event → ℕ → (List ℕ → Type 0) → (List ℕ → Type 0) → Result (Unit {0}) Stop → Type 0
IsBrought old new e place Writes Cuts (Ok _) = HasGone old new e Writes
IsBrought old new e place Writes Cuts (Err stops.OutOfMemory) = Writes []
IsBrought old new e place Writes Cuts (Err stops.WriteFault) = HasGone old new e Cuts
IsBrought old new e place Writes Cuts (Err stops.ReadFault) = ⊥
IsBrought old new e place Writes Cuts (Err stops.Usage) = ⊥
IsBrought old new e place Writes Cuts (Err (stops.BadScript p cause)) = IsMisfit old new e place (stops.BadScript p cause) × Writes []
IsBrought old new e place Writes Cuts (Err stops.Unfinished) = ⊥
IsBrought old new e place Writes Cuts (Err stops.TooLong) = ⊥
IsBrought old new e place Writes Cuts (Err stops.TooManyExchanges) = Takes old new e (Err errors.TooManyExchanges) × Writes []

-- the same of a core that was started
abbrev pub IsBroughtIn : Option Core → Option Core → Event → ℕ → (List ℕ → Type 0) → (List ℕ → Type 0) → Result (Unit {0}) Stop → Type 0
IsBroughtIn (Some old) (Some new) e place Writes Cuts result = IsBrought old new e place Writes Cuts result
IsBroughtIn None now e place Writes Cuts result = ⊥
IsBroughtIn (Some old) None e place Writes Cuts result = ⊥

-- so many exchanges were made in each situation for which the core stands
abbrev pub IsCount : Core → ℕ → Type 0
IsCount core n = (o : Options) (s : Situation) → Stands o s core → n ≡ length s.core.exchanges

-- ---- one record

-- only tables were declared so far
pub record IsDeclaring (words : List (List ℕ)) (declared : List Declaration) (place : ℕ) (first : List Item) (outs : List Out) : Type 0 where
  pub script : (rest : List Item) → script_of (first ++ rest) ≡ script_from declared false place rest
  pub none : outs ≡ []

-- the events of these records are played, with all that come after them
pub record IsUnder (words : List (List ℕ)) (declared : List Declaration) (late : Bool) (place : ℕ) (first : List Item) (outs : List Out) : Type 0 where
  pub options : Options
  pub start : IsStart words declared options
  pub situation : Situation
  pub events : List (ℕ × Event)
  pub script : (rest : List Item) → script_of (first ++ rest) ≡ after_events events (script_from declared late place rest)
  pub plays : (more : List (ℕ × Event)) (others : List Out) (halt : Halt) → Plays options situation more others halt → Plays options at_start (events ++ more) (outs ++ others) halt

-- and the core stands for the situation after them
pub record IsGoing (words : List (List ℕ)) (declared : List Declaration) (late : Bool) (core : Core) (place : ℕ) (first : List Item) (outs : List Out) : Type 0 where
  pub under : IsUnder words declared late place first outs
  pub stands : Stands under.options under.situation core

-- the core was started, and goes on so
abbrev pub IsGoingIn : List (List ℕ) → List Declaration → Bool → Option Core → ℕ → List Item → List Out → Type 0
IsGoingIn words declared late None place first outs = ⊥
IsGoingIn words declared late (Some core) place first outs = IsGoing words declared late core place first outs

abbrev pub IsStaged : List (List ℕ) → List Declaration → Option Core → ℕ → List Item → List Out → Type 0
IsStaged words declared None place first outs = IsDeclaring words declared place first outs
IsStaged words declared (Some core) place first outs = IsGoing words declared true core place first outs

-- the stage after a record, and what was put out
pub record IsNextStage (words : List (List ℕ)) (stage : Stage) (place : ℕ) (first : List Item) (item : Item) (outs : List Out) (Writes : List ℕ → Type 0) : Type 0 where
  pub now : List Out
  pub staged : IsStaged words stage.declared.items stage.core (place + size_of item) (first ++ item ∷ []) (outs ++ now)
  pub written : Writes (outs_text now)

-- the record ends the script, whatever comes behind it
pub record IsLast (words : List (List ℕ)) (first : List Item) (item : Item) (outs : List Out) (ending : Ending) : Type 0 where
  pub played : (rest : List Item) → IsPlayed words (first ++ item ∷ rest) outs ending

pub record IsEnd (words : List (List ℕ)) (first : List Item) (item : Item) (outs : List Out) (Writes : List ℕ → Type 0) : Type 0 where
  pub exchanges : ℕ
  pub last : IsLast words first item outs (Ended exchanges)
  pub written : Writes (end_text exchanges)

-- the record was played, and of its text a front was written
pub record IsCutShort (words : List (List ℕ)) (first : List Item) (item : Item) (outs : List Out) (Writes : List ℕ → Type 0) : Type 0 where
  pub now : List Out
  pub ending : Ending
  pub played : IsPlayed words (first ++ item ∷ []) (outs ++ now) ending
  pub written : Writes (text_of now ending)

-- What came of a record in a place, after these records that put these out.
abbrev pub IsTurn : List (List ℕ) → ℕ → List Item → Item → List Out → (List ℕ → Type 0) → (List ℕ → Type 0) → Stage → Result Bool Stop → Type 0
IsTurn words place first item outs Writes Cuts stage (Ok true) = IsNextStage words stage place first item outs Writes
IsTurn words place first item outs Writes Cuts stage (Ok false) = IsEnd words first item outs Writes
IsTurn words place first item outs Writes Cuts stage (Err stops.OutOfMemory) = Writes []
IsTurn words place first item outs Writes Cuts stage (Err stops.WriteFault) = IsCutShort words first item outs Cuts
IsTurn words place first item outs Writes Cuts stage (Err stops.ReadFault) = ⊥
IsTurn words place first item outs Writes Cuts stage (Err stops.Usage) = ⊥
IsTurn words place first item outs Writes Cuts stage (Err (stops.BadScript p cause)) = IsLast words first item outs (Refused p cause) × Writes []
IsTurn words place first item outs Writes Cuts stage (Err stops.Unfinished) = ⊥
IsTurn words place first item outs Writes Cuts stage (Err stops.TooLong) = ⊥
IsTurn words place first item outs Writes Cuts stage (Err stops.TooManyExchanges) = IsLast words first item outs TooMany × Writes []

-- a turn gives up for none of these
abbrev pub IsOfTurn : Stop → Type 0
IsOfTurn stops.Usage = ⊥
IsOfTurn stops.ReadFault = ⊥
IsOfTurn stops.Unfinished = ⊥
IsOfTurn stops.TooLong = ⊥
IsOfTurn stops.OutOfMemory = Unit {0}
IsOfTurn stops.WriteFault = Unit {0}
IsOfTurn (stops.BadScript place cause) = Unit {0}
IsOfTurn stops.TooManyExchanges = Unit {0}

-- the core stands for some situation, and each declared table has its key
abbrev pub IsSome : Option Core → Type 0
IsSome None = Unit {0}
IsSome (Some core) = IsSituated core

pub record IsSound (stage : Stage) : Type 0 where
  pub keys : AllByRecursion HasKey stage.declared.items
  pub core : IsSome stage.core
