-- What a script comes to: its events are played, one after the other, until one of them is not taken or all are.
use Rattle.std.specs.Prelude.{◌≡◌, ℕ, List, [], ◌∷◌, ◌++◌, length, codes, Option}
use Rattle.core_events.specs.declared.event.Event.{Event}
use Rattle.core_events.specs.declared.out.Out.{Out}
use Rattle.core_events.specs.declared.out.StepError.TheVariants as errors
use Rattle.core_events.specs.declared.out.Unfit.{Unfit}
use Rattle.core_law.specs.Situation.{Options}
use Rattle.core_law.specs.Clients as law
use Rattle.script.specs.declared.table.Declaration.{Declaration}
use Rattle.script.specs.Records.{Item}
use Rattle.script.specs.Lines.{outs_text, end_text}
use Rattle.sync_core.specs.Stream.{Fault}
use Rattle.sync_core.specs.Reading.{Reading}
use Rattle.sync_core.specs.Run.{Situation, at_start, Turn, Goes, Stops, IsRead, turned}
use Rattle.sync_core.specs.Core.{PutsOut}
use Rattle.script_play.specs.declared.cause.ScriptCause.{ScriptCause}
use Rattle.script_play.specs.Settings.{AreLimits}
use Rattle.script_play.specs.Tables.{AreServed, catalog_of}
use Rattle.script_play.specs.Script.{Tail, AtEnd, AtRefusal, Open, script_of, cause_for}

-- what the core is started with: the limits that the words set, and the declared tables; the run's name is `replay`
pub record IsStart (words : List (List ℕ)) (tables : List Declaration) (o : Options) : Type 0 where
  pub run : o.run ≡ codes "replay"
  pub limits : AreLimits words o.limits
  pub served : AreServed tables o.tables
  pub catalog : o.catalog ≡ catalog_of 0 tables

-- ---- events

-- how events end: all are taken, and so many exchanges were made; one does not fit, whose record stands in that place; or one would make an exchange too many
pub data Halt : Type 0 where
  Through : (exchanges : ℕ) → Halt
  Misfit : (place : ℕ) (cause : Unfit) → Halt
  Full : Halt

-- an event is taken and puts these out, and the others go on from the situation after it
pub record GoesOn (Rest : Situation → List Out → Halt → Type 0) (refusal : Option Fault) (expected : List law.Out) (next : Situation) (outs : List Out) (halt : Halt) : Type 0 where
  pub now : List Out
  pub puts : PutsOut refusal next expected now
  pub more : List Out
  pub are : outs ≡ now ++ more
  pub rest : Rest next more halt

abbrev pub GoesBy : (Situation → List Out → Halt → Type 0) → ℕ → Turn → List Out → Halt → Type 0
GoesBy Rest place (Goes refusal expected next) outs halt = GoesOn Rest refusal expected next outs halt
GoesBy Rest place (Stops (errors.Unfit cause)) outs halt = (outs ≡ []) × (halt ≡ Misfit place cause)
GoesBy Rest place (Stops errors.TooManyExchanges) outs halt = (outs ≡ []) × (halt ≡ Full)
GoesBy Rest place (Stops errors.OutOfMemory) outs halt = ⊥

-- What events put out from a situation on, in order, and how they end.
abbrev pub Plays : Options → Situation → List (ℕ × Event) → List Out → Halt → Type 0
Plays o s [] outs halt = (outs ≡ []) × (halt ≡ Through (length s.core.exchanges))
Plays o s (e ∷ es) outs halt = (r : Reading) × (IsRead o s e.1 r × GoesBy (λ next. Plays o next es) e.0 (turned o s e.1 r) outs halt)

-- ---- scripts

-- how a script ends: at the end record, after so many exchanges; at a record in that place that is refused; at one that would make an exchange too many; or before either
pub data Ending : Type 0 where
  Ended : (exchanges : ℕ) → Ending
  Refused : (place : ℕ) (cause : ScriptCause) → Ending
  TooMany : Ending
  Unended : Ending

abbrev pub ending_of : Tail → Halt → Ending
ending_of AtEnd (Through exchanges) = Ended exchanges
ending_of (AtRefusal place cause) (Through exchanges) = Refused place cause
ending_of Open (Through exchanges) = Unended
ending_of tail (Misfit place cause) = Refused place (cause_for cause)
ending_of tail Full = TooMany

-- What the records of a script put out, and how it ends.
pub record IsPlayed (words : List (List ℕ)) (items : List Item) (outs : List Out) (ending : Ending) : Type 0 where
  pub options : Options
  pub start : IsStart words (script_of items).tables options
  pub halt : Halt
  pub plays : Plays options at_start (script_of items).events outs halt
  pub ends : ending ≡ ending_of (script_of items).tail halt

-- the line of the end record
abbrev pub last_line : Ending → List ℕ
last_line (Ended exchanges) = end_text exchanges
last_line (Refused place cause) = []
last_line TooMany = []
last_line Unended = []

-- What is written.
abbrev pub text_of : List Out → Ending → List ℕ
text_of outs ending = outs_text outs ++ last_line ending
