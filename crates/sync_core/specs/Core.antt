-- The situation for which a core stands, and what it makes of an event.
use Rattle.std.specs.Prelude.{◌≡◌, ◌<◌, List, [], ◌∷◌, ◌++◌, length, Option, None, Some, Result, Ok, Err}
use Rattle.core_events.specs.declared.event.Event.{Event}
use Rattle.core_events.specs.declared.out.Out.{Out}
use Rattle.core_events.specs.declared.out.Out.TheVariants as outs
use Rattle.core_events.specs.declared.out.StepError.{StepError}
use Rattle.core_events.specs.declared.out.StepError.TheVariants as errors
use Rattle.core_law.specs.Situation.{Options}
use Rattle.core_law.specs.Situation as law
use Rattle.core_law.specs.Clients as turns
use Rattle.core_machine.specs.Standing as machines
use Rattle.core_law.specs.Run.{Committed, turn_of}
use Rattle.core_machine.specs.declared.machine.Machine.{Machine}
use Rattle.core_machine.specs.Turns.{AreOuts}
use Rattle.core_machine.specs.Turns as machine_turns
use Rattle.sync_core.specs.declared.stream.Brought.{Brought}
use Rattle.sync_core.specs.declared.stepping.Core.{Core}
use Rattle.sync_core.specs.Stream.{Fault}
use Rattle.sync_core.specs.Streaming as streams
use Rattle.sync_core.specs.Streaming.{fault_in}
use Rattle.sync_core.specs.Reading.{Reading}
use Rattle.sync_core.specs.Kept.{AreKept}
use Rattle.sync_core.specs.Run.{Situation, Turn, Goes, Stops, IsRead, turned}

-- The core stands for a situation: its machine for that of the server and its clients, its stream for the stream, and what it keeps of snapshots for their pieces. There are fewer than 2^32 served tables.
pub record Stands (o : Options) (s : Situation) (c : Core) : Type 0 where
  pub machine : machines.Stands o s.core c.machine
  pub stream : streams.Stands o.tables c.stream s.stream
  pub kept : AreKept o s.core s.pieces c.dialogues.kept
  pub tables : c.tables ≡ o.tables
  pub few : length o.tables < 4294967296

-- It stands for some situation.
pub record IsSituated (c : Core) : Type 0 where
  pub options : Options
  pub situation : Situation
  pub stands : Stands options situation c

-- what is put out for a refusal of the stream
abbrev pub refusal_out : Option Fault → List Out
refusal_out None = []
refusal_out (Some f) = outs.StreamRefused f.name f.place ∷ []

-- what was put out is the refusal of the stream, where there is one, and then these
pub record PutsOut (refusal : Option Fault) (next : Situation) (expected : List turns.Out) (now : List Out) : Type 0 where
  pub rest : List Out
  pub is : now ≡ refusal_out refusal ++ rest
  pub are : AreOuts next.core.exchanges expected rest

-- it goes on to the next situation, and puts out what the definitions do
abbrev pub GoesOn : Options → Turn → List Out → Core → Type 0
GoesOn o (Goes refusal expected next) now c = PutsOut refusal next expected now × Stands o next c
GoesOn o (Stops error) now c = ⊥

-- it does not, for this cause; want of memory comes free
abbrev pub StopsBy : Turn → StepError → Type 0
StopsBy turn (errors.Unfit cause) = turn ≡ Stops (errors.Unfit cause)
StopsBy turn errors.TooManyExchanges = turn ≡ Stops errors.TooManyExchanges
StopsBy turn errors.OutOfMemory = Unit {0}

abbrev pub TurnsTo : Options → Turn → Result (List Out) StepError → Core → Type 0
TurnsTo o turn (Ok now) c = GoesOn o turn now c
TurnsTo o turn (Err error) c = StopsBy turn error

-- the event was read, and the core makes of it what the definitions say
pub record IsStep (o : Options) (s : Situation) (e : Event) (result : Result (List Out) StepError) (new : Core) : Type 0 where
  pub reading : Reading
  pub is : IsRead o s e reading
  pub turns : TurnsTo o (turned o s e reading) result new

-- What a core makes of an event, for each situation for which it stood; want of memory comes free.
abbrev pub Takes : Core → Core → Event → Result (List Out) StepError → Type 0
Takes old new e (Ok now) = (o : Options) (s : Situation) → Stands o s old → IsStep o s e (Ok now) new
Takes old new e (Err errors.OutOfMemory) = Unit {0}
Takes old new e (Err errors.TooManyExchanges) = (o : Options) (s : Situation) → Stands o s old → IsStep o s e (Err errors.TooManyExchanges) new
Takes old new e (Err (errors.Unfit cause)) = (o : Options) (s : Situation) → Stands o s old → IsStep o s e (Err (errors.Unfit cause)) new

-- ---- commits of the stream

-- the commits that a record brought were taken, and what was put out is its refusal and then the replies
pub record HasGone (o : Options) (expected : List turns.Out) (next : law.Situation) (b : Brought) (now : List Out) (m : Machine) : Type 0 where
  pub rest : List Out
  pub is : now ≡ refusal_out (fault_in b.refusal) ++ rest
  pub are : AreOuts next.exchanges expected rest
  pub stands : machines.Stands o next m

abbrev pub BringsOn : Options → turns.Turn → Brought → List Out → Machine → Type 0
BringsOn o (turns.Goes expected next) b now m = HasGone o expected next b now m
BringsOn o (turns.Stops error) b now m = ⊥

abbrev pub Brings : Options → turns.Turn → Brought → Result (List Out) StepError → Machine → Type 0
Brings o turn b (Ok now) m = BringsOn o turn b now m
Brings o turn b (Err error) m = machine_turns.StopsBy turn error

-- For each situation for which the machine stood.
abbrev pub HasBrought : Machine → Machine → Brought → Result (List Out) StepError → Type 0
HasBrought old new b result = (o : Options) (s : law.Situation) → machines.Stands o s old → Brings o (turn_of o s (Committed b.txs)) b result new
