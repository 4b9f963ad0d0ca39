-- A snapshot whose bytes come in pieces: what was taken of it, and how it stands.
use Rattle.std.specs.Prelude.{◌≡◌, ◌<◌, ℕ, false, List, length, Option, None, Some}
use Rattle.shape_base.specs.Tables.{Table}
use Rattle.pg_dialogue.specs.declared.login.SnapHead.{SnapHead}
use Rattle.pg_dialogue.specs.declared.wire_error.WireError.{WireError}
use Rattle.pg_dialogue.specs.declared.snap_reader.SnapStep.{SnapStep}
use Rattle.pg_dialogue.specs.declared.snap_reader.SnapStep.TheVariants as steps
use Rattle.pg_dialogue.specs.Course.{Course, Wants, Refused, Done, course_of}
use Rattle.pg_dialogue.specs.Pieces.{Given, with_step, Took}
use Rattle.core_law.specs.Situation.{Options, Situation}
use Rattle.core_machine.specs.declared.fault.Fault.{Fault}
use Rattle.core_machine.specs.Faults.{fault_of}
use Rattle.core_machine.specs.Snapshots.{HasBegun, IsRefusedFor}
use Rattle.sync_core.specs.declared.snapshots.Taken.{Taken}
use Rattle.sync_core.specs.declared.snapshots.Taken.TheVariants as takens
use Rattle.sync_core.specs.declared.snapshots.UnderWay as program
use Rattle.sync_core.specs.declared.snapshots.Progress.{Progress}
use Rattle.sync_core.specs.declared.snapshots.Progress.TheVariants as progresses
use Rattle.sync_core.specs.Run.{fault_for}

-- ---- what was taken

-- of a head and these rows: a snapshot that has them, or why they are refused
abbrev pub Holds : Options → Situation → ℕ → SnapHead → Table → Taken → Type 0
Holds o s e head rows takens.Nothing = ⊥
Holds o s e head rows (takens.Rows snap) = HasBegun o s e head rows snap
Holds o s e head rows (takens.Refused error) = IsRefusedFor o s e head rows error

-- a head of fewer than 2^32 columns, and these rows, were taken
pub record IsTaken (o : Options) (s : Situation) (e : ℕ) (head : SnapHead) (rows : Table) (taken : Taken) : Type 0 where
  pub few : length head.columns < 4294967296
  pub holds : Holds o s e head rows taken

-- before the head nothing is taken
abbrev pub TakenOf : Options → Situation → ℕ → Option SnapHead → Table → Taken → Type 0
TakenOf o s e None rows taken = taken ≡ takens.Nothing
TakenOf o s e (Some head) rows taken = IsTaken o s e head rows taken

-- What was taken stands for what the dialogue gave.
abbrev pub TakenFor : Options → Situation → ℕ → Given → Taken → Type 0
TakenFor o s e given taken = TakenOf o s e given.head given.rows taken

-- The snapshot of an exchange is under way, and these bytes of it came: its dialogue is not done, and what that gave was taken.
pub record IsUnderWay (o : Options) (s : Situation) (e : ℕ) (fed : List ℕ) (under : program.UnderWay) : Type 0 where
  pub given : Given
  pub took : Took fed given under.reader
  pub goes : given.done ≡ false
  pub taken : TakenFor o s e given under.taken

-- ---- how it stands

-- what a whole snapshot with this head and these rows comes to
abbrev pub ComesTo : Options → Situation → ℕ → SnapHead → Table → Progress → Type 0
ComesTo o s e head rows progresses.Waits = ⊥
ComesTo o s e head rows (progresses.Refused error) = IsRefusedFor o s e head rows error × (length head.columns < 4294967296)
ComesTo o s e head rows (progresses.Ended fault) = ⊥
ComesTo o s e head rows (progresses.Whole snap) = HasBegun o s e head rows snap

-- the dialogue is done, and its head and rows come to this
pub record CameTo (o : Options) (s : Situation) (e : ℕ) (c : Course) (progress : Progress) : Type 0 where
  pub head : SnapHead
  pub has : c.head ≡ Some head
  pub done : c.stand ≡ Done
  pub comes : ComesTo o s e head c.rows progress

-- the dialogue wants more
pub record WantsMore (c : Course) : Type 0 where
  pub place : ℕ
  pub wants : c.stand ≡ Wants place

-- the dialogue is refused, and the snapshot ends for that
pub record EndsFor (c : Course) (fault : Fault) : Type 0 where
  pub error : WireError
  pub refused : c.stand ≡ Refused error
  pub is : fault_of fault ≡ fault_for error

-- How a snapshot stands whose dialogue has this course.
abbrev pub Stood : Options → Situation → ℕ → Course → Progress → Type 0
Stood o s e c progresses.Waits = WantsMore c
Stood o s e c (progresses.Refused error) = CameTo o s e c (progresses.Refused error)
Stood o s e c (progresses.Ended fault) = EndsFor c fault
Stood o s e c (progresses.Whole snap) = CameTo o s e c (progresses.Whole snap)

-- ---- one step of the dialogue

-- that the dialogue is done was given, and what it gave before comes to this
pub record Finishes (o : Options) (s : Situation) (e : ℕ) (given : Given) (step : SnapStep) (progress : Progress) : Type 0 where
  pub last : step ≡ steps.Done
  pub head : SnapHead
  pub has : given.head ≡ Some head
  pub comes : ComesTo o s e head given.rows progress

-- the next step was given, and taken
pub record Follows (o : Options) (s : Situation) (e : ℕ) (given : Given) (step : SnapStep) (taken : Taken) : Type 0 where
  pub goes : (with_step given (Some step)).done ≡ given.done
  pub holds : TakenFor o s e (with_step given (Some step)) taken

abbrev pub Stepped : Options → Situation → ℕ → Given → SnapStep → Option Progress → Taken → Type 0
Stepped o s e given step None taken = Follows o s e given step taken
Stepped o s e given step (Some progress) taken = Finishes o s e given step progress

-- it stands so, and where it waits it is under way
pub record WentOn (o : Options) (s : Situation) (e : ℕ) (fed : List ℕ) (progress : Progress) (under : program.UnderWay) : Type 0 where
  pub stood : Stood o s e (course_of fed) progress
  pub waits : progress ≡ progresses.Waits → IsUnderWay o s e fed under

abbrev pub GoesOn : Options → Situation → ℕ → List ℕ → Option Progress → program.UnderWay → Type 0
GoesOn o s e fed None under = IsUnderWay o s e fed under
GoesOn o s e fed (Some progress) under = WentOn o s e fed progress under
