-- A snapshot's dialogue that is read while its bytes come in pieces.
use Rattle.std.specs.Prelude.{◌≡◌, ◌⊎◌, ℕ, ◌+◌, ◌<◌, ◌≤◌, Bool, true, false, if◌then◌else◌, ◌==◌, List, [], ◌∷◌, ◌++◌, length, drop, slice_range, Option, None, Some, Result, Ok, Err}
use Rattle.std.specs.Option.{is_some, option_or}
use Rattle.shape_base.specs.declared.value.Value as values
use Rattle.pg_dialogue.specs.declared.login.SnapHead.{SnapHead}
use Rattle.pg_dialogue.specs.declared.wire_error.WireError.{WireError}
use Rattle.pg_dialogue.specs.declared.wire_error.WireError.TheVariants.{OutOfMemory, BadReply}
use Rattle.pg_dialogue.specs.declared.wanted.Wanted.{Wanted}
use Rattle.pg_dialogue.specs.declared.wanted.Wanted.TheVariants.{Ready, TableRow}
use Rattle.pg_dialogue.specs.declared.wanted.News.{News}
use Rattle.pg_dialogue.specs.declared.wanted.Told.{Told}
use Rattle.pg_dialogue.specs.declared.snap_reader.SnapStep.{SnapStep}
use Rattle.pg_dialogue.specs.declared.snap_reader.SnapStep.TheVariants as steps
use Rattle.pg_dialogue.specs.declared.snap_reader.Stage.{Stage}
use Rattle.pg_dialogue.specs.declared.snap_reader.Stage.TheVariants.{Opening, Rows, Closing, Over}
use Rattle.pg_dialogue.specs.declared.snap_reader.Turn.{Turn}
use Rattle.pg_dialogue.specs.declared.snap_reader.Turn.TheVariants.{Open, Moved}
use Rattle.pg_dialogue.specs.Messages as messages
use Rattle.pg_dialogue.specs.Messages.{Said, first_of, said}
use Rattle.pg_dialogue.specs.Dialogue.{noted, answered}
use Rattle.pg_dialogue.specs.Dialogues.{nothing_told, all_rows}
use Rattle.pg_dialogue.specs.Course.{opening_wanted, closing_wanted, Stand, Wants, Refused, Done, Course, stand_of, only, behind_head, behind_opening, course_of, is_said}
use Rattle.pg_dialogue.specs.Reached.{Reached}

-- ---- what was given

-- What was given so far: the head, once it was; the rows; and whether that the dialogue is done.
pub record Given : Type 0 where
  pub head : Option SnapHead
  pub rows : List (List values.Value)
  pub done : Bool

abbrev pub nothing_given : Given
nothing_given = record { head = None; rows = []; done = false }

abbrev pub with_step : Given → Option SnapStep → Given
with_step g None = g
with_step g (Some (steps.Head head)) = record g { head = Some head }
with_step g (Some (steps.Row row)) = record g { rows = g.rows ++ row ∷ [] }
with_step g (Some steps.Done) = record g { done = true }

-- with what a call gives
abbrev pub with_answer : Given → Result (Option SnapStep) WireError → Given
with_answer g (Ok step) = with_step g step
with_answer g (Err error) = g

-- First comes the head, then each row, then that the dialogue is done; after that comes nothing.
abbrev pub MayCome : Given → Option SnapStep → Type 0
MayCome g None = Unit {0}
MayCome g (Some (steps.Head head)) = g.head ≡ None
MayCome g (Some (steps.Row row)) = (is_some g.head ≡ true) × (g.done ≡ false)
MayCome g (Some steps.Done) = (is_some g.head ≡ true) × (g.done ≡ false)

-- the course that is what was given, and stands so
abbrev pub as_given : Given → Stand → Course
as_given g stand = record { head = g.head; rows = g.rows; stand = stand }

-- What was given is a front of this course, and all of it where it was given that the dialogue is done.
pub record IsFront (given : Given) (course : Course) : Type 0 where
  pub head : is_some given.head ≡ true → course.head ≡ given.head
  pub rows : (later : List (List values.Value)) × (course.rows ≡ given.rows ++ later)
  pub done : given.done ≡ true → course ≡ as_given given Done

-- how a dialogue stands of which this was given, once so many bytes came and nothing more stands in them
abbrev pub open_stand : Bool → ℕ → Stand
open_stand done count = if done then Done else Wants count

-- ---- what is still to come

-- the messages behind the rows
abbrev pub behind_rows : List Wanted
behind_rows = Ready ∷ closing_wanted

-- what is still to come, where the server says this
abbrev pub course_at : Stage → Told → ℕ → Said → Course
course_at (Opening n) told place said = behind_opening (answered (drop n opening_wanted) told place said)
course_at Rows told place said = behind_head (all_rows said)
course_at (Closing n) told place said = only (stand_of (answered (drop n behind_rows) told place said))
course_at Over told place said = only Done

-- what is still to come, where these bytes follow those that were fed
abbrev pub course_from : Reached → List ℕ → Course
course_from r more = course_at r.stage r.told r.place (said r.place (r.rest ++ more))

-- what was given, and what is still to come
abbrev pub after : Given → Course → Course
after g c = record { head = option_or g.head c.head; rows = g.rows ++ c.rows; stand = c.stand }

-- what was given by then
abbrev pub HasGiven : Stage → Given → Type 0
HasGiven (Opening n) g = g ≡ nothing_given
HasGiven Rows g = (is_some g.head ≡ true) × (g.done ≡ false)
HasGiven (Closing n) g = (is_some g.head ≡ true) × (g.done ≡ false)
HasGiven Over g = (is_some g.head ≡ true) × (g.done ≡ true)

-- These bytes were fed, in whatever pieces, and this was given.
pub record Took (fed : List ℕ) (given : Given) (now : Reached) : Type 0 where
  pub ahead : (more : List ℕ) → course_of (fed ++ more) ≡ after given (course_from now more)
  pub has : HasGiven now.stage given
  pub count : given.done ≡ false → now.place + length now.rest ≡ length fed

abbrev pub pause_at : Stage → ℕ → Stand
pause_at Over place = Done
pause_at (Opening n) place = Wants place
pause_at Rows place = Wants place
pause_at (Closing n) place = Wants place

-- the dialogue stands here until more bytes come
abbrev pub pause : Reached → Course
pause r = only (pause_at r.stage (r.place + length r.rest))

-- ---- one message

-- this message comes next, or none
abbrev pub Awaits : Stage → Option Wanted → Type 0
Awaits (Opening n) (Some wanted) = drop n opening_wanted ≡ wanted ∷ drop (n + 1) opening_wanted
Awaits Rows (Some wanted) = wanted ≡ TableRow
Awaits (Closing n) (Some wanted) = drop n behind_rows ≡ wanted ∷ drop (n + 1) behind_rows
Awaits Over (Some wanted) = ⊥
Awaits (Opening n) None = ⊥
Awaits Rows None = ⊥
Awaits (Closing n) None = ⊥
Awaits Over None = Unit {0}

-- the type byte and the size of the message that stands first
pub record IsWhole (bytes : List ℕ) (kind size : ℕ) : Type 0 where
  pub some : 5 ≤ size
  pub inside : size ≤ length bytes
  pub first : first_of bytes ≡ messages.Whole kind (slice_range bytes 5 size) (drop size bytes)

abbrev pub IsFirst : ℕ → List ℕ → Result (Option (ℕ × ℕ)) WireError → Type 0
IsFirst place bytes (Ok (Some x)) = IsWhole bytes x.0 x.1
IsFirst place bytes (Ok None) = first_of bytes ≡ messages.Unfinished
IsFirst place bytes (Err error) = (first_of bytes ≡ messages.TooSmall) × (error ≡ BadReply place)

-- After a message that was waited for: what comes next, what was told, and what is given.
pub record Turned : Type 0 where
  pub stage : Stage
  pub told : Told
  pub step : Option SnapStep

abbrev pub opened : ℕ → Told → Turned
opened n told = if n + 1 == 9 then record { stage = Rows; told = nothing_told; step = Some (steps.Head told.head) } else record { stage = Opening (n + 1); told = told; step = None }

abbrev pub row_or_closing : Told → Told → Option (List values.Value) → Turned
row_or_closing old told (Some row) = record { stage = Rows; told = old; step = Some (steps.Row row) }
row_or_closing old told None = record { stage = Closing 0; told = told; step = None }

abbrev pub closed : ℕ → Told → Turned
closed n told = if n + 1 == 3 then record { stage = Over; told = told; step = Some steps.Done } else record { stage = Closing (n + 1); told = told; step = None }

abbrev pub turned : Stage → Told → News → Turned
turned (Opening n) told news = opened n (noted told news)
turned Rows told news = row_or_closing told (noted nothing_told news) (noted nothing_told news).row
turned (Closing n) told news = closed n (noted told news)
turned Over told news = record { stage = Over; told = told; step = None }

-- However the bytes go on, what is still to come from the one place on is what is given and then what is still to come from the other place on.
pub record Leads (old : Reached) (step : Option SnapStep) (new : Reached) : Type 0 where
  pub ahead : (given : Given) → HasGiven old.stage given → (more : List ℕ) → after given (course_from old more) ≡ after (with_step given step) (course_from new more)
  pub has : (given : Given) → HasGiven old.stage given → HasGiven new.stage (with_step given step)
  pub may : (given : Given) → HasGiven old.stage given → MayCome given step
  pub count : old.place + length old.rest ≡ new.place + length new.rest

-- what one step does
abbrev pub Stepped : Reached → Turn → Reached → Type 0
Stepped old Open new = (course_from old [] ≡ pause old) × (new ≡ old)
Stepped old (Moved step) new = Leads old step new × (length new.rest < length old.rest)

-- why a step was not taken: memory ran out, or the server said what is refused, whatever follows
abbrev pub StepRefused : Reached → WireError → Type 0
StepRefused r error = (error ≡ OutOfMemory) ⊎ ((is_said error ≡ true) × ((more : List ℕ) → course_from r more ≡ only (Refused error)))
