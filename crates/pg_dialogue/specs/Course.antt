-- What a client that only listens makes of what the server says in the dialogue of a snapshot.
use Rattle.std.specs.Prelude.{◌≡◌, ℕ, Bool, true, false, List, [], ◌∷◌, ◌++◌, Option, None, Some}
use Rattle.std.specs.List.{flat_map}
use Rattle.shape_base.specs.declared.value.Value as values
use Rattle.shape_base.specs.declared.served.Served.{Served}
use Rattle.pg_dialogue.specs.declared.login.Login.{Login}
use Rattle.pg_dialogue.specs.declared.login.SnapHead.{SnapHead}
use Rattle.pg_dialogue.specs.declared.wire_error.WireError.{WireError}
use Rattle.pg_dialogue.specs.declared.wire_error.WireError.TheVariants as errors
use Rattle.pg_dialogue.specs.declared.wanted.Wanted.{Wanted}
use Rattle.pg_dialogue.specs.declared.wanted.Wanted.TheVariants.{Authentication, Started, Completed, Ready, SnapshotColumn, SnapshotText, TableColumns}
use Rattle.pg_dialogue.specs.declared.wanted.Told.{Told}
use Rattle.pg_dialogue.specs.Messages.{Said, said}
use Rattle.pg_dialogue.specs.Dialogue as dialogue
use Rattle.pg_dialogue.specs.Dialogue.{Heard, Exchange, then_heard, answered, talk}
use Rattle.pg_dialogue.specs.Dialogues.{nothing_told, Rows, all_rows, opening, closing}

-- ---- what is waited for

-- the messages that answer these exchanges
abbrev pub wanted_in : List Exchange → List Wanted
wanted_in es = flat_map (λ e. e.wanted) es

-- the messages of a snapshot up to its first row
abbrev pub opening_wanted : List Wanted
opening_wanted = Authentication ∷ Started ∷ Completed ∷ Ready ∷ SnapshotColumn ∷ SnapshotText ∷ Completed ∷ Ready ∷ TableColumns ∷ []

-- the messages that end a snapshot
abbrev pub closing_wanted : List Wanted
closing_wanted = Completed ∷ Ready ∷ []

-- The messages that a client waits for depend on no login and on no table.
abbrev pub SnapshotWants : Type 0
SnapshotWants = (login : Login) (table : Served) → (wanted_in (opening login table) ≡ opening_wanted) × (wanted_in closing ≡ closing_wanted)

-- What a client hears in a talk is what one hears that writes nothing and waits for the same messages.
abbrev pub TalkIsHeard : Type 0
TalkIsHeard = (es : List Exchange) (told : Told) (place : ℕ) (said : Said) → (talk es told place said).heard ≡ answered (wanted_in es) told place said

-- ---- the course

-- How a dialogue stands: it wants more than these bytes, which are so many; it is refused; or it is done.
pub data Stand : Type 0 where
  Wants : (place : ℕ) → Stand
  Refused : (error : WireError) → Stand
  Done : Stand

-- The course of a snapshot's dialogue: its head, once all of the opening is there; its rows so far; and how it stands.
pub record Course : Type 0 where
  pub head : Option SnapHead
  pub rows : List (List values.Value)
  pub stand : Stand

abbrev pub stand_of : Heard → Stand
stand_of (dialogue.Wants place) = Wants place
stand_of (dialogue.Refused error) = Refused error
stand_of (dialogue.Met told place rest) = Done

abbrev pub only : Stand → Course
only stand = record { head = None; rows = []; stand = stand }

-- the rows, and behind them the messages that end the snapshot
abbrev pub behind_head : Rows → Course
behind_head r = record { head = None; rows = r.rows; stand = stand_of (then_heard r.end (answered closing_wanted)) }

-- the head, and what is behind it
abbrev pub behind_opening : Heard → Course
behind_opening (dialogue.Met told place rest) = record (behind_head (all_rows rest)) { head = Some told.head }
behind_opening (dialogue.Wants place) = only (Wants place)
behind_opening (dialogue.Refused error) = only (Refused error)

-- The course of the dialogue in which the server said these bytes. Bytes behind its end are ignored.
abbrev pub course_of : List ℕ → Course
course_of bytes = behind_opening (answered opening_wanted nothing_told 0 (said 0 bytes))

-- ---- later bytes

-- What was there stays, and a refusal or an end stays.
pub record Grows (old new : Course) : Type 0 where
  pub head : (head : SnapHead) → old.head ≡ Some head → new.head ≡ Some head
  pub rows : (later : List (List values.Value)) × (new.rows ≡ old.rows ++ later)
  pub stays : ((place : ℕ) → old.stand ≡ Wants place → ⊥) → new ≡ old

abbrev pub CoursesGrow : Type 0
CoursesGrow = (bytes more : List ℕ) → Grows (course_of bytes) (course_of (bytes ++ more))

-- ---- refusals

-- the server's doing: memory, the link and its end are not
abbrev pub is_said : WireError → Bool
is_said (errors.ErrorResponse sqlstate) = true
is_said (errors.BadReply place) = true
is_said (errors.AuthWanted code) = true
is_said (errors.NotUtf8 place) = true
is_said errors.OutOfMemory = false
is_said errors.LinkFault = false
is_said (errors.Ended place) = false
is_said (errors.TooLong limit) = false
