-- What the client reads in what the server said, and what it writes.
use Rattle.std.specs.Prelude.{◌≡◌, ◌⊎◌, ℕ, List, [], ◌∷◌, ◌++◌, ◌==◌, if◌then◌else◌, Option, None, Some, Ok, Err}
use Rattle.pg_dialogue.specs.declared.wire_error.WireError.{WireError}
use Rattle.pg_dialogue.specs.declared.wire_error.WireError.TheVariants.{OutOfMemory, LinkFault, Ended, BadReply, TooLong}
use Rattle.pg_dialogue.specs.declared.wanted.Wanted.{Wanted}
use Rattle.pg_dialogue.specs.declared.wanted.News.{News}
use Rattle.pg_dialogue.specs.declared.wanted.News.TheVariants.{Acknowledged, Shown, Described, Row}
use Rattle.pg_dialogue.specs.declared.wanted.Told.{Told}
use Rattle.pg_dialogue.specs.Messages.{Said, Silent, Broken, Says, behind}
use Rattle.pg_dialogue.specs.Replies.{Reply, reply}

-- ---- reading

-- What the client makes of what the server said: it wants more than these bytes; it refuses; or it has what it waited for, with what it was told, the place behind the
-- last message that it read, and what the server said behind that.
pub data Heard : Type 0 where
  Wants : (place : ℕ) → Heard
  Refused : (error : WireError) → Heard
  Met : (told : Told) → (place : ℕ) → (rest : Said) → Heard

abbrev pub noted : Told → News → Told
noted t Acknowledged = t
noted t (Shown vis) = record { head = record { vis = vis; oid = t.head.oid; columns = t.head.columns }; row = t.row }
noted t (Described oid columns) = record { head = record { vis = t.head.vis; oid = oid; columns = columns }; row = t.row }
noted t (Row row) = record { head = t.head; row = Some row }

abbrev pub met_with : (Wanted → Told → Heard) → Wanted → Told → ℕ → Said → Reply → Heard
met_with later wanted told place rest (Ok None) = later wanted told
met_with later wanted told place rest (Ok (Some news)) = Met (noted told news) place rest
met_with later wanted told place rest (Err error) = Refused error

-- the first message that is not passed over
unfoldable pub met : Said → Wanted → Told → Heard
met (Silent place) wanted told = Wants place
met (Broken place) wanted told = Refused (BadReply place)
met (Says place kind payload rest) wanted told = met_with (met rest) wanted told (behind place payload) rest (reply wanted place kind payload)

-- one step, and the next where it did not stop
abbrev pub then_heard : Heard → (Told → ℕ → Said → Heard) → Heard
then_heard (Met told place rest) next = next told place rest
then_heard (Wants place) next = Wants place
then_heard (Refused error) next = Refused error

-- these messages, one after the other
unfoldable pub answered : List Wanted → Told → ℕ → Said → Heard
answered [] told place said = Met told place said
answered (wanted ∷ others) told place said = then_heard (met said wanted told) (answered others)

-- ---- writing and reading

-- what the client writes, and the messages by which the server answers
pub record Exchange : Type 0 where
  pub sent : List ℕ
  pub wanted : List Wanted

-- What the client writes in all, and what it makes of the answers. Each piece is written once the messages before it were read.
pub record Talk : Type 0 where
  pub written : List ℕ
  pub heard : Heard

abbrev pub talk_then : List ℕ → Heard → (Told → ℕ → Said → Talk) → Talk
talk_then sent (Met told place rest) next = let t = next told place rest in record { written = sent ++ t.written; heard = t.heard }
talk_then sent (Wants place) next = record { written = sent; heard = Wants place }
talk_then sent (Refused error) next = record { written = sent; heard = Refused error }

unfoldable pub talk : List Exchange → Told → ℕ → Said → Talk
talk [] told place said = record { written = []; heard = Met told place said }
talk (e ∷ es) told place said = talk_then e.sent (answered e.wanted told place said) (talk es)

-- ---- how a dialogue ends early

-- more is wanted than the link gave; or than a dialogue may have
abbrev pub ended : ℕ → WireError
ended place = if place == 68719476736 then TooLong 68719476736 else Ended place

abbrev pub error_of : Heard → Option WireError
error_of (Wants place) = Some (ended place)
error_of (Refused error) = Some error
error_of (Met told place rest) = None

-- this error, unless memory ran out or the link failed
abbrev pub Ends : WireError → Heard → Type 0
Ends error heard = (error ≡ OutOfMemory) ⊎ ((error ≡ LinkFault) ⊎ (error_of heard ≡ Some error))
