-- The statuses of a run, what it says of one that stopped, and how it came out.
use Rattle.std.specs.Prelude.{◌≡◌, ◌⊎◌, ℕ, Bool, List, [], ◌++◌, codes, decimal, Result, Ok, Err}
use Rattle.shape_base.specs.Outside.{Rose, AddsFront}
use Rattle.script.specs.Records.{Item}
use Rattle.script_play.specs.declared.cause.ScriptCause.{ScriptCause}
use Rattle.script_play.specs.declared.cause.ScriptCause.TheVariants as causes
use Rattle.script_play.specs.declared.stop.Stop.{Stop}
use Rattle.script_play.specs.declared.stop.Stop.TheVariants as stops
use Rattle.script_play.specs.Replaying.{CameOut}

-- ---- statuses

abbrev pub status_of : Result (Unit {0}) Stop → ℕ
status_of (Ok _) = 0
status_of (Err stops.OutOfMemory) = 1
status_of (Err stops.Usage) = 2
status_of (Err stops.ReadFault) = 3
status_of (Err stops.WriteFault) = 4
status_of (Err (stops.BadScript place cause)) = 5
status_of (Err stops.Unfinished) = 6
status_of (Err stops.TooLong) = 7
status_of (Err stops.TooManyExchanges) = 8

-- ---- complaints

abbrev pub cause_name : ScriptCause → List ℕ
cause_name causes.UnknownKind = codes "unknown_kind"
cause_name causes.BadPayload = codes "bad_payload"
cause_name causes.LateTable = codes "late_table"
cause_name causes.NoTable = codes "no_table"
cause_name causes.NotASnapshot = codes "not_a_snapshot"
cause_name causes.NoClient = codes "no_client"
cause_name causes.NoExchange = codes "no_exchange"
cause_name causes.NoReply = codes "no_reply"
cause_name causes.WrongAddress = codes "wrong_address"
cause_name causes.ClockBack = codes "clock_back"

-- the name of a stop; that of a record that was refused has the place of its first byte, and the cause
abbrev pub stop_name : Stop → List ℕ
stop_name stops.OutOfMemory = codes "out_of_memory"
stop_name stops.Usage = codes "usage"
stop_name stops.ReadFault = codes "read_fault"
stop_name stops.WriteFault = codes "write_fault"
stop_name (stops.BadScript place cause) = codes "bad_script " ++ decimal place ++ codes " " ++ cause_name cause
stop_name stops.Unfinished = codes "unfinished"
stop_name stops.TooLong = codes "too_long"
stop_name stops.TooManyExchanges = codes "too_many_exchanges"

abbrev pub complaint : Stop → List ℕ
complaint stop = codes "shape_replay: " ++ stop_name stop ++ codes "\n"

-- what is said of an answer
abbrev pub said_of : Result (Unit {0}) Stop → List ℕ
said_of (Ok _) = []
said_of (Err stop) = complaint stop

-- a text was written whole, or a front of it and the count of failures rose
unfoldable pub Said : List ℕ → List ℕ → ℕ → ℕ → List ℕ → Type 0
Said old new before after text = (new ≡ old ++ text) ⊎ (Rose before after × AddsFront old new text)

-- ---- a run

-- A run over a script of these records, of which those were read: how it came out; its status, and what it says, are those of its answer.
pub record IsRun (words : List (List ℕ)) (items read : List Item) (longer : Bool) (Writes Cuts : List ℕ → Type 0) (Says : List ℕ → Type 0) (ended : ℕ) : Type 0 where
  pub answer : Result (Unit {0}) Stop
  pub came : CameOut words items read longer Writes Cuts answer
  pub status : ended ≡ status_of answer
  pub said : Says (said_of answer)
