-- The stream that records bring: what its stretches show, and where the last one is refused.
use Rattle.std.specs.Prelude.{ℕ, Bool, true, false, ◌||◌, if◌then◌else◌, List, [], ◌∷◌, ◌++◌, length, map, drop, Result, Ok, Err, Option, None, Some, is_some, codes}
use Rattle.std.specs.List.{flat_map, list_any}
use Rattle.byte_format.specs.Whole.{whole}
use Rattle.pgout.specs.Grammar.{message}
use Rattle.pgout.specs.declared.message.Message.{Message}
use Rattle.pg_wire.specs.declared.frame.Frame.{Frame}
use Rattle.pg_wire.specs.declared.frame.Frame.TheVariants as frames
use Rattle.pg_wire.specs.declared.frame.FrameError.{FrameError}
use Rattle.pg_wire.specs.declared.frame.FrameError.TheVariants as faults
use Rattle.pg_wire.specs.FrameList.{Held, frames_of}
use Rattle.shape_base.specs.declared.change.Tx.{Tx}
use Rattle.shape_base.specs.declared.served.Served.{Served}
use Rattle.tx_assembler.specs.declared.answer.AssembleError.{AssembleError}
use Rattle.tx_assembler.specs.declared.answer.AssembleError.TheVariants as errors
use Rattle.tx_assembler.specs.declared.answer.Fed.{Fed}
use Rattle.tx_assembler.specs.Answers.{Answer}
use Rattle.tx_assembler.specs.Shown.{Stretch, shown}
use Rattle.tx_assembler.specs.Stream.{sent, due_next}

-- what a record brings: one message, or the next bytes of frames
pub data Piece : Type 0 where
  Sent : (message : List ℕ) → Piece
  Framed : (bytes : List ℕ) → Piece

-- what stands in a stretch: a message, bytes that are none, the end of the stream, or a refusal of its frames
pub data Item : Type 0 where
  Read : (message : Message) → Item
  Unread : Item
  Ended : Item
  Faulty : (error : FrameError) → Item

-- The stream: the stretches before the present one, what stands in that one, and the bytes of frames since it began.
pub record Stream : Type 0 where
  pub earlier : List (List Item)
  pub now : List Item
  pub fed : List ℕ

abbrev pub begun : Stream
begun = record { earlier = []; now = []; fed = [] }

-- the stream begins anew
abbrev pub anew : Stream → Stream
anew s = record { earlier = s.earlier ++ s.now ∷ []; now = []; fed = [] }

-- ---- what it shows

abbrev pub message_then : Item → List Message → List Message
message_then (Read m) ms = m ∷ ms
message_then Unread ms = ms
message_then Ended ms = ms
message_then (Faulty e) ms = ms

abbrev pub messages_in : List Item → List Message
messages_in [] = []
messages_in (i ∷ items) = message_then i (messages_in items)

-- nothing stands behind an end or a refusal, so the messages are all that counts
abbrev pub stretch_of : List Item → Stretch
stretch_of items = sent (messages_in items)

abbrev pub done_in : Stream → List Stretch
done_in s = map stretch_of s.earlier

-- The transactions that the stream shows to one who serves these tables.
abbrev pub commits_of : List Served → Stream → List Tx
commits_of tables s = shown tables (done_in s ++ stretch_of s.now ∷ [])

-- ---- where it is refused

-- the name of a refusal, and its place: of a frame the byte, of a message its number, both since the stream began
pub record Fault : Type 0 where
  pub name : List ℕ
  pub place : ℕ

abbrev pub frame_fault : FrameError → Fault
frame_fault (faults.BadFrame place) = record { name = codes "bad_frame"; place = place }
frame_fault (faults.FrameTooLong place bytes limit) = record { name = codes "frame_too_long"; place = place }
frame_fault (faults.ServerError place sqlstate) = record { name = codes "server_error"; place = place }
frame_fault faults.OutOfMemory = record { name = codes "out_of_memory"; place = 0 }

abbrev pub assembly_name : AssembleError → List ℕ
assembly_name (errors.OutOfOrder have got) = codes "out_of_order"
assembly_name (errors.LsnMismatch begin commit) = codes "lsn_mismatch"
assembly_name (errors.UnknownRelation oid) = codes "unknown_relation"
assembly_name (errors.NoOldRow oid) = codes "no_old_row"
assembly_name (errors.WrongWidth have want) = codes "wrong_width"
assembly_name (errors.BinaryColumn column) = codes "binary_column"
assembly_name (errors.UnsentValue column) = codes "unsent_value"
assembly_name (errors.NotUtf8 place) = codes "not_utf8"
assembly_name (errors.TxTooLarge bytes limit) = codes "tx_too_large"
assembly_name errors.OutOfMemory = codes "out_of_memory"

abbrev pub fault_by : Answer Fed → ℕ → Option Fault → Option Fault
fault_by (Ok fed) n later = later
fault_by (Err e) n later = Some (record { name = assembly_name e; place = n })

-- the first refusal among items behind these messages, where these stretches are done
abbrev pub fault_after : List Served → List Stretch → List Message → List Item → Option Fault
fault_after tables done before [] = None
fault_after tables done before (Read m ∷ items) = fault_by (due_next tables done before m) (length before) (fault_after tables done (before ++ m ∷ []) items)
fault_after tables done before (Unread ∷ items) = Some (record { name = codes "bad_message"; place = length before })
fault_after tables done before (Ended ∷ items) = None
fault_after tables done before (Faulty e ∷ items) = Some (frame_fault e)

-- Where the stream is refused since it began.
abbrev pub fault_of : List Served → Stream → Option Fault
fault_of tables s = fault_after tables (done_in s) [] s.now

abbrev pub is_end : Item → Bool
is_end (Read m) = false
is_end Unread = false
is_end Ended = true
is_end (Faulty e) = false

-- it ended or was refused since it began
abbrev pub is_over : List Served → Stream → Bool
is_over tables s = list_any is_end s.now || is_some (fault_of tables s)

-- ---- what records bring

abbrev pub item_by : Result Message ℕ → Item
item_by (Ok m) = Read m
item_by (Err left) = Unread

abbrev pub item_of : List ℕ → Item
item_of bytes = item_by (whole message bytes)

-- a keepalive brings nothing
abbrev pub in_frame : Frame → List Item
in_frame (frames.Wal start end bytes) = item_of bytes ∷ []
in_frame (frames.Keepalive end wanted) = []
in_frame frames.Done = Ended ∷ []

abbrev pub in_refusal : Option FrameError → List Item
in_refusal None = []
in_refusal (Some e) = Faulty e ∷ []

-- the frames that are whole now and were not before
abbrev pub in_frames : Held → Held → List Item
in_frames old new = flat_map in_frame (drop (length old.frames) new.frames) ++ in_refusal new.refusal

abbrev pub with_one : Stream → Item → Stream
with_one s i = record { earlier = s.earlier; now = s.now ++ i ∷ []; fed = s.fed }

-- an item behind an end or a refusal is passed over
abbrev pub with_item : List Served → Stream → Item → Stream
with_item tables s i = if is_over tables s then s else with_one s i

abbrev pub with_items : List Served → Stream → List Item → Stream
with_items tables s [] = s
with_items tables s (i ∷ items) = with_items tables (with_item tables s i) items

abbrev pub with_fed : Stream → List ℕ → Stream
with_fed s bytes = record { earlier = s.earlier; now = s.now; fed = s.fed ++ bytes }

-- The stream after a record.
abbrev pub with_piece : List Served → Stream → Piece → Stream
with_piece tables s (Sent bytes) = with_item tables s (item_of bytes)
with_piece tables s (Framed bytes) = with_fed (with_items tables s (in_frames (frames_of s.fed) (frames_of (s.fed ++ bytes)))) bytes

-- the fault that was not there before
abbrev pub new_fault : Option Fault → Option Fault → Option Fault
new_fault (Some old) fault = None
new_fault None fault = fault
