-- The frames of a stream's bytes: a type byte, Int32 length (which counts itself and not the type byte) and the payload.
use Rattle.std.specs.Prelude.{ℕ, zero, suc, ◌+◌, ◌-◌, List, [], ◌∷◌, length, take, drop, Bool, true, not, ◌&&◌, ◌||◌, ◌==◌, nat_lt, if◌then◌else◌, Option, None, Some, Result, Ok, Err}
use Rattle.std.specs.Int.{w32, from_be_bytes}
use Rattle.std.specs.Str.{is_utf8}
use Rattle.byte_format.specs.Format.{Format, Read, byte, int64, string, ◌&◌}
use Rattle.byte_format.specs.Whole.{whole}
use Rattle.pg_wire.specs.declared.frame.Frame.{Frame}
use Rattle.pg_wire.specs.declared.frame.Frame.TheVariants.{Wal, Keepalive, Done}
use Rattle.pg_wire.specs.declared.frame.FrameError.{FrameError}
use Rattle.pg_wire.specs.declared.frame.FrameError.TheVariants.{BadFrame, FrameTooLong, ServerError}
use Rattle.pg_wire.specs.ErrorFields.{sqlstate_of}

-- ---- payloads

-- 55.4 XLogData, behind Byte1('w') and before the message: Int64 start LSN, Int64 end LSN, Int64 time.
abbrev pub wal : Format (ℕ × (ℕ × ℕ))
wal = int64 & int64 & int64

-- 55.4 Primary keepalive message, behind Byte1('k'): Int64 end LSN, Int64 time, Byte1 whether a reply is wanted.
abbrev pub keepalive : Format (ℕ × (ℕ × ℕ))
keepalive = int64 & int64 & byte

abbrev pub wal_frame : Read (ℕ × (ℕ × ℕ)) → Option Frame
wal_frame (Ok x) = Some (Wal x.0.0 x.0.1.0 x.1)
wal_frame (Err left) = None

abbrev pub keepalive_frame : Result (ℕ × (ℕ × ℕ)) ℕ → Option Frame
keepalive_frame (Ok x) = if nat_lt x.1.1 2 then Some (Keepalive x.0 (x.1.1 == 1)) else None
keepalive_frame (Err left) = None

-- 55.7 CopyData: XLogData or a keepalive
unfoldable pub copy_data : List ℕ → Option Frame
copy_data [] = None
copy_data (first ∷ rest) = if first == 119 then wal_frame (wal.read rest) else if first == 107 then keepalive_frame (whole keepalive rest) else None

-- 55.7 CopyDone has no payload
abbrev pub copy_done : List ℕ → Option Frame
copy_done payload = if length payload == 0 then Some Done else None

abbrev pub done_after : Result (List ℕ) ℕ → Option Frame
done_after (Ok tag) = Some Done
done_after (Err left) = None

-- 55.7 CommandComplete: String tag
abbrev pub command_complete : List ℕ → Option Frame
command_complete payload = done_after (whole string payload)

abbrev pub error_with : ℕ → Option (List ℕ) → FrameError
error_with place (Some code) = if is_utf8 code then ServerError place code else BadFrame place
error_with place None = BadFrame place

-- 55.7 ErrorResponse: its SQLSTATE, which has to be there and to be UTF-8
abbrev pub error_response : ℕ → List ℕ → FrameError
error_response place payload = error_with place (sqlstate_of payload)

abbrev pub or_bad : ℕ → Option Frame → Result (Option Frame) FrameError
or_bad place (Some frame) = Ok (Some frame)
or_bad place None = Err (BadFrame place)

-- what a whole payload behind this type byte gives: a frame, or nothing where it is passed over
unfoldable pub content : ℕ → ℕ → List ℕ → Result (Option Frame) FrameError
content place kind payload =
    if kind == 100 then or_bad place (copy_data payload)
    else if kind == 99 then or_bad place (copy_done payload)
    else if kind == 67 then or_bad place (command_complete payload)
    else if kind == 69 then Err (error_response place payload)
    else Ok None

-- ---- type bytes and lengths

-- CopyData d, CopyDone c, CommandComplete C, ErrorResponse E, and the two that are passed over: ParameterStatus S, NoticeResponse N
abbrev pub is_type : ℕ → Bool
is_type kind = kind == 100 || kind == 99 || kind == 67 || kind == 69 || kind == 83 || kind == 78

-- the payload of a CopyData may have this length, as far as its first byte tells: 25 bytes and a message for w, 18 bytes for k
abbrev pub may_be_data : ℕ → List ℕ → Bool
may_be_data len [] = not (nat_lt len 25) || len == 18
may_be_data len (first ∷ rest) = (first == 119 && not (nat_lt len 25)) || (first == 107 && len == 18)

-- a payload of this length may begin so; the payloads of C and E are judged when they are whole
abbrev pub may_be : ℕ → ℕ → List ℕ → Bool
may_be kind len rest = if kind == 100 then may_be_data len rest else if kind == 99 then len == 0 else true

-- What stands first: none where it is not whole yet, else its type byte and how long its payload is. The rules in their order: a known type byte, which
-- is judged before the length is there; a length up to the limit; a length that counts itself; a payload that may be.
abbrev pub Whole : Type 0
Whole = Result (Option (ℕ × ℕ)) FrameError

abbrev pub whole_if : Bool → ℕ → ℕ → Whole
whole_if there kind len = if there then Ok (Some (kind, len)) else Ok None

unfoldable pub payload_at : ℕ → ℕ → ℕ → List ℕ → Whole
payload_at place kind len rest = if may_be kind len rest then whole_if (not (nat_lt (length rest) len)) kind len else Err (BadFrame place)

unfoldable pub length_at : ℕ → ℕ → ℕ → List ℕ → Whole
length_at place kind len rest = if nat_lt 67109888 len then Err (FrameTooLong place len 67109888)
    else if nat_lt len 4 then Err (BadFrame place)
    else payload_at place kind (len - 4) rest

unfoldable pub whole_at : ℕ → List ℕ → Whole
whole_at place [] = Ok None
whole_at place (kind ∷ bytes) = if is_type kind then (if nat_lt (length bytes) 4 then Ok None else length_at place kind (from_be_bytes w32 (take 4 bytes)) (drop 4 bytes))
    else Err (BadFrame place)

-- ---- the list of frames

-- What bytes begin with: no whole frame, and none that is refused; a whole frame of so many bytes, with what it gives; or a refusal.
pub data Beginning : Type 0 where
  Unfinished : Beginning
  Framed : (given : Option Frame) → (size : ℕ) → Beginning
  Refused : (error : FrameError) → Beginning

abbrev pub with_size : ℕ → Result (Option Frame) FrameError → Beginning
with_size size (Ok given) = Framed given size
with_size size (Err error) = Refused error

abbrev pub beginning_of : ℕ → List ℕ → Whole → Beginning
beginning_of place bytes (Ok (Some x)) = with_size (5 + x.1) (content place x.0 (take x.1 (drop 5 bytes)))
beginning_of place bytes (Ok None) = Unfinished
beginning_of place bytes (Err error) = Refused error

-- what stands at this place of the stream, where these bytes follow
unfoldable pub beginning : ℕ → List ℕ → Beginning
beginning place bytes = beginning_of place bytes (whole_at place bytes)

-- The frames that bytes hold, and how they end: with nothing or a frame that is not whole yet, or with a refusal.
pub record Held : Type 0 where
  pub frames : List Frame
  pub refusal : Option FrameError

abbrev pub ended : Option FrameError → Held
ended refusal = record { frames = []; refusal = refusal }

abbrev pub one_more : Option Frame → Held → Held
one_more None held = held
one_more (Some frame) held = record held { frames = frame ∷ held.frames }

abbrev pub held_of : (ℕ → List ℕ → Held) → ℕ → List ℕ → Beginning → Held
held_of later place bytes Unfinished = ended None
held_of later place bytes (Refused error) = ended (Some error)
held_of later place bytes (Framed given size) = one_more given (later (place + size) (drop size bytes))

-- in at most n steps
unfoldable pub held_within : ℕ → ℕ → List ℕ → Held
held_within zero place bytes = ended None
held_within (suc n) place bytes = held_of (held_within n) place bytes (beginning place bytes)

-- what bytes hold, the first of which stands at this place; each step takes a byte at least
unfoldable pub held_from : ℕ → List ℕ → Held
held_from place bytes = held_within (length bytes) place bytes

-- the frames of all the bytes of a stream
abbrev pub frames_of : List ℕ → Held
frames_of bytes = held_from 0 bytes
