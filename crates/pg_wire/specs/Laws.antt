-- What the rules by which frames are read mean for the bytes that a server writes.
use Rattle.std.specs.Prelude.{◌≡◌, ℕ, ◌+◌, ◌<◌, ◌≤◌, ◌^◌, List, ◌∷◌, ◌++◌, length, take, Bool, true, Option, Some, Ok, ◌⊎◌, if◌then◌else◌}
use Rattle.std.specs.List.{AllByRecursion}
use Rattle.byte_format.specs.Format.{int32}
use Rattle.pg_wire.specs.declared.frame.Frame.{Frame}
use Rattle.pg_wire.specs.declared.frame.FrameError.{FrameError}
use Rattle.pg_wire.specs.declared.frame.Frame.TheVariants.{Wal, Keepalive}
use Rattle.pg_wire.specs.FrameList.{wal, keepalive, copy_data, content, is_type, may_be, Whole, whole_at, with_size, beginning, Unfinished, Framed, Refused}

-- a frame's bytes: type byte, length and payload
abbrev pub frame_bytes : ℕ → List ℕ → List ℕ
frame_bytes kind payload = kind ∷ int32.spell (4 + length payload) ++ payload

-- the type byte is known, the payload may stand behind it, and the length is within the limit
pub record IsFrame (kind : ℕ) (payload : List ℕ) : Type 0 where
  pub known : is_type kind ≡ true
  pub may : may_be kind (length payload) payload ≡ true
  pub short : 4 + length payload ≤ 67109888

-- A frame's bytes are read as one frame of their size, with what its payload gives, whatever follows.
abbrev pub WholeFrames : Type 0
WholeFrames = (place kind : ℕ) (payload more : List ℕ) → IsFrame kind payload → beginning place (frame_bytes kind payload ++ more) ≡ with_size (5 + length payload) (content place kind payload)

-- The payload of an XLogData gives its two positions and its message.
abbrev pub WalPayloads : Type 0
WalPayloads = (start end time : ℕ) (message : List ℕ) → start < 2 ^ 64 → end < 2 ^ 64 → time < 2 ^ 64 → copy_data (119 ∷ (wal.spell (start, (end, time)) ++ message)) ≡ Some (Wal start end message)

-- The payload of a keepalive gives its position and whether a reply is wanted.
abbrev pub KeepalivePayloads : Type 0
KeepalivePayloads = (end time : ℕ) (wanted : Bool) → end < 2 ^ 64 → time < 2 ^ 64 → copy_data (107 ∷ keepalive.spell (end, (time, if wanted then 1 else 0))) ≡ Some (Keepalive end wanted)

abbrev pub found : ℕ × ℕ → Whole
found x = Ok (Some x)

-- Each proper prefix of a whole frame is unfinished, of C and E with any payload.
abbrev pub Prefixes : Type 0
Prefixes = (place : ℕ) (bytes more : List ℕ) (x : ℕ × ℕ) → whole_at place (bytes ++ more) ≡ found x → length bytes < 5 + x.1 → beginning place bytes ≡ Unfinished

-- ---- from what is read back to the bytes

-- The first bytes, so many, are those of a frame, and this is what it gives.
pub record IsFramed (place : ℕ) (bytes : List ℕ) (given : Option Frame) (size : ℕ) : Type 0 where
  pub kind : ℕ
  pub payload : List ℕ
  pub frame : IsFrame kind payload
  pub stands : take size bytes ≡ frame_bytes kind payload
  pub gives : content place kind payload ≡ Ok given

-- With these bytes behind them the bytes are those of a frame, of C and E with any payload.
pub record Continues (bytes : List ℕ) : Type 0 where
  pub kind : ℕ
  pub payload : List ℕ
  pub more : List ℕ
  pub frame : IsFrame kind payload
  pub goes_on : bytes ++ more ≡ frame_bytes kind payload

-- A frame is read only where its bytes stand first.
abbrev pub FramedBytes : Type 0
FramedBytes = (place : ℕ) (bytes : List ℕ) (given : Option Frame) (size : ℕ) → AllByRecursion (λ b. b < 256) bytes → beginning place bytes ≡ Framed given size → IsFramed place bytes given size

-- Bytes are unfinished only where they are fewer than a type byte and a length, or some continuation of them is a frame.
abbrev pub UnfinishedBytes : Type 0
UnfinishedBytes = (place : ℕ) (bytes : List ℕ) → AllByRecursion (λ b. b < 256) bytes → beginning place bytes ≡ Unfinished → (length bytes < 5) ⊎ Continues bytes

-- Bytes are refused only where no continuation of them begins with a frame that gives something or is passed over.
abbrev pub RefusedBytes : Type 0
RefusedBytes = (place : ℕ) (bytes : List ℕ) (error : FrameError) → beginning place bytes ≡ Refused error
    → (more tail : List ℕ) (kind : ℕ) (payload : List ℕ) (given : Option Frame) → IsFrame kind payload → content place kind payload ≡ Ok given → bytes ++ more ≡ frame_bytes kind payload ++ tail → ⊥
