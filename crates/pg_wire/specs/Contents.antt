-- What the readers of payloads and of frames answer, and what that stands for.
use Rattle.std.specs.Prelude.{◌≡◌, ◌⊎◌, List, ℕ, ◌≤◌, length, take, drop, Option, None, Some, Result, Ok, Err}
use Rattle.pg_wire.specs.declared.content.Content.{Content}
use Rattle.pg_wire.specs.declared.content.Content.TheVariants as contents
use Rattle.pg_wire.specs.declared.frame.Frame.{Frame}
use Rattle.pg_wire.specs.declared.frame.Frame.TheVariants as frames
use Rattle.pg_wire.specs.declared.frame.FrameError.{FrameError}
use Rattle.pg_wire.specs.declared.frame.FrameError.TheVariants as errors
use Rattle.pg_wire.specs.FrameList.{Unfinished, Framed, Refused, beginning}

-- the frame, or none where it is passed over; the message of an XLogData is what stands behind its 25 bytes
abbrev pub shown : List ℕ → Content → Option Frame
shown payload contents.Passed = None
shown payload (contents.Wal start end) = Some (frames.Wal start end (drop 25 payload))
shown payload (contents.Keepalive end wanted) = Some (frames.Keepalive end wanted)
shown payload contents.Done = Some frames.Done

-- the frame that a payload is, or none
abbrev pub IsShown : List ℕ → Option Content → Option Frame → Type 0
IsShown payload None frame = frame ≡ None
IsShown payload (Some contents.Passed) frame = ⊥
IsShown payload (Some (contents.Wal start end)) frame = frame ≡ Some (frames.Wal start end (drop 25 payload))
IsShown payload (Some (contents.Keepalive end wanted)) frame = frame ≡ Some (frames.Keepalive end wanted)
IsShown payload (Some contents.Done) frame = frame ≡ Some frames.Done

-- what is given and what is refused, unless memory ran out
abbrev pub IsAnswer : List ℕ → Result Content FrameError → Result (Option Frame) FrameError → Type 0
IsAnswer payload (Ok c) answer = answer ≡ Ok (shown payload c)
IsAnswer payload (Err e) answer = (e ≡ errors.OutOfMemory) ⊎ (answer ≡ Err e)

-- what stands first: its content and its size, where it is whole
abbrev pub IsFirst : ℕ → List ℕ → Option (Content × ℕ) → Type 0
IsFirst place bytes None = beginning place bytes ≡ Unfinished
IsFirst place bytes (Some x) = (5 ≤ x.1) × (x.1 ≤ length bytes) × (beginning place bytes ≡ Framed (shown (drop 5 (take x.1 bytes)) x.0) x.1)

abbrev pub IsFirstAnswer : ℕ → List ℕ → Result (Option (Content × ℕ)) FrameError → Type 0
IsFirstAnswer place bytes (Ok o) = IsFirst place bytes o
IsFirstAnswer place bytes (Err e) = (e ≡ errors.OutOfMemory) ⊎ (beginning place bytes ≡ Refused e)
