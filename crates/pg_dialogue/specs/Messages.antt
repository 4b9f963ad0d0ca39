-- The messages of the server (PostgreSQL manual, 55.7 Message Formats): a type byte, Int32 length, which counts itself and not the type byte, and the payload.
use Rattle.std.specs.Prelude.{ℕ, zero, suc, ◌+◌, ◌-◌, List, [], ◌∷◌, length, take, drop, nat_lt, if◌then◌else◌}
use Rattle.std.specs.Int.{w32, from_be_bytes}

-- What stands first: no whole message yet; a length that is too small to count itself; or a whole message, with the bytes after it.
pub data First : Type 0 where
  Unfinished : First
  TooSmall : First
  Whole : (kind : ℕ) → (payload rest : List ℕ) → First

-- a payload of n bytes
abbrev pub payload_at : ℕ → ℕ → List ℕ → First
payload_at kind n bytes = if nat_lt (length bytes) n then Unfinished else Whole kind (take n bytes) (drop n bytes)

abbrev pub sized_at : ℕ → ℕ → List ℕ → First
sized_at kind len bytes = if nat_lt len 4 then TooSmall else payload_at kind (len - 4) bytes

-- what bytes begin with
abbrev pub first_of : List ℕ → First
first_of (kind ∷ a ∷ b ∷ c ∷ d ∷ bytes) = sized_at kind (from_be_bytes w32 (a ∷ b ∷ c ∷ d ∷ [])) bytes
first_of [] = Unfinished
first_of (_ ∷ []) = Unfinished
first_of (_ ∷ _ ∷ []) = Unfinished
first_of (_ ∷ _ ∷ _ ∷ []) = Unfinished
first_of (_ ∷ _ ∷ _ ∷ _ ∷ []) = Unfinished

-- What the server said: its messages, each with the place of its first byte, and then the end of what there is, after so many bytes in all, or a length that is too
-- small, in the message at this place.
pub data Said : Type 0 where
  Silent : (place : ℕ) → Said
  Broken : (place : ℕ) → Said
  Says : (place kind : ℕ) → (payload : List ℕ) → Said → Said

-- the place behind a message
abbrev pub behind : ℕ → List ℕ → ℕ
behind place payload = place + (5 + length payload)

abbrev pub said_then : (ℕ → List ℕ → Said) → ℕ → List ℕ → First → Said
said_then later place bytes Unfinished = Silent (place + length bytes)
said_then later place bytes TooSmall = Broken place
said_then later place bytes (Whole kind payload rest) = Says place kind payload (later (behind place payload) rest)

-- at most n messages
unfoldable pub said_within : ℕ → ℕ → List ℕ → Said
said_within zero place bytes = Silent (place + length bytes)
said_within (suc n) place bytes = said_then (said_within n) place bytes (first_of bytes)

-- what the server said in these bytes, the first of which stands at this place; each message has five bytes at least
unfoldable pub said : ℕ → List ℕ → Said
said place bytes = said_within (length bytes) place bytes
