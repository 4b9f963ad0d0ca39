-- What a refusal says of the bytes.
use Rattle.std.specs.Prelude.{◌≡◌, ℕ, List, [], ◌∷◌, Result, Ok, Err}
use Rattle.pgout.specs.declared.message.Message.{Message}
use Rattle.pgout.specs.declared.fault.MessageError.{MessageError}
use Rattle.pgout.specs.declared.fault.MessageError.TheVariants as errors

-- the first byte, or 0 where there is none
abbrev pub first_of : List ℕ → ℕ
first_of [] = 0
first_of (b ∷ bytes) = b

-- What was returned is what the grammar reads from all of the bytes, unless memory ran out.
abbrev pub IsReading : Result Message MessageError → Result Message ℕ → Type 0
IsReading (Ok m) read = read ≡ Ok m
IsReading (Err errors.OutOfMemory) read = Unit {0}
IsReading (Err (errors.BadMessage place kind)) read = (left : ℕ) × (read ≡ Err left)
