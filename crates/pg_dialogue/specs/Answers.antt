-- What functions that may run out of memory answer.
use Rattle.std.specs.Prelude.{◌≡◌, ◌⊎◌, Result, Ok, Err}
use Rattle.pg_dialogue.specs.declared.wire_error.WireError.{WireError}
use Rattle.pg_dialogue.specs.declared.wire_error.WireError.TheVariants as errors

-- this answer, unless memory ran out
abbrev pub Answers : {A : Type 0} → Result A WireError → Result A WireError → Type 0
Answers (Ok x) answer = answer ≡ Ok x
Answers (Err e) answer = (e ≡ errors.OutOfMemory) ⊎ (answer ≡ Err e)
