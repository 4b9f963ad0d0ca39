-- What is answered: a value, or one refusal by its name.
use Rattle.std.specs.Prelude.{◌≡◌, Bool, true, false, Result, Ok, Err}
use Rattle.tx_assembler.specs.declared.answer.AssembleError.{AssembleError}
use Rattle.tx_assembler.specs.declared.answer.AssembleError.TheVariants as errors

-- a value, or why there is none
abbrev pub Answer : Type 0 → Type 0
Answer A = Result A AssembleError

-- one answer, and the next where it is no refusal
abbrev pub next : {A B : Type 0} → Answer A → (A → Answer B) → Answer B
next (Ok x) f = f x
next (Err e) f = Err e

abbrev pub is_memory : AssembleError → Bool
is_memory errors.OutOfMemory = true
is_memory (errors.OutOfOrder have got) = false
is_memory (errors.LsnMismatch begin commit) = false
is_memory (errors.UnknownRelation oid) = false
is_memory (errors.NoOldRow oid) = false
is_memory (errors.WrongWidth have want) = false
is_memory (errors.BinaryColumn column) = false
is_memory (errors.UnsentValue column) = false
is_memory (errors.NotUtf8 place) = false
is_memory (errors.TxTooLarge bytes limit) = false

-- this refusal is the answer, unless memory ran out
abbrev pub Refuses : {A : Type 0} → AssembleError → Answer A → Type 0
Refuses e answer = is_memory e ≡ false → answer ≡ Err e

-- what was returned is the answer, unless memory ran out
abbrev pub Gives : {A : Type 0} → Result A AssembleError → Answer A → Type 0
Gives (Ok x) answer = answer ≡ Ok x
Gives (Err e) answer = Refuses e answer
