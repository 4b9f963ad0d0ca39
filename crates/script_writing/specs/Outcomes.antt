-- What writers return.
use Rattle.std.specs.Prelude.{◌≡◌, ℕ, true, false, List, ◌++◌, Result, Ok, Err}
use Rattle.script_writing.specs.declared.fault.WriteError.{WriteError}
use Rattle.script_writing.specs.declared.fault.WriteError.TheVariants.{Unwritable, OutOfMemory}
use Rattle.script_writing.specs.Parts.{Spelling}

-- The bytes were added at the end, and the value fits; or it does not fit; or memory ran out.
abbrev pub Puts : {A : Type 0} → Result A WriteError → List ℕ → List ℕ → Spelling → Type 0
Puts (Ok done) old new s = (new ≡ old ++ s.bytes) × (s.fits ≡ true)
Puts (Err Unwritable) old new s = s.fits ≡ false
Puts (Err OutOfMemory) old new s = Unit {0}

-- These are the bytes, and the value fits; or it does not fit; or memory ran out.
abbrev pub Writes : Result (List ℕ) WriteError → Spelling → Type 0
Writes (Ok bytes) s = (bytes ≡ s.bytes) × (s.fits ≡ true)
Writes (Err Unwritable) s = s.fits ≡ false
Writes (Err OutOfMemory) s = Unit {0}
