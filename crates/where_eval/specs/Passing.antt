-- What looking for faults must answer.
use Rattle.std.specs.Prelude.{◌≡◌, ℕ, Bool, if◌then◌else◌, Result, Ok, Err, Option, Some, None}
use Rattle.where_eval.specs.declared.faults.CheckError.{CheckError}
use Rattle.where_eval.specs.declared.faults.CheckError.TheVariants.{BadLiteral}

-- nothing where there is no fault, or else the fault
abbrev pub Passes : {A : Type 0} → Result A CheckError → Option CheckError → Type 0
Passes (Ok x) found = found ≡ None
Passes (Err error) found = found ≡ Some error

-- where there is no fault, the next leaf's number too
abbrev pub PassesTo : Result ℕ CheckError → Option CheckError → ℕ → Type 0
PassesTo (Ok n) found next = (found ≡ None) × (n ≡ next)
PassesTo (Err error) found next = found ≡ Some error

-- the fault of a string in a leaf
abbrev pub literal_at : Option ℕ → Option CheckError
literal_at None = None
literal_at (Some n) = Some (BadLiteral n)

-- the string in a leaf, or else what is found behind it
abbrev pub literal_or : Option ℕ → Option CheckError → Option CheckError
literal_or None other = other
literal_or (Some n) other = Some (BadLiteral n)

-- a string in a leaf that has no value, or else what is found behind it
abbrev pub literal_if : Bool → ℕ → Option CheckError → Option CheckError
literal_if bad n other = if bad then Some (BadLiteral n) else other
