-- What functions answer that may run out of memory.
use Rattle.std.specs.Prelude.{◌≡◌, ◌-◌, ◌≤◌, ℕ, List, length, Result, Ok, Err}
use Rattle.shape_base.specs.Visibility.{Visibility}
use Rattle.snapshot_merge.specs.declared.reading.Fault.{Fault}
use Rattle.snapshot_merge.specs.declared.reading.Fault.TheVariants as faults
use Rattle.snapshot_merge.specs.declared.vis.VisError.{VisError}
use Rattle.snapshot_merge.specs.declared.vis.VisError.TheVariants as errors

abbrev pub Fails : {Y : Type 0} → Fault → Result Y ℕ → Type 0
Fails faults.OutOfMemory read = Unit {0}
Fails (faults.Wrong left) read = read ≡ Err left

-- what a function returned, seen by view, is what reading gives, unless memory ran out
abbrev pub Gives : {X Y : Type 0} → (X → Y) → Result X Fault → Result Y ℕ → Type 0
Gives view (Ok x) read = read ≡ Ok (view x)
Gives view (Err e) read = Fails e read

-- the place of the first wrong byte in a text
abbrev pub FailsAt : VisError → List ℕ → Result Visibility ℕ → Type 0
FailsAt errors.OutOfMemory text read = Unit {0}
FailsAt (errors.BadSnapshot place) text read = (place ≤ length text) × (read ≡ Err (length text - place))

-- the visibility of a text, or the place of its first wrong byte, unless memory ran out
abbrev pub Reads : Result Visibility VisError → List ℕ → Result Visibility ℕ → Type 0
Reads (Ok v) text read = read ≡ Ok v
Reads (Err e) text read = FailsAt e text read
