-- Why a snapshot ends, and whose it is.
use Rattle.std.specs.Prelude.{ℕ, if◌then◌else◌, Option, None, Some, slice_get}
use Rattle.shape_base.specs.RegistryHistory.{is_starting}
use Rattle.core_law.specs.Situation.{Situation}
use Rattle.core_law.specs.Steps as law
use Rattle.core_law.specs.Steps.{owned_by}
use Rattle.core_machine.specs.declared.fault.Fault.{Fault}
use Rattle.core_machine.specs.declared.fault.Fault.TheVariants as faults

abbrev pub fault_of : Fault → law.Fault
fault_of faults.LinkFailed = law.LinkFailed
fault_of (faults.IsBad detail) = law.IsBad detail
fault_of (faults.TooLarge bytes limit) = law.TooLarge bytes limit

abbrev pub if_starting : Situation → Option ℕ → Option ℕ
if_starting s None = None
if_starting s (Some n) = if is_starting s.server.registry n then Some n else None

-- the number whose snapshot an exchange owns, where it is starting
abbrev pub under_way : Situation → ℕ → Option ℕ
under_way s e = if_starting s (owned_by (slice_get s.exchanges e))
