-- Why no shape was registered, by what the registry answered.
use Rattle.shape_registry.specs.declared.refusal.RegisterError.{RegisterError}
use Rattle.shape_registry.specs.declared.refusal.RegisterError.TheVariants as refused
use Rattle.shared_shapes.specs.declared.started.StartError.{StartError}
use Rattle.shared_shapes.specs.declared.started.StartError.TheVariants.{Exists, TooMany, NumbersSpent, OutOfMemory}

abbrev pub reason_of : {K : Type 0} → RegisterError K → StartError
reason_of (refused.Exists number kept) = Exists number
reason_of (refused.TooMany live limit kept) = TooMany live limit
reason_of (refused.NumbersSpent kept) = NumbersSpent
reason_of (refused.OutOfMemory kept) = OutOfMemory
