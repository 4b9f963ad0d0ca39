-- Values of parts as contracts see them.
use Rattle.std.specs.Prelude.{Option, Some, None}
use Rattle.where_eval.specs.declared.read_value.ReadValue.{ReadValue}
use Rattle.where_eval.specs.declared.read_value.ReadValue.TheVariants as data_
use Rattle.where_eval.specs.Scalars.{Scalar, Truth, Number, Words, Id}

abbrev pub seen : ReadValue → Option Scalar
seen data_.Null = None
seen (data_.Truth b) = Some (Truth b)
seen (data_.Number n) = Some (Number n)
seen (data_.Words text) = Some (Words text.now)
seen (data_.Id n) = Some (Id n)

-- what is wanted, where something is
abbrev pub wish : Option ReadValue → Option (Option Scalar)
wish None = None
wish (Some wanted) = Some (seen wanted)
