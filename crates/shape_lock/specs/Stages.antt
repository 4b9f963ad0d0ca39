-- Why a shape is dropped, by its stage.
use Rattle.std.specs.Prelude.{Option, None, Some}
use Rattle.shape_base.specs.declared.cause.Cause.{Cause}
use Rattle.shape_state.specs.declared.paged.Stage.{Stage}
use Rattle.shape_state.specs.declared.paged.Stage.TheVariants.{Starting, Ready, Gone}

abbrev pub cause_in : Stage → Option Cause
cause_in Starting = None
cause_in Ready = None
cause_in (Gone cause) = Some cause
