-- What becomes of a commit, by what was prepared for it.
use Rattle.shape_state.specs.declared.prepared.Prepared.{Prepared}
use Rattle.shape_state.specs.declared.prepared.Prepared.TheVariants.{Skip, Buffer, Append, Drop}
use Rattle.shape_lock.specs.declared.fate.Fate.{Fate}
use Rattle.shape_lock.specs.declared.fate.Fate.TheVariants.{Appended, Buffered, Stopped}

abbrev pub fate_in : Prepared → Fate
fate_in Skip = Appended
fate_in (Buffer tx) = Buffered
fate_in (Append written) = Appended
fate_in (Drop cause) = Stopped cause
