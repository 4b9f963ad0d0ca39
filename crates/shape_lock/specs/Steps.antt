-- What contracts see of a step.
use Rattle.shape_json.specs.ShapeHistory.{ShapeEvent, Took, Dropped}
use Rattle.shape_lock.specs.declared.step.Change.{Change}
use Rattle.shape_lock.specs.declared.step.Change.TheVariants as changes

abbrev pub event_of : Change → ShapeEvent
event_of (changes.Took tx others) = Took tx.value others
event_of (changes.Dropped cause) = Dropped cause
