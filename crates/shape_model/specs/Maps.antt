-- What the fold of a log gives.
use Rattle.std.specs.Prelude.{◌≡◌, ◌+◌, ◌<◌, List, map, take, Some, None, IsSome, length}
use Rattle.std.specs.Option.{option_map}
use Rattle.std.specs.FinMap as fin
use Rattle.shape_base.specs.declared.entry.Entry.{Entry}
use Rattle.shape_base.specs.declared.entry.KeyedRow.{KeyedRow}
use Rattle.shape_base.specs.Shape.{Keyed}
use Rattle.shape_base.specs.Log.{fold}
use Rattle.shape_model.specs.declared.folds.ModelError.{ModelError}
use Rattle.shape_model.specs.declared.folds.ModelError.TheVariants as errors

-- the keys with their cells
abbrev pub pairs_of : List KeyedRow → List Keyed
pairs_of rows = map (λ r. (r.key, r.cells)) rows

-- the fold has these rows, in byte order of their keys
abbrev pub Folds : List Entry → List KeyedRow → Type 0
Folds es rows = option_map fin.entries (fold es) ≡ Some (pairs_of rows)

-- the first entry that the fold has no value for
abbrev pub FailsAt : List Entry → ModelError → Type 0
FailsAt es errors.OutOfMemory = Unit {0}
FailsAt es (errors.BadValue column) = ⊥
FailsAt es (errors.BadFold place) = (place < length es) × IsSome (fold (take place es)) × (fold (take (place + 1) es) ≡ None)
