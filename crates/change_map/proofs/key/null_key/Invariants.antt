use Rattle.std.proofs.Common.{◌≡◌, take, true, false}
use Rattle.std.specs.Option.{MatchOption}
use Rattle.shape_base.specs.Tables.{lacks_key}
use Rattle.shape_base.specs.Shape.{IsLeast}
use Rattle.change_map.specs.Keys.{is_null_key}
use Rattle.change_map.proofs.key.null_key.Given as goal

-- the least of the key columns so far that is null
abbrev pub invariant-loop-place : goal.invariant-loop-place
invariant-loop-place l = MatchOption l.least (lacks_key (take l.place-index l.key) l.row ≡ false) (λ column. (lacks_key (take l.place-index l.key) l.row ≡ true) × IsLeast (is_null_key (take l.place-index l.key) l.row) column)
