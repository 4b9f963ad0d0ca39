use Rattle.std.proofs.Common.{◌≡◌, ◌++◌, drop}
use Rattle.std.specs.List.{flat_map}
use Rattle.drill_work.specs.Notes.{given_one}
use Rattle.drill_work.proofs.notes.given.Given as goal

-- the snapshots so far, and those that are left
abbrev pub invariant-loop-exchange : goal.invariant-loop-exchange
invariant-loop-exchange l = l.events ++ flat_map (given_one l.notes) (drop l.exchange-index l.exchange-items) ≡ flat_map (given_one l.notes) l.under_way
