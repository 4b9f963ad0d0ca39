use Rattle.std.proofs.Common.{◌≡◌, take, false}
use Rattle.std.specs.Prelude.{is_none}
use Rattle.std.specs.List.{list_any}
use Rattle.shape_base.specs.Tables.{place_of}
use Rattle.shape_def.proofs.index.has_strange.Given as goal

-- no name so far is strange
abbrev pub invariant-loop-name : goal.invariant-loop-name
invariant-loop-name l = list_any (λ name. is_none (place_of l.columns name)) (take l.name-index l.name-items) ≡ false
