use Rattle.std.proofs.Common.{drop}
use Rattle.shape_json.specs.Reading.{HaveOffsets}
use Rattle.fold_client.proofs.body.offsets_fit.Given as goal

-- where those that are left fit, all do
abbrev pub invariant-loop-entry : goal.invariant-loop-entry
invariant-loop-entry l = HaveOffsets (drop l.entry-index l.entries) → HaveOffsets l.entries
