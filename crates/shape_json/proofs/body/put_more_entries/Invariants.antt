use Rattle.std.proofs.Common.{◌∷◌, map, take}
use Rattle.std.specs.List.{flat_map}
use Rattle.shape_json.specs.Body.{entry_text}
use Rattle.shape_json.specs.Buffer.{Adds}
use Rattle.shape_json.proofs.body.put_more_entries.Given as goal

abbrev pub invariant-loop-entry : goal.invariant-loop-entry
invariant-loop-entry l = record {
  added : Adds l.fn.out l.out (flat_map (λ text. 44 ∷ text) (map entry_text (take l.entry-index l.entries)));
}
