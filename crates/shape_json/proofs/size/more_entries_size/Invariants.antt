use Rattle.std.proofs.Common.{◌≡◌, length, take}
use Rattle.shape_json.specs.Body.{entry_text}
use Rattle.shape_json.specs.Body.{capped}
use Rattle.shape_json.proofs.Writing.{more}
use Rattle.shape_json.proofs.size.more_entries_size.Given as goal

abbrev pub invariant-loop-entry : goal.invariant-loop-entry
invariant-loop-entry l = l.size ≡ capped (length (more entry_text (take l.entry-index l.entries)))
