use Rattle.std.proofs.Common.{◌≡◌, ◌++◌, take}
use Rattle.std.specs.List.{flat_map}
use Rattle.pg_dialogue.specs.Queries.{apostrophes}
use Rattle.pg_dialogue.proofs.queries.put_apostrophes.Given as goal

abbrev pub invariant-bytes : goal.invariant-bytes
invariant-bytes l = l.out.items ≡ l.fn.out.items ++ flat_map apostrophes (take l.byte-index l.text)
