use Rattle.std.proofs.Common.{◌≡◌, length}
use Rattle.shape_registry.proofs.Parts.{AreEmpty}
use Rattle.shape_registry.proofs.names.Names.new.Given as goal

abbrev pub invariant-loop : goal.invariant-loop
invariant-loop l = (length l.parts.items ≡ l.counter) × AreEmpty l.parts.items
