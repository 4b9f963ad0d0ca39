use Rattle.std.specs.Prelude.{slice_get, length}
use Rattle.lock_bench.proofs.numbers.add.Given as goal

abbrev pub ghosts-give : goal.ghosts-give
ghosts-give g a = record { event = slice_get a.state.items.items (length a.held.seen) }
