use Rattle.std.proofs.Common.{◌≡◌}
use Rattle.shape_state_cases.proofs.fill.Given as goal

-- the snapshot has the test and the least chunk that it had
abbrev pub invariant-loop-row : goal.invariant-loop-row
invariant-loop-row l = record {
  test : l.snap.emitter.test ≡ l.fn.snap.emitter.test;
  least : l.snap.kept.log.least ≡ l.fn.snap.kept.log.least;
}
