use Rattle.std.proofs.Common.{ap}
use Rattle.shape_json.specs.ShapeHistory.{Reader}
use Rattle.core_server.proofs.snapshots.ready_shape.Goals as goal

pub ready-requires-clause-test : goal.ready-requires-clause-test
ready-requires-clause-test c = ap (λ (r : Reader). r.knows) c.requires.reads
