use Rattle.std.proofs.Common.{ap}
use Rattle.std.specs.Prelude.{Result, Err}
use Rattle.change_map.specs.declared.emitting.EmitError.{EmitError}
use Rattle.change_map.specs.declared.emitting.Emitted.{Emitted}
use Rattle.shape_entries.proofs.Changes.{bad_stops}
use Rattle.shape_entries.proofs.commit.add_own.Goals as goal

pub returns-in-Err-BadRow-clause-stops : goal.returns-in-Err-BadRow-clause-stops
returns-in-Err-BadRow-clause-stops g c =
    let e = c.in-Err-BadRow in
    bad_stops (g.T.RowTest.knows c.args.emitter.now.test) (g.T.RowTest.unread c.args.emitter.now.test) c.args.def.now c.args.j c.args.change.now.kind e.field-0-0 ((e.ensures).bad e.field-0-0 (ap (λ (x : EmitError). let r : Result Emitted EmitError = Err x in r) e.field-0-is))
