use Rattle.change_map.specs.Emitting.{in_order}
use Rattle.change_map.proofs.Entries.{leads_over, whole_kind}
use Rattle.change_map.proofs.emitting.Emitter.emit.Goals as goal

pub returns-clause-leads : goal.returns-clause-leads
returns-clause-leads g c = leads_over (g.T.RowTest.knows c.args.self.now.test) c.args.lsn c.args.j c.args.change.now.kind (in_order c.in_ok-of_kind.field-0) (g.met.T.RowTest.lawful c.args.self.now.test) (whole_kind (g.T.RowTest.knows c.args.self.now.test) c.args.change.now.kind c.requires.whole) c.in_ok-of_kind.ensures.readable.0 c.in_ok-of_kind.ensures.readable.1 c.in_ok-of_kind.ensures.entries
