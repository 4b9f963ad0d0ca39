use Rattle.std.proofs.Common.{refl}
use Rattle.core_events.specs.declared.event.Event.TheVariants as events
use Rattle.core_law.specs.Run.{SendNext}
use Rattle.sync_core.proofs.Moves.{lifts, situated}
use Rattle.sync_core.proofs.stepping.Core.send_next.Goals as goal

pub returns-clause-takes : goal.returns-clause-takes
returns-clause-takes c = lifts c.kept_stays.ensures (events.SendNext c.args.client) (SendNext c.args.client) c.args.self.now (record { alloc = c.args.self.now.alloc; machine = c.send_next.new.self; stream = c.args.self.now.stream; dialogues = c.args.self.now.dialogues; tables = c.args.self.now.tables }) c.send_next.result c.send_next.ensures.takes (λ o s h. refl) (λ o s. refl) (λ s. refl) refl refl refl

pub returns-clause-situated : goal.returns-clause-situated
returns-clause-situated c = situated (events.SendNext c.args.client) c.args.self.now (record { alloc = c.args.self.now.alloc; machine = c.send_next.new.self; stream = c.args.self.now.stream; dialogues = c.args.self.now.dialogues; tables = c.args.self.now.tables }) c.send_next.result (returns-clause-takes c) c.requires
