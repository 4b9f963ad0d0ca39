use Rattle.std.proofs.Common.{refl}
use Rattle.core_events.specs.declared.event.Event.TheVariants as events
use Rattle.core_law.specs.Run.{Remove}
use Rattle.sync_core.proofs.Moves.{lifts, situated}
use Rattle.sync_core.proofs.stepping.Core.remove.Goals as goal

pub returns-clause-takes : goal.returns-clause-takes
returns-clause-takes c = lifts c.kept_stays.ensures (events.Remove c.args.number) (Remove c.args.number) c.args.self.now (record { alloc = c.args.self.now.alloc; machine = c.remove.new.self; stream = c.args.self.now.stream; dialogues = c.args.self.now.dialogues; tables = c.args.self.now.tables }) c.remove.result c.remove.ensures.takes (λ o s h. refl) (λ o s. refl) (λ s. refl) refl refl refl

pub returns-clause-situated : goal.returns-clause-situated
returns-clause-situated c = situated (events.Remove c.args.number) c.args.self.now (record { alloc = c.args.self.now.alloc; machine = c.remove.new.self; stream = c.args.self.now.stream; dialogues = c.args.self.now.dialogues; tables = c.args.self.now.tables }) c.remove.result (returns-clause-takes c) c.requires
