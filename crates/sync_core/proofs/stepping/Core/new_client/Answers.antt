use Rattle.std.proofs.Common.{refl, subst}
use Rattle.core_events.specs.declared.event.Event.TheVariants as events
use Rattle.core_law.specs.Run.{Joined}
use Rattle.core_machine.specs.Firsts.{first_asked}
use Rattle.sync_core.specs.Reading.{Brings, ReadsQuery}
use Rattle.sync_core.specs.Coming.{joining_of}
use Rattle.sync_core.proofs.Moves.{lifts, situated}
use Rattle.sync_core.proofs.stepping.Core.new_client.Goals as goal

pub returns-in-Query-clause-takes : goal.returns-in-Query-clause-takes
returns-in-Query-clause-takes c =
    let pairs = c.args.pairs.now in
    let reads = subst (λ joining. ReadsQuery c.args.self.now.tables pairs (joining_of joining)) c.in-Query.is c.in_ok-query.ensures.reads in
    lifts c.kept_stays.ensures (events.NewClient pairs) (Joined c.in-Query.query (first_asked c.in-Query.first)) c.args.self.now (record { alloc = c.args.self.now.alloc; machine = c.join.new.self; stream = c.args.self.now.stream; dialogues = c.args.self.now.dialogues; tables = c.args.self.now.tables }) c.join.result c.join.ensures.takes
    (λ o s h. subst (λ tables. ReadsQuery tables pairs (Brings (Joined c.in-Query.query (first_asked c.in-Query.first)))) h.tables reads) (λ o s. refl) (λ s. refl) refl refl refl

pub returns-in-Query-clause-situated : goal.returns-in-Query-clause-situated
returns-in-Query-clause-situated c = situated (events.NewClient c.args.pairs.now) c.args.self.now (record { alloc = c.args.self.now.alloc; machine = c.join.new.self; stream = c.args.self.now.stream; dialogues = c.args.self.now.dialogues; tables = c.args.self.now.tables }) c.join.result (returns-in-Query-clause-takes c) c.requires
