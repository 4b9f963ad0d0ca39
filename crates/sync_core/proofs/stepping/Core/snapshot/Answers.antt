use Rattle.std.proofs.Common.{refl, sym}
use Rattle.core_events.specs.declared.event.Event.TheVariants as events
use Rattle.core_machine.specs.Faults.{under_way}
use Rattle.sync_core.specs.declared.stepping.Core.{Core}
use Rattle.sync_core.specs.Run.{shape_of, snapshot_for}
use Rattle.sync_core.proofs.Finishing.{came_given, came_made}
use Rattle.sync_core.proofs.Moves.{reads_on, situated}
use Rattle.sync_core.proofs.Pieces.{came_on}
use Rattle.sync_core.proofs.stepping.Core.snapshot.Goals as goal

pub gather-requires : goal.gather-requires
gather-requires c =
    let w = c.requires in
    record { options = w.options; situation = w.situation.core; stands = w.stands.machine; owns = sym (c.if-not-owns_snapshot.ensures w.options w.situation.core w.stands.machine) }

pub finish-requires : goal.finish-requires
finish-requires c =
    let w = c.requires in
    came_given w.options w.situation.core c.args.self.now.machine c.args.exchange c.args.head.now c.args.rows c.in_ok-progress.progress w.stands.machine (sym (c.if-not-owns_snapshot.ensures w.options w.situation.core w.stands.machine))
    (c.in_ok-progress.ensures w.options w.situation.core w.stands.machine)

pub returns-clause-takes : goal.returns-clause-takes
returns-clause-takes c =
    let e = c.args.exchange in
    let head = c.args.head.now in
    let rows = c.args.rows in
    let old = c.args.self.now in
    let new : Core = record { alloc = c.args.self.now.alloc; machine = c.finish.new.machine; stream = c.args.self.now.stream; dialogues = c.let_go.new.self; tables = c.args.self.now.tables } in
    reads_on (events.Snapshot e head rows) (λ o s. snapshot_for o s.core e head rows (shape_of s.core (under_way s.core e))) old new c.finish.result (λ o s h. refl)
    (λ o s h. came_made o s.core e head rows c.in_ok-progress.progress c.args.self.now.machine c.finish.new.machine c.finish.result h.machine (sym (c.if-not-owns_snapshot.ensures o s.core h.machine)) (c.in_ok-progress.ensures o s.core h.machine) c.finish.ensures.takes)
    (λ o s h. came_on c.kept_stays.ensures c.snapshots_end_once.ensures c.snapshots_end.ensures o s e head rows c.in_ok-progress.progress old new h (sym (c.if-not-owns_snapshot.ensures o s.core h.machine)) c.let_go.ensures.others c.let_go.ensures.none (c.in_ok-progress.ensures o s.core h.machine))
    (λ o s. refl) refl refl

pub returns-clause-situated : goal.returns-clause-situated
returns-clause-situated c =
    situated (events.Snapshot c.args.exchange c.args.head.now c.args.rows) c.args.self.now
    (record { alloc = c.args.self.now.alloc; machine = c.finish.new.machine; stream = c.args.self.now.stream; dialogues = c.let_go.new.self; tables = c.args.self.now.tables }) c.finish.result (returns-clause-takes c) c.requires
