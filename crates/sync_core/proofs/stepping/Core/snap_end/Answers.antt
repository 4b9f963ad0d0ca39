use Rattle.std.proofs.Common.{refl, subst}
use Rattle.core_events.specs.declared.event.Event.TheVariants as events
use Rattle.core_law.specs.Run.{SnapshotEnded}
use Rattle.core_machine.specs.Snapshots.{Ended}
use Rattle.core_machine.specs.Turns as machine_turns
use Rattle.sync_core.specs.declared.stepping.Core.{Core}
use Rattle.sync_core.specs.Reading.{Brings}
use Rattle.sync_core.specs.Run.{end_for}
use Rattle.sync_core.proofs.Moves.{reads_on, situated}
use Rattle.sync_core.proofs.Pieces.{ends_on}
use Rattle.sync_core.proofs.stepping.Core.snap_end.Goals as goal

pub returns-clause-takes : goal.returns-clause-takes
returns-clause-takes c =
    let e = events.SnapEnd c.args.exchange c.args.failed in
    let ended = SnapshotEnded c.args.exchange (end_for c.args.failed) in
    let new : Core = record { alloc = c.args.self.now.alloc; machine = c.snapshot_ended.new.self; stream = c.args.self.now.stream; dialogues = c.let_go.new.self; tables = c.args.self.now.tables } in
    let takes = subst (λ fault. machine_turns.Takes c.args.self.now.machine c.snapshot_ended.new.self (SnapshotEnded c.args.exchange fault) c.snapshot_ended.result) c.end_of.ensures c.snapshot_ended.ensures.takes in
    reads_on e (λ o s. Brings ended) c.args.self.now new c.snapshot_ended.result (λ o s h. refl) (λ o s h. takes o s.core h.machine)
    (λ o s h. ends_on c.kept_stays.ensures c.snapshots_end_once.ensures o s c.args.exchange c.args.self.now new h c.let_go.ensures.others e ended (Ended (end_for c.args.failed)) refl c.let_go.ensures.none) (λ o s. refl) refl refl

pub returns-clause-situated : goal.returns-clause-situated
returns-clause-situated c = situated (events.SnapEnd c.args.exchange c.args.failed) c.args.self.now
    (record { alloc = c.args.self.now.alloc; machine = c.snapshot_ended.new.self; stream = c.args.self.now.stream; dialogues = c.let_go.new.self; tables = c.args.self.now.tables }) c.snapshot_ended.result (returns-clause-takes c) c.requires
