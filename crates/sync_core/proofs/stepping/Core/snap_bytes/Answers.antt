use Rattle.std.proofs.Common.{[], ◌∷◌, ◌++◌, refl, sym}
use Rattle.pg_dialogue.specs.Course.{course_of}
use Rattle.core_events.specs.declared.event.Event.TheVariants as events
use Rattle.sync_core.specs.declared.stepping.Core.{Core}
use Rattle.sync_core.specs.Run.{said_to}
use Rattle.sync_core.proofs.Moves.{reads_on, situated}
use Rattle.sync_core.proofs.Pieces.{piece_read, received_on}
use Rattle.sync_core.proofs.stepping.Core.snap_bytes.Goals as goal

pub receive-requires : goal.receive-requires
receive-requires c = record { options = c.requires.options; situation = c.requires.situation.core; stands = c.requires.stands.machine; owns = sym (c.if-not-owns_snapshot.ensures c.requires.options c.requires.situation.core c.requires.stands.machine) }

pub finish-requires : goal.finish-requires
finish-requires c =
    let o = c.requires.options in
    let s = c.requires.situation in
    let n = c.args.exchange in
    let h = c.requires.stands in
    let owns = sym (c.if-not-owns_snapshot.ensures o s.core h.machine) in
    record { options = o; situation = s.core; stands = h.machine; owns = owns; course = course_of (said_to n (s.pieces ++ (n, c.args.bytes.now) ∷ [])); stood = (c.in_ok-progress.ensures.received o s.core s.pieces h.machine owns h.kept).stood }

pub returns-clause-takes : goal.returns-clause-takes
returns-clause-takes c =
    let n = c.args.exchange in
    let bytes = c.args.bytes.now in
    let old = c.args.self.now in
    let new : Core = record { alloc = c.args.self.now.alloc; machine = c.finish.new.machine; stream = c.args.self.now.stream; dialogues = c.receive.new.self; tables = c.args.self.now.tables } in
    reads_on (events.SnapBytes n bytes) (piece_read n bytes) old new c.finish.result (λ o s h. refl)
    (λ o s h. let owns = sym (c.if-not-owns_snapshot.ensures o s.core h.machine) in
    c.finish.ensures.takes o s.core (course_of (said_to n (s.pieces ++ (n, bytes) ∷ []))) h.machine owns (c.in_ok-progress.ensures.received o s.core s.pieces h.machine owns h.kept).stood)
    (λ o s h. let owns = sym (c.if-not-owns_snapshot.ensures o s.core h.machine) in
    received_on c.kept_stays.ensures c.snapshots_end_once.ensures c.exchanges_stay.ensures c.snapshots_end.ensures o s n bytes c.in_ok-progress.progress old new h owns c.in_ok-progress.ensures.others (c.in_ok-progress.ensures.received o s.core s.pieces h.machine owns h.kept))
    (λ o s. refl) refl refl

pub returns-clause-situated : goal.returns-clause-situated
returns-clause-situated c = situated (events.SnapBytes c.args.exchange c.args.bytes.now) c.args.self.now
    (record { alloc = c.args.self.now.alloc; machine = c.finish.new.machine; stream = c.args.self.now.stream; dialogues = c.receive.new.self; tables = c.args.self.now.tables }) c.finish.result (returns-clause-takes c) c.requires
