use Rattle.std.proofs.Common.{◌∙◌, ap, sym, subst}
use Rattle.shape_base.specs.declared.limits.Limits.{Limits}
use Rattle.core_law.specs.Run.{SnapshotCame, turn_of}
use Rattle.core_server.specs.Snapshots.{snapshot_of}
use Rattle.core_server.specs.Standing as server
use Rattle.core_machine.proofs.Removing.{next_by, under_way_is}
use Rattle.core_machine.proofs.Snapping.{standing_is, reads_as, at_begun, after_came, came_halfway, came_on, none_comes}
use Rattle.core_machine.proofs.Turning.{situated}
use Rattle.core_machine.proofs.machine.Machine.snapshot.Goals as goal

pub returns-in_default-clause-takes : goal.returns-in_default-clause-takes
returns-in_default-clause-takes c o s head rows h b = none_comes o s c.args.exchange (snapshot_of head c.args.snap.vis rows) (sym c.in_default.is ∙ c.under_way.ensures o s h)

pub snapshot-requires-clause-starting : goal.snapshot-requires-clause-starting
snapshot-requires-clause-starting c =
    let w = c.requires in
    let n = c.in-Some.number in
    under_way_is w.situation c.args.exchange n (c.in-Some.ensures w.options w.situation w.stands) (λ owned starting.
    standing_is w.options w.situation.server c.args.self.now.server n w.stands.server starting)

pub snapshot-requires-clause-situated : goal.snapshot-requires-clause-situated
snapshot-requires-clause-situated c = let w = c.requires in record { options = w.options; situation = w.situation.server; stands = w.stands.server }

pub snapshot-requires-clause-reads : goal.snapshot-requires-clause-reads
snapshot-requires-clause-reads c =
    let w = c.requires in
    let o = w.options in
    let s = w.situation in
    let n = c.in-Some.number in
    let m = c.args.self.now in
    under_way_is s c.args.exchange n (c.in-Some.ensures o s w.stands) (λ owned starting.
    reads_as o s.server m.server n w.stands.server starting w.begun.shape w.head w.rows c.args.snap (at_begun o s m c.args.exchange n w.stands owned starting c.snapshots_come.ensures w.head w.rows c.args.snap w.begun) w.begun.under_way)

pub snapshot-requires-clause-least : goal.snapshot-requires-clause-least
snapshot-requires-clause-least c = let w = c.requires in w.begun.under_way.least ∙ ap (λ (l : Limits). l.chunk) (sym w.stands.server.limits)

pub answer_awaiting-requires : goal.answer_awaiting-requires
answer_awaiting-requires c =
    let w = c.requires in
    let o = w.options in
    let s = w.situation in
    let h = w.stands in
    let m = c.args.self.now in
    let e = c.args.exchange in
    let n = c.in-Some.number in
    let snap = c.args.snap in
    under_way_is s e n (c.in-Some.ensures o s h) (λ owned starting.
    let at = at_begun o s m e n h owned starting c.snapshots_come.ensures w.head w.rows snap w.begun in
    record {
      options = o;
      situation = next_by o s (SnapshotCame e (snapshot_of w.head snap.vis w.rows));
      asked = s.exchanges;
      halfway = came_halfway o s m e n h owned starting c.snapshots_come.ensures w.head w.rows snap w.begun c.snapshot.new.self m.exchanges
          ((c.in_ok-snapshot.ensures).started o s.server w.begun.shape w.head w.rows h.server at w.begun.under_way).stands h.exchanges;
    })

pub returns-clause-takes : goal.returns-clause-takes
returns-clause-takes c o s head rows h b =
    let m = c.args.self.now in
    let e = c.args.exchange in
    let n = c.in-Some.number in
    let snap = c.args.snap in
    let spares = (c.in_ok-answer_awaiting.ensures).spares in
    under_way_is s e n (c.in-Some.ensures o s h) (λ owned starting.
    let come = c.snapshots_come.ensures in
    let at = at_begun o s m e n h owned starting come head rows snap b in
    let stands = ((c.in_ok-snapshot.ensures).started o s.server b.shape head rows h.server at b.under_way).stands in
    came_on o s m e n h owned starting come head rows snap b c.answer_awaiting.new.self c.in_ok-answer_awaiting.field-0
    (subst (λ v. server.Stands o (after_came o s m e n h owned starting come head rows snap b) v) (sym (c.in_ok-answer_awaiting.ensures).server) stands)
    (record { clients = spares.clients; asks = spares.asks; clock = spares.clock; hold = spares.hold }) (c.in_ok-answer_awaiting.ensures).lasts
    ((c.in_ok-answer_awaiting.ensures).answered o (next_by o s (SnapshotCame e (snapshot_of head snap.vis rows))) s.exchanges
    (came_halfway o s m e n h owned starting come head rows snap b c.snapshot.new.self m.exchanges stands h.exchanges)))

pub returns-clause-situated : goal.returns-clause-situated
returns-clause-situated c = let w = c.requires in situated w.options (turn_of w.options w.situation (SnapshotCame c.args.exchange (snapshot_of w.head c.args.snap.vis w.rows))) _ _ (returns-clause-takes c w.options w.situation w.head w.rows w.stands w.begun)
