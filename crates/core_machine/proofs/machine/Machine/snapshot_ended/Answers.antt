use Rattle.std.proofs.Common.{None, Some, sym, subst}
use Rattle.http_edge.specs.declared.error_code.ErrorCode.{ErrorCode}
use Rattle.core_law.specs.Steps as law
use Rattle.core_law.specs.Clients.{never}
use Rattle.core_law.specs.Run.{turn_of, SnapshotEnded}
use Rattle.core_server.specs.Standing as server
use Rattle.core_machine.specs.Awaiting.{IsAwaitingAnswered}
use Rattle.core_machine.specs.Faults.{fault_of}
use Rattle.core_machine.proofs.Removing.{next_by, halfway_next, refused_on, roles_refused, ended, ends, under_way_is}
use Rattle.core_machine.proofs.Turning.{situated}
use Rattle.core_machine.proofs.machine.Machine.snapshot_ended.Goals as goal

pub answer_awaiting-requires : goal.answer_awaiting-requires
answer_awaiting-requires c =
    let o = c.requires.options in
    let s = c.requires.situation in
    let h = c.requires.stands in
    let e = c.args.exchange in
    let n = c.in-Some.number in
    let f = fault_of c.args.fault in
    under_way_is s e n (c.in-Some.ensures o s h) (λ owned starting. record {
      options = o;
      situation = next_by o s (SnapshotEnded e f);
      asked = s.exchanges;
      halfway = halfway_next o s (ended o s e n f owned starting) (SnapshotEnded e f) never (ends o s e n f owned starting) h.start h.reached (roles_refused o s (SnapshotEnded e f) e n (law.code_of f) None) c.refuse.new.self c.args.self.now.exchanges (c.refuse.ensures o s.server h.server) h.exchanges;
    })

pub returns-clause-takes : goal.returns-clause-takes
returns-clause-takes c o s h =
    let e = c.args.exchange in
    let n = c.in-Some.number in
    let f = fault_of c.args.fault in
    let z = next_by o s (SnapshotEnded e f) in
    let spares = (c.in_ok-answer_awaiting.ensures).spares in
    under_way_is s e n (c.in-Some.ensures o s h) (λ owned starting.
    let half = halfway_next o s (ended o s e n f owned starting) (SnapshotEnded e f) never (ends o s e n f owned starting) h.start h.reached (roles_refused o s (SnapshotEnded e f) e n (law.code_of f) None) c.refuse.new.self c.args.self.now.exchanges (c.refuse.ensures o s.server h.server) h.exchanges in
    refused_on o s (SnapshotEnded e f) e n (law.code_of f) None c.args.self.now c.answer_awaiting.new.self c.in_ok-answer_awaiting.field-0 owned (ends o s e n f owned starting) h
    (subst (λ v. server.Stands o (ended o s e n f owned starting).server v) (sym (c.in_ok-answer_awaiting.ensures).server) (c.refuse.ensures o s.server h.server))
    (record { clients = spares.clients; asks = spares.asks; clock = spares.clock; hold = spares.hold }) (c.in_ok-answer_awaiting.ensures).lasts
    (subst (λ (code : ErrorCode). IsAwaitingAnswered o z s.exchanges c.answer_awaiting.new.self n (Some (record { index = e; code = code })) c.in_ok-answer_awaiting.field-0) c.code_of-code.ensures ((c.in_ok-answer_awaiting.ensures).answered o z s.exchanges half)))

pub returns-clause-situated : goal.returns-clause-situated
returns-clause-situated c = let w = c.requires in situated w.options (turn_of w.options w.situation (SnapshotEnded c.args.exchange (fault_of c.args.fault))) _ _ (returns-clause-takes c w.options w.situation w.stands)
