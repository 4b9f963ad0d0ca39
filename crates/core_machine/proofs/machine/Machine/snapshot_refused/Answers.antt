use Rattle.std.proofs.Common.{◌∙◌, Some, sym, subst, Option}
use Rattle.std.specs.Prelude.{IfSome}
use Rattle.shape_base.specs.declared.cause.Cause.TheVariants.{SnapshotFailed}
use Rattle.shape_base.specs.declared.definition.TableDef.{TableDef}
use Rattle.http_edge.specs.declared.error_code.ErrorCode.{ErrorCode}
use Rattle.core_law.specs.Run.{turn_of}
use Rattle.core_law.specs.Steps.{id_before, dropped, redefined}
use Rattle.core_server.specs.Snapshots.{code_for, definition_for}
use Rattle.core_server.specs.Standing.{IsNew}
use Rattle.core_server.specs.Standing as server
use Rattle.core_machine.specs.declared.answering.Refusal.{Refusal}
use Rattle.core_machine.specs.Awaiting.{IsAwaitingAnswered}
use Rattle.core_machine.specs.Replying.{refusal_of}
use Rattle.core_machine.proofs.NewDefinitions.{is_new}
use Rattle.core_machine.proofs.Removing.{next_by, refused_on, under_way_is}
use Rattle.core_machine.proofs.Snapping.{event_there, turn_refused, refused_halfway, none_refused}
use Rattle.core_machine.proofs.Turning.{situated}
use Rattle.core_machine.proofs.machine.Machine.snapshot_refused.Goals as goal

pub returns-in_default-clause-takes : goal.returns-in_default-clause-takes
returns-in_default-clause-takes c o s head rows event h r is = none_refused o s c.args.exchange head rows c.args.error event (sym c.in_default.is ∙ c.under_way.ensures o s h) is

pub refuse-requires-clause-situated : goal.refuse-requires-clause-situated
refuse-requires-clause-situated c = let w = c.requires in record { options = w.options; situation = w.situation.server; stands = w.stands.server }

pub refuse-requires-clause-new : goal.refuse-requires-clause-new
refuse-requires-clause-new c =
    let w = c.requires in
    let s = w.situation in
    let r = w.refused in
    let tables = c.args.self.now.server.tables in
    subst (λ (d : Option TableDef). IfSome d (IsNew tables)) (sym (c.in_ok-refused.ensures).definition)
    (is_new w.options s r.number r.shape w.head w.rows (id_before s.server.commits r.shape.before) c.args.error tables w.stands.start w.stands.reached r.at r.refused w.few w.stands.server.tables)

pub answer_awaiting-requires : goal.answer_awaiting-requires
answer_awaiting-requires c =
    let w = c.requires in
    let o = w.options in
    let s = w.situation in
    let h = w.stands in
    let m = c.args.self.now in
    let e = c.args.exchange in
    let n = c.in-Some.number in
    let error = c.args.error in
    let end = c.snapshots_end.ensures in
    under_way_is s e n (c.in-Some.ensures o s h) (λ owned starting. event_there o s m e n h owned starting end w.head w.rows error w.refused (λ event at turn.
    let stands = subst (λ (d : Option TableDef). server.Stands o (redefined (dropped s.server n SnapshotFailed) d) c.refuse.new.self) (c.in_ok-refused.ensures).definition (c.refuse.ensures o s.server h.server) in
    record { options = o; situation = next_by o s event; asked = s.exchanges; halfway = refused_halfway o s m e n h owned starting end w.head w.rows error w.refused event turn c.refuse.new.self m.exchanges stands h.exchanges }))

pub returns-clause-takes : goal.returns-clause-takes
returns-clause-takes c o s head rows event h r at =
    let m = c.args.self.now in
    let e = c.args.exchange in
    let n = c.in-Some.number in
    let error = c.args.error in
    let end = c.snapshots_end.ensures in
    let z = next_by o s event in
    let after = c.answer_awaiting.new.self in
    let outs = c.in_ok-answer_awaiting.field-0 in
    let answered = c.in_ok-answer_awaiting.ensures in
    let spares = answered.spares in
    let stands = subst (λ (d : Option TableDef). server.Stands o (redefined (dropped s.server n SnapshotFailed) d) c.refuse.new.self) (c.in_ok-refused.ensures).definition (c.refuse.ensures o s.server h.server) in
    under_way_is s e n (c.in-Some.ensures o s h) (λ owned starting.
    let turn = turn_refused o s m e n h owned starting end head rows error r event at in
    let half = refused_halfway o s m e n h owned starting end head rows error r event turn c.refuse.new.self m.exchanges stands h.exchanges in
    refused_on o s event e n (code_for error) (definition_for error) m after outs owned turn h
    (subst (λ v. server.Stands o (redefined (dropped s.server n SnapshotFailed) (definition_for error)) v) (sym answered.server) stands)
    (record { clients = spares.clients; asks = spares.asks; clock = spares.clock; hold = spares.hold }) answered.lasts
    (subst (λ (code : ErrorCode). IsAwaitingAnswered o z s.exchanges after n (refusal_of e (Some code)) outs) (c.in_ok-refused.ensures).code
    (subst (λ (r : Option Refusal). IsAwaitingAnswered o z s.exchanges after n r outs) c.refusal_at-refusal.ensures (answered.answered o z s.exchanges half))))

pub returns-clause-situated : goal.returns-clause-situated
returns-clause-situated c =
    let w = c.requires in
    let o = w.options in
    let s = w.situation in
    let h = w.stands in
    under_way_is s c.args.exchange c.in-Some.number (c.in-Some.ensures o s h) (λ owned starting. event_there o s c.args.self.now c.args.exchange c.in-Some.number h owned starting c.snapshots_end.ensures w.head w.rows c.args.error w.refused (λ event at turn.
    situated o (turn_of o s event) _ _ (returns-clause-takes c o s w.head w.rows event h w.refused at)))
