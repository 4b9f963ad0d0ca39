use Rattle.std.proofs.lemmas.Result.{err_from_is_err_and}
use Rattle.pg_dialogue.proofs.Rows.{row_stops_at, ready_stops_at, is_row}
use Rattle.pg_dialogue.proofs.dialogue.Dialogue.next_row.Goals as goal

pub returns-in_err-meet-clause-read : goal.returns-in_err-meet-clause-read
returns-in_err-meet-clause-read g c t =
    let p = err_from_is_err_and c.from_residual.result c.from_residual.ensures.1 in
    rw (p.1, p.2) (row_stops_at c.self.inside.inbox.place c.args.self.now (g.P.Traffic.left c.args.link.now) c.nothing-told.result c.in_err-meet.field-0.0 c.self.view_is c.nothing-told.ensures (c.in_err-meet.ensures.read t))

pub returns-in-Some-clause-read : goal.returns-in-Some-clause-read
returns-in-Some-clause-read g c t =
    is_row c.self.inside.inbox.place c.args.self.now (g.P.Traffic.left c.args.link.now) c.nothing-told.result c.meet.new.told c.in-Some.row _ _ c.self.view_is c.nothing-told.ensures (c.in_ok-meet.ensures.read t) c.in-Some.is

pub returns-in_err-meet-in-None-clause-read : goal.returns-in_err-meet-in-None-clause-read
returns-in_err-meet-in-None-clause-read g c t =
    let p = err_from_is_err_and c.from_residual-in_err-meet-in-None.result c.from_residual-in_err-meet-in-None.ensures.1 in
    rw (p.1, p.2) (ready_stops_at c.self.inside.inbox.place c.args.self.now (g.P.Traffic.left c.args.link.now) c.nothing-told.result c.meet.new.told _ _ c.in_err-meet-in-None.field-0.0 c.self.view_is c.nothing-told.ensures (c.in_ok-meet.ensures.read t) c.in-None.is (c.in_err-meet-in-None.ensures.read t))
