use Rattle.std.proofs.Common.{◌<◌, arith}
use Rattle.std.proofs.lemmas.Option.{slice_get_read}
use Rattle.core_clients.proofs.Takings.{takes_reply, no_taker, loses_reply, at_error}
use Rattle.core_clients.proofs.clients.Clients.take.Goals as goal

pub returns-then-place-len-clause-takes : goal.returns-then-place-len-clause-takes
returns-then-place-len-clause-takes c customers h stands heard =
    let v = c.args.self.now.followers in
    let whole = v.ok.0 in
    no_taker v.items c.args.client (omega arith) customers h stands

pub returns-in_err-received-clause-loses : goal.returns-in_err-received-clause-loses
returns-in_err-received-clause-loses c =
    let v = c.args.self.now.followers in
    let below : c.args.client < v.len = omega arith in
    let is = slice_get_read v.items v.len c.args.client c.index_mut.result.now v.ok.0 below c.index_mut.ensures.value in
    at_error c.from_residual.result _ (loses_reply v.items c.args.client c.args.reply.now c.index_mut.result.now c.take.new.self is (record { lost = c.in_err-received.ensures.lost; query = c.in_err-received.ensures.query; waiting = c.in_err-received.ensures.waits }))

pub returns-clause-takes : goal.returns-clause-takes
returns-clause-takes c =
    let v = c.args.self.now.followers in
    let below : c.args.client < v.len = omega arith in
    let is = slice_get_read v.items v.len c.args.client c.index_mut.result.now v.ok.0 below c.index_mut.ensures.value in
    takes_reply v.items c.args.client c.args.reply.now c.index_mut.result.now c.take.new.self c.in_ok-received.received is (record { took = c.in_ok-received.ensures.took; query = c.in_ok-received.ensures.query; waiting = c.in_ok-received.ensures.forgets })
