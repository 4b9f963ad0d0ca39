use Rattle.std.proofs.Common.{◌≡◌, ◌∙◌, List, true, sym, subst}
use Rattle.core_events.specs.declared.out.Out.{Out}
use Rattle.core_law.specs.Clients.{has_room}
use Rattle.core_law.specs.Steps.{request}
use Rattle.core_exchanges.specs.Standing.{asked_of}
use Rattle.core_machine.specs.Opening.{IsRequested}
use Rattle.core_machine.proofs.Sending.{of_table, came_in}
use Rattle.core_law.specs.Run.{RequestCame, turn_of}
use Rattle.core_machine.proofs.Turning.{situated}
use Rattle.core_machine.proofs.machine.Machine.request.Goals as goal

pub returns-clause-takes : goal.returns-clause-takes
returns-clause-takes c o s h =
    let m = c.args.self.now in
    let asked = asked_of c.args.asked in
    let room : has_room s ≡ true = sym (c.has_room.ensures.room s h.exchanges) ∙ c.if-not-has_room.false in
    came_in o s m c.exchange.new.self c.args.target asked c.args.close c.in_ok-_index._index c.exchange.new.outs h (of_table o s m c.args.asked h c.requires.served) room
    (subst (λ (before : List Out). IsRequested o s (request o s true c.args.target asked c.args.close) m c.exchange.new.self before c.exchange.new.outs c.in_ok-_index._index) c.new-outs.ensures ((c.in_ok-_index.ensures).requested o s h))
    (c.in_ok-_index.ensures).spares

pub returns-clause-situated : goal.returns-clause-situated
returns-clause-situated c = let w = c.requires.situated in situated w.options (turn_of w.options w.situation (RequestCame c.args.target (asked_of c.args.asked) c.args.close)) _ _ (returns-clause-takes c w.options w.situation w.stands)
