use Rattle.std.proofs.Common.{◌≡◌, ◌∙◌, ◌++◌, ◌∷◌, [], true, refl, sym, ap, arith}
use Rattle.core_events.specs.declared.out.Out.TheVariants as outs
use Rattle.core_law.specs.Clients.{has_room}
use Rattle.core_machine.proofs.Exchanging.{cut_exchange, cuts}
use Rattle.core_law.specs.Run.{HeadCut, turn_of}
use Rattle.core_machine.proofs.Turning.{situated}
use Rattle.core_machine.proofs.machine.Machine.cut.Goals as goal

pub returns-clause-takes : goal.returns-clause-takes
returns-clause-takes c o s h =
    let yes : c.has_room.result ≡ true = grind (arith, c.if-not-has_room.false) in
    let room : has_room s ≡ true = sym (c.has_room.ensures.room s h.exchanges) ∙ yes in
    let pushed = (c.in_ok-index.ensures).ok s.exchanges (cut_exchange s) h.exchanges (record { outside = refl; target = refl; asked = refl; close = refl; moment = h.clock; role = refl; given = tt }) in
    cuts o s c.args.self.now _ c.in_ok-index.index _ h room pushed.0 pushed.1 ((c.in_ok-push.ensures).ok ∙ ap (λ xs. xs ++ outs.Cut c.in_ok-index.index ∷ []) c.new-outs.ensures) refl (record { clients = refl; asks = refl; clock = refl; hold = refl }) refl

pub returns-clause-situated : goal.returns-clause-situated
returns-clause-situated c = let w = c.requires in situated w.options (turn_of w.options w.situation HeadCut) _ _ (returns-clause-takes c w.options w.situation w.stands)
