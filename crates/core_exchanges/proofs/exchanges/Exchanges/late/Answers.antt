use Rattle.core_exchanges.proofs.Lateness.{late_places, ok_as}
use Rattle.core_exchanges.proofs.exchanges.Exchanges.late.Goals as goal

pub returns : goal.returns
returns c = ok_as c.late_front.result _ _ (λ places is o xs h rise same.
    late_places o c.args.now c.args.hold c.args.self.now.indexes c.args.self.now.items.items xs h.each h.unanswered c.late_front.ensures.ordered rise same places.items is) c.late_front.ensures.front
