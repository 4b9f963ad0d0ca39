use Rattle.std.specs.Prelude.{slice_get}
use Rattle.std.proofs.Common.{List, Option, sym, subst, ◌∙◌, ap}
use Rattle.core_exchanges.specs.declared.exchange.Exchange.{Exchange}
use Rattle.core_exchanges.specs.Standing.{StandsThere}
use Rattle.core_exchanges.proofs.Standings.{stands_there}
use Rattle.core_exchanges.proofs.exchanges.Exchanges.get.Goals as goal

pub returns : goal.returns
returns c xs h = let v = c.args.self.now.items.items in
    subst (λ (o : Option Exchange). StandsThere o (slice_get xs c.args.index)) (sym (c.item_at.ensures ∙ ap (λ (es : List Exchange). slice_get es c.args.index) c.as_slice.ensures.value)) (stands_there v xs c.args.index h.each)
