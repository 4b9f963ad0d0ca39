use Rattle.std.proofs.Common.{rules, sym, ap, ◌∙◌, ◌∷◌, Some}
use Rattle.atomic_table.specs.Table.{rest}
use Rattle.front_lock.proofs.Keeps.{enter_keeps}
use Rattle.front_lock.proofs.steps.enter.Goals as goal

pub load-requires : goal.load-requires
load-requires g c = (search rules, search rules, enter_keeps _ _ _ _ c.args.ticket _ (ap (λ m. m.0.stage) c.requires.served) c.requires.shares)

pub exchange-slot-requires : goal.exchange-slot-requires
exchange-slot-requires g c = let did = c.load.ensures.2 c.args.ticket (ap (λ m. m.0.stage) c.requires.served) in let now = ap (λ m. m.1) did.4 in
    (search rules, (Some did.1, now ∙ ap (λ cs. (0, Some did.1) ∷ rest cs) (sym now)))
