use Rattle.std.proofs.Common.{rules, sym, ap, subst, ◌<◌}
use Rattle.front_lock.proofs.Keeps.{look_keeps, join_keeps, share_positive}
use Rattle.front_lock.proofs.steps.unite.Goals as goal

pub join_seat-requires : goal.join_seat-requires
join_seat-requires g c = (
  search rules,
  search rules,
  search rules,
  search rules,
  join_keeps _ _ _ _ _ _ _ c.requires.shares (ap (λ m. m.0.stage) c.requires.idle.0) (ap (λ m. m.0.stage) c.requires.idle.1),
)

pub load-requires : goal.load-requires
load-requires g c = (
  search rules,
  search rules,
  look_keeps _ _ _ _ _ (subst (λ m. 0 < m.0.part) (sym c.join_seat.ensures.2) (share_positive g.S.Stands.stands (g.S.Stands.fixed c.args.table.now.key.value) c.args.seat.now.me.0 c.args.other.me.0 c.requires.shares)),
)
