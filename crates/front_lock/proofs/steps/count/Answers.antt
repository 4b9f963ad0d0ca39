use Rattle.std.proofs.Common.{rules, sym, ap, ◌∙◌, subst, ◌≤◌, Bool, ◌++◌, length}
use Rattle.front_lock.specs.Rule.{added, mine_of}
use Rattle.front_lock.proofs.Keeps.{count_keeps, grown_mine, grown_short}
use Rattle.front_lock.proofs.steps.count.Goals as goal

pub fetch_add-requires : goal.fetch_add-requires
fetch_add-requires g c = (
  search rules,
  search rules,
  count_keeps _ _ _ _ c.args.ticket _ c.requires.stands.0 _ (c.requires.event c.if-adds.true) c.requires.noted c.requires.shares
      (subst (λ (b : Bool). g.S.Stands.stands c.requires.stands.0 c.args.seat.now.me.0.fixed.value 0 (c.args.seat.now.me.0.seen ++ added b g.A.Adds.event)) c.if-adds.true c.requires.stands.1),
)

pub returns-then-adds-clause-mine : goal.returns-then-adds-clause-mine
returns-then-adds-clause-mine g c = ap (λ m. mine_of m.0) c.fetch_add.ensures.2
    ∙ (grown_mine g.A.Adds.event c.args.seat.now.me.0.own c.args.seat.now.me.0.seen (c.requires.event c.if-adds.true) ∙ ap (λ (b : Bool). mine_of c.args.seat.now.me.0 ++ added b g.A.Adds.event) (sym c.if-adds.true))

pub returns-then-adds-clause-short : goal.returns-then-adds-clause-short
returns-then-adds-clause-short g c = subst (λ m. length m.0.own ≤ length m.0.seen) (sym c.fetch_add.ensures.2) (grown_short g.A.Adds.event c.args.seat.now.me.0.own c.args.seat.now.me.0.seen (c.requires.event c.if-adds.true))
