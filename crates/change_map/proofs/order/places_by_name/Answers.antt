use Rattle.std.proofs.Common.{◌≡◌, ◌-◌, suc, arith, drop, subst}
use Rattle.std.specs.BTreeMap.{values}
use Rattle.shape_base.specs.Shape.{by_name}
use Rattle.change_map.proofs.Ordered.{placed}
use Rattle.change_map.proofs.order.places_by_name.Goals as goal

pub loop-left-preserved : goal.loop-left-preserved
loop-left-preserved c =
    let within = c.loop-left.invariant.within in
    let some = c.loop-left-test.true in
    let left : c.loop-left.left ≡ suc (c.loop-left.left - 1) = omega (arith, some) in
    let order = subst (λ n. values c.loop-left.named ≡ by_name c.args.definition.now (drop n c.args.selected.now)) left c.loop-left.invariant.order in
    let more = placed c.args.definition.now (λ k. k.now) c.args.selected.now (c.loop-left.left - 1) c.name_of.result c.loop-left.named.entries c.insert.new.self.entries (omega (arith, within, some)) c.requires.distinct c.name_of.ensures order c.loop-left.invariant.names c.in_ok-insert.ensures.entries in
    record { within = omega (arith, within); order = more.0; names = more.1 }
