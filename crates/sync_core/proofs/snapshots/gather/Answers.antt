use Rattle.std.proofs.Common.{◌∙◌, sym}
use Rattle.std.proofs.lemmas.List.{nil_from_length}
use Rattle.sync_core.proofs.Snapping.{gathers, gathers_more, gathered_all}
use Rattle.sync_core.proofs.snapshots.gather.Goals as goal

pub loop-row-init : goal.loop-row-init
loop-row-init c o s h =
    gathers o s c.args.exchange c.args.head.now c.args.rows c.into_iter-row-iterator.result.rest.items c.in_ok-taken.taken (c.into_iter-row-iterator.ensures.into_iter_gives.0 ∙ c.into_vec-row-items.ensures) (c.in_ok-taken.ensures o s h)

pub loop-row-preserved : goal.loop-row-preserved
loop-row-preserved c o s h =
    gathers_more o s c.args.exchange c.args.head.now c.args.rows c.loop-row.row-iterator.rest.items c.next.new.self.rest.items c.in-Some.row c.loop-row.taken c.in_ok-taken-2.taken c.in-Some.ensures.steps.0 (c.loop-row.invariant o s h)
    (λ rows t. c.in_ok-taken-2.ensures o s c.args.exchange c.args.head.now rows t)

pub returns : goal.returns
returns c o s h =
    let left = c.loop-row.row-iterator.rest in
    gathered_all o s c.args.exchange c.args.head.now c.args.rows left.items c.loop-row.taken c.whole.result (nil_from_length left.items (sym left.ok.0 ∙ c.in-None.ensures.steps.0)) (c.loop-row.invariant o s h)
    (λ rows t. c.whole.ensures o s c.args.exchange c.args.head.now rows t)
