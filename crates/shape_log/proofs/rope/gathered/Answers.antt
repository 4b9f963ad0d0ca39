use Rattle.std.proofs.Common.{◌∙◌, ◌-◌, ap, List, ℕ, arith, ◌++◌}
use Rattle.std.specs.Prelude.{slice_range}
use Rattle.shape_log.proofs.Parts.{gathers, gathered_last}
use Rattle.shape_log.proofs.rope.gathered.Goals as goal

pub loop-part-preserved : goal.loop-part-preserved
loop-part-preserved c =
    gathers c.args.parts.now c.args.start c.loop-part.part-index c.part-item.result c.args.from c.args.to c.loop-part.out.items c.put_between.new.out.items c.requires.placed c.loop-part-test.true c.part-item.is c.requires.order c.loop-part.invariant
    (c.in_ok-put_between.ensures ∙ ap (λ (zs : List ℕ). c.loop-part.out.items ++ slice_range zs (c.args.from - c.part-item.result.start) (c.args.to - c.part-item.result.start)) c.as_slice.ensures)

pub returns : goal.returns
returns c =
    c.in_ok-from_vec.ensures.ok ∙ gathered_last c.args.parts.now c.args.last.now c.args.start c.loop-part.part-index c.args.from c.args.to c.loop-part.out.items c.put_between-2.new.out.items c.requires.placed (omega (arith, c.loop-part-test.false)) c.requires.order c.loop-part.invariant c.in_ok-put_between-2.ensures
