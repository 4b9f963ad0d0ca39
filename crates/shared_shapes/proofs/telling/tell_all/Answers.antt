use Rattle.std.proofs.Common.{rules, ◌≡◌, ◌<◌, length, get_or, ◌∙◌}
use Rattle.std.specs.Prelude.{IfSome}
use Rattle.std.specs.FinMap as fin
use Rattle.shared_shapes.specs.Asking.{Admits}
use Rattle.shared_shapes.proofs.Copying.{get_any}
use Rattle.shared_shapes.proofs.Told.{telling_start, telling_next, step_of}
use Rattle.shared_shapes.proofs.telling.tell_all.Goals as goal

pub loop-i-init : goal.loop-i-init
loop-i-init g c = telling_start c.args.seats.now c.args.told c.in_ok-numbers.numbers.items c.requires c.in_ok-numbers.ensures

pub loop-i-preserved : goal.loop-i-preserved
loop-i-preserved g c = let ns = c.in_ok-numbers.numbers.items in let i = c.loop-i.i in
    let x = c.index.result.now in let there : i < length ns = search rules in let at : x ≡ get_or ns i x = search rules in
    let tells : IfSome (fin.get c.loop-i.told x) (Admits c.loop-i.seats c.tell_at.new.seats x) = c.in_ok-tell_at.ensures.tells in
    telling_next c.args.seats.now c.args.told c.loop-i.seats c.tell_at.new.seats c.loop-i.told c.tell_at.new.told ns i x (at ∙ get_any ns i x 0 there) c.loop-i.invariant c.tell_at.ensures.rest
    (step_of c.loop-i.seats c.tell_at.new.seats c.loop-i.told x c.tell_at.ensures.none tells)
