use Rattle.std.proofs.Common.{◌≡◌, ◌<◌, ◌∙◌, sym, arith, length}
use Rattle.shape_model.specs.Breaks.{IsGoodTo}
use Rattle.shape_model.proofs.Breaking.{broken_base, stands_first, stands_next, broken_step, good_all}
use Rattle.shape_model.proofs.good.good_history.Goals as goal

pub returns-then-not-is_whole-clause-bad : goal.returns-then-not-is_whole-clause-bad
returns-then-not-is_whole-clause-bad c = broken_base c.args.history.now (sym c.is_whole.ensures ∙ c.if-not-is_whole.true)

pub loop-table-init : goal.loop-table-init
loop-table-init c = stands_first c.args.history.now c.len-tables.result c.ordered_steps-good.result c.len-tables.ensures c.ordered_steps-good.ensures.bound c.ordered_steps-good.ensures.good c.ordered_steps-good.ensures.broken

pub loop-table-preserved : goal.loop-table-preserved
loop-table-preserved c =
    let to : IsGoodTo c.args.history.now c.loop-table.table c.loop-table.good c.in-Some.count = rw c.in-Some.is at c.in_ok-good_table.ensures in
    stands_next c.args.history.now c.loop-table.table c.loop-table.good c.in-Some.count c.loop-table.invariant to

pub returns-then-good-len-clause-bad : goal.returns-then-good-len-clause-bad
returns-then-good-len-clause-bad c =
    let all : c.loop-table.table ≡ length c.args.history.now.tables = omega arith in
    let lt : c.loop-table.good < length c.args.history.now.steps = omega arith in
    broken_step c.args.history.now c.loop-table.table c.loop-table.good all (sym c.is_whole.ensures ∙ c.if-not-is_whole.false) c.loop-table.invariant lt

pub returns-clause-good : goal.returns-clause-good
returns-clause-good c =
    let all : c.loop-table.table ≡ length c.args.history.now.tables = omega arith in
    good_all c.args.history.now c.loop-table.table c.loop-table.good all (sym c.is_whole.ensures ∙ c.if-not-is_whole.false) c.loop-table.invariant (λ lt. absurd (omega (arith, lt)))
