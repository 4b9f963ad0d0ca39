use Rattle.std.proofs.Common.{◌∙◌, not, sym, ap, arith}
use Rattle.shape_entries.proofs.Changes.{left_more, left_stops}
use Rattle.shape_entries.proofs.commit.changes_entries.Goals as goal

pub loop-j-preserved : goal.loop-j-preserved
loop-j-preserved g c =
    let s = g.T.RowTest.knows c.args.emitter.now.test in
    let e = c.in_ok-add_change in
    left_more s c.args.tx.now c.loop-j.j c.loop-j.written c.add_change.new.written c.at.result.now (omega arith) c.at.ensures c.loop-j.invariant (λ made writes. (e.ensures).kept made writes c.if-not-branch.false) (sym (ap not c.if-not-branch.false) ∙ (e.ensures).stops)

pub returns-then-not-branch-clause-stops : goal.returns-then-not-branch-clause-stops
returns-then-not-branch-clause-stops g c =
    let s = g.T.RowTest.knows c.args.emitter.now.test in
    left_stops s c.args.tx.now c.loop-j.j c.loop-j.written c.at.result.now (omega arith) c.at.ensures c.loop-j.invariant (sym (ap not c.if-not-branch.true) ∙ (c.in_ok-add_change.ensures).stops)
