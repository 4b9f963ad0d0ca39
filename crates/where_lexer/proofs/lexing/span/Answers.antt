use Rattle.std.proofs.Common.{◌≡◌, sym, ◌∙◌, take, drop}
use Rattle.where_lexer.specs.Lexing.{run, past}
use Rattle.where_lexer.specs.Classes.{passes}
use Rattle.where_lexer.proofs.Spans.{spanned_step, spanned_at, spanned_all}
use Rattle.where_lexer.proofs.lexing.span.Goals as goal
use Rattle.where_lexer.proofs.lexing.span.Goals.{then-loop-n-test+else-passes, else-loop-n-test}

pub loop-n-preserved : goal.loop-n-preserved
loop-n-preserved c = spanned_step (passes c.args.class) c.args.bytes.now c.loop-n.n c.loop-n.invariant c.loop-n-test.true (sym c.passes.ensures ∙ c.if-passes.true)

pub returns-clause-front : goal.returns-clause-front
returns-clause-front c =
    let s : (run (passes c.args.class) c.args.bytes.now ≡ take c.loop-n.n c.args.bytes.now) × (past (passes c.args.class) c.args.bytes.now ≡ drop c.loop-n.n c.args.bytes.now) =
    elim c.loop-n-test.branch [
      | then-loop-n-test+else-passes w ↦ spanned_at (passes c.args.class) c.args.bytes.now c.loop-n.n c.loop-n.invariant w.loop-n-test.true (sym w.passes.ensures ∙ w.if-passes.false)
      | else-loop-n-test w ↦ spanned_all (passes c.args.class) c.args.bytes.now c.loop-n.n c.loop-n.invariant w.loop-n-test.false
    ] in
    c.split_at.ensures.front ∙ sym s.0

pub returns-clause-rest : goal.returns-clause-rest
returns-clause-rest c =
    let s : (run (passes c.args.class) c.args.bytes.now ≡ take c.loop-n.n c.args.bytes.now) × (past (passes c.args.class) c.args.bytes.now ≡ drop c.loop-n.n c.args.bytes.now) =
    elim c.loop-n-test.branch [
      | then-loop-n-test+else-passes w ↦ spanned_at (passes c.args.class) c.args.bytes.now c.loop-n.n c.loop-n.invariant w.loop-n-test.true (sym w.passes.ensures ∙ w.if-passes.false)
      | else-loop-n-test w ↦ spanned_all (passes c.args.class) c.args.bytes.now c.loop-n.n c.loop-n.invariant w.loop-n-test.false
    ] in
    c.split_at.ensures.back ∙ sym s.1
