use Rattle.std.proofs.Common.{◌≡◌, sym, ◌∙◌, take, drop}
use Rattle.where_lexer.specs.Lexing.{run, past}
use Rattle.where_lexer.specs.Classes.{besides}
use Rattle.where_lexer.proofs.Quotes.{besides_true, besides_same}
use Rattle.where_lexer.proofs.Spans.{spanned_step, spanned_at, spanned_all}
use Rattle.where_lexer.proofs.lexing.until.Goals as goal
use Rattle.where_lexer.proofs.lexing.until.Goals.{then-loop-n-test+else-bytes-n, else-loop-n-test}

pub loop-n-preserved : goal.loop-n-preserved
loop-n-preserved c = spanned_step (besides c.args.quote) c.args.bytes.now c.loop-n.n c.loop-n.invariant c.loop-n-test.true (besides_true c.args.quote _ c.if-bytes-n.true)

pub returns-clause-front : goal.returns-clause-front
returns-clause-front c =
    let s : (run (besides c.args.quote) c.args.bytes.now ≡ take c.loop-n.n c.args.bytes.now) × (past (besides c.args.quote) c.args.bytes.now ≡ drop c.loop-n.n c.args.bytes.now) =
    elim c.loop-n-test.branch [
      | then-loop-n-test+else-bytes-n w ↦ spanned_at (besides c.args.quote) c.args.bytes.now c.loop-n.n c.loop-n.invariant w.loop-n-test.true (besides_same c.args.quote _ w.if-bytes-n.false)
      | else-loop-n-test w ↦ spanned_all (besides c.args.quote) c.args.bytes.now c.loop-n.n c.loop-n.invariant w.loop-n-test.false
    ] in
    c.split_at.ensures.front ∙ sym s.0

pub returns-clause-rest : goal.returns-clause-rest
returns-clause-rest c =
    let s : (run (besides c.args.quote) c.args.bytes.now ≡ take c.loop-n.n c.args.bytes.now) × (past (besides c.args.quote) c.args.bytes.now ≡ drop c.loop-n.n c.args.bytes.now) =
    elim c.loop-n-test.branch [
      | then-loop-n-test+else-bytes-n w ↦ spanned_at (besides c.args.quote) c.args.bytes.now c.loop-n.n c.loop-n.invariant w.loop-n-test.true (besides_same c.args.quote _ w.if-bytes-n.false)
      | else-loop-n-test w ↦ spanned_all (besides c.args.quote) c.args.bytes.now c.loop-n.n c.loop-n.invariant w.loop-n-test.false
    ] in
    c.split_at.ensures.back ∙ sym s.1
