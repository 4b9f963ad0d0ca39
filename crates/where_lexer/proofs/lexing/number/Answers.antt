use Rattle.std.proofs.Common.{◌≡◌, ◌*◌, ◌+◌, ◌-◌, ◌^◌, min, get_or, arith}
use Rattle.where_lexer.proofs.TokenLaws.{pass_at, number_step, number_done}
use Rattle.where_lexer.proofs.lexing.number.Goals as goal

pub overflow_sub-b : goal.overflow_sub-b
overflow_sub-b c = (pass_at c.args.bytes.now c.loop-b.b-index c.requires c.loop-b-test.true).0

pub loop-b-preserved : goal.loop-b-preserved
loop-b-preserved c =
    let m : c.saturating_add-n.result ≡ min (min (c.loop-b.n * 10) (2 ^ 64 - 1) + (get_or c.args.bytes.now c.loop-b.b-index 0 - 48)) (2 ^ 64 - 1) = omega (arith, c.saturating_mul.ensures, c.from.ensures, c.saturating_add-n.ensures) in
    number_step c.args.bytes.now c.loop-b.b-index c.loop-b.n c.saturating_add-n.result c.loop-b-test.true c.requires c.loop-b.invariant m

pub returns : goal.returns
returns c = number_done c.args.bytes.now c.loop-b.b-index c.loop-b.n c.loop-b-test.false c.loop-b.invariant
