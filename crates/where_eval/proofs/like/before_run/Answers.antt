use Rattle.std.proofs.Common.{sym, ap, ◌∙◌, arith, length}
use Rattle.std.specs.Str.{chars}
use Rattle.where_eval.proofs.Likes.{walked_one, at_run}
use Rattle.where_eval.proofs.like.before_run.Goals as goal

pub returns-then-is_run : goal.returns-then-is_run
returns-then-is_run c =
    (at_run c.args.pieces.now c.loop-piece.asked.now c.in-Some.others.now (chars c.args.text.now) (chars c.loop-piece.left.now) c.in-Some.piece.now c.loop-piece.invariant.0 c.in-Some.ensures.cases.0 (sym c.is_run.ensures ∙ c.if-is_run.true) c.loop-piece.invariant.1 c.loop-piece.invariant.2, c.loop-piece.invariant.3)

pub loop-piece-preserved : goal.loop-piece-preserved
loop-piece-preserved c =
    let fewer = ap length c.in-Some.ensures.cases.0 in
    let shorter = ap length c.in-Some-next_char.ensures.0 in (
      walked_one c.args.pieces.now c.loop-piece.asked.now c.in-Some.others.now (chars c.args.text.now) (chars c.loop-piece.left.now) (chars c.in-Some-next_char.rest.now) c.in-Some.piece.now c.in-Some-next_char.c
          c.loop-piece.invariant.0 c.in-Some.ensures.cases.0 c.in-Some-next_char.ensures.0 (sym c.takes.ensures ∙ c.if-not-takes.false),
      omega (arith, fewer, c.loop-piece.invariant.1),
      omega (arith, shorter, c.loop-piece.invariant.2),
      c.in-Some-next_char.ensures.1,
    )
