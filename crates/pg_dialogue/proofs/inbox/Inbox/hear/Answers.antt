use Rattle.std.proofs.Common.{◌∙◌, arith}
use Rattle.std.proofs.lemmas.Result.{err_from_is_err_and}
use Rattle.pg_dialogue.proofs.Filling.{takes_then}
use Rattle.pg_dialogue.proofs.Steps.{next_item, no_item}
use Rattle.pg_dialogue.proofs.Talking.{answered_step, answered_stops, answered_all}
use Rattle.pg_dialogue.proofs.inbox.Inbox.hear.Goals as goal

pub returns-in_err-meet-clause-read : goal.returns-in_err-meet-clause-read
returns-in_err-meet-clause-read g c t =
    let p = err_from_is_err_and c.from_residual.result c.from_residual.ensures.1 in
    rw (p.1, p.2) (answered_stops _ _ _ c.wanted.told _ _ _ c.in_err-meet.field-0.0 (next_item c.args.wanted.now c.wanted.next-index _ (omega arith)) (c.wanted.invariant.same t) (c.in_err-meet.ensures.read t))

pub wanted-preserved : goal.wanted-preserved
wanted-preserved g c = record {
  took = λ t. takes_then (c.wanted.invariant.took t) (c.meet.ensures.took t);
  same = λ t. answered_step _ _ _ c.wanted.told c.meet.new.told _ _ _ _ _ (next_item c.args.wanted.now c.wanted.next-index _ (omega arith)) (c.wanted.invariant.same t) (c.in_ok-meet.ensures.read t);
  later = omega (arith, c.wanted.invariant.later, c.meet.ensures.later);
  written = c.meet.ensures.written ∙ c.wanted.invariant.written;
  writes = c.meet.ensures.writes ∙ c.wanted.invariant.writes;
}

pub returns-clause-read : goal.returns-clause-read
returns-clause-read g c t = answered_all _ c.wanted.told _ _ _ (no_item c.args.wanted.now c.wanted.next-index (omega arith)) (c.wanted.invariant.same t)
