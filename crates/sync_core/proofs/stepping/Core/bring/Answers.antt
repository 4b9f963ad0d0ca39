use Rattle.std.proofs.Common.{Ok, subst}
use Rattle.core_law.specs.Run.{Committed, turn_of}
use Rattle.core_machine.specs.Turns as machine_turns
use Rattle.sync_core.proofs.stepping.Core.bring.Goals as goal

pub returns-clause-takes : goal.returns-clause-takes
returns-clause-takes c = λ o s h.
    let g = subst (λ txs. machine_turns.TurnsTo o (turn_of o s (Committed txs)) (Ok c.in_ok-replies.replies) c.commit.new.self) c.as_slice.ensures (c.in_ok-replies.ensures.takes o s h) in
    record { rest = c.in_ok-replies.replies; is = c.in_ok-with_refusal.ensures; are = g.0; stands = g.1 }
