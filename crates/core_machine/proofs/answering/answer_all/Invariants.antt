use Rattle.std.proofs.Common.{List, drop}
use Rattle.core_law.specs.Situation as law
use Rattle.core_law.specs.Situation.{Options}
use Rattle.core_machine.specs.Answering.{Halfway, CanAnswer}
use Rattle.core_machine.proofs.Answers.{GoneOn}
use Rattle.core_machine.proofs.answering.answer_all.Given as goal

-- those in the places so far were answered
abbrev pub invariant-loop-index : goal.invariant-loop-index
invariant-loop-index l = record {
  can : CanAnswer l.server l.exchanges;
  gone : (o : Options) (s : law.Situation) (xs : List law.Exchange) → Halfway o s xs l.server l.fn.exchanges → GoneOn o s xs l.server l.refusal l.late l.fn.places (drop l.index-index l.fn.places) l.exchanges l.fn.outs l.outs;
}
