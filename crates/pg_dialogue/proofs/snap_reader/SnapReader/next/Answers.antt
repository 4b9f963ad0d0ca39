use Rattle.std.proofs.Common.{Option, Some, None, subst}
use Rattle.pg_dialogue.specs.declared.snap_reader.Turn.{Turn}
use Rattle.pg_dialogue.specs.declared.snap_reader.Turn.TheVariants.{Moved}
use Rattle.pg_dialogue.specs.declared.snap_reader.SnapStep.{SnapStep}
use Rattle.pg_dialogue.specs.Pieces.{with_step, Stepped}
use Rattle.pg_dialogue.proofs.Taking.{took_then, took_front, took_all, leads_then}
use Rattle.pg_dialogue.proofs.snap_reader.SnapReader.next.Goals as goal

pub returns-in-Ok-Open-clause-front : goal.returns-in-Ok-Open-clause-front
returns-in-Ok-Open-clause-front c fed more given t = took_front fed more given c.args.self.now t

pub returns-in-Ok-Open-clause-whole : goal.returns-in-Ok-Open-clause-whole
returns-in-Ok-Open-clause-whole c same fed given t =
    let stepped = subst (λ (x : Turn). Stepped c.messages.self x c.step.new.self) c.in-Ok-Open.field-0-is c.in-Ok-Open.ensures.ok in
    took_all fed given c.messages.self (took_then fed given c.args.self.now c.messages.self None t c.messages.invariant) stepped.0

pub returns-in-Ok-Moved-Some-clause-front : goal.returns-in-Ok-Moved-Some-clause-front
returns-in-Ok-Moved-Some-clause-front c fed more given t =
    let stepped : Stepped c.messages.self (Moved (Some c.in-Ok-Moved-Some.step)) c.step.new.self
    = subst (λ (x : Option SnapStep). Stepped c.messages.self (Moved x) c.step.new.self) c.in-Ok-Moved-Some.field-0-0-is (subst (λ (x : Turn). Stepped c.messages.self x c.step.new.self) c.in-Ok-Moved-Some.field-0-is c.in-Ok-Moved-Some.ensures.ok) in
    took_front fed more (with_step given (Some c.in-Ok-Moved-Some.step)) c.step.new.self
    (took_then fed given c.args.self.now c.step.new.self (Some c.in-Ok-Moved-Some.step) t (leads_then c.args.self.now c.messages.self c.step.new.self (Some c.in-Ok-Moved-Some.step) c.messages.invariant stepped.0))

pub returns-in-Err-clause-front : goal.returns-in-Err-clause-front
returns-in-Err-clause-front c fed more given t = took_front fed more given c.args.self.now t
