use Rattle.std.proofs.Common.{[], ◌∷◌, Some, None, subst}
use Rattle.pg_wire.specs.declared.frames.Step.{Step}
use Rattle.pg_wire.specs.Cutting.{start, Stepped}
use Rattle.pg_wire.proofs.CuttingLaws.{later, leads_then, leads_step, moves_smaller, took_all, refuses}
use Rattle.pg_wire.proofs.frames.Frames.next.Goals as goal

pub returns-in-Ok-Open-clause-whole : goal.returns-in-Ok-Open-clause-whole
returns-in-Ok-Open-clause-whole c same fed taken t =
    let stepped = subst (λ (s : Step). Stepped c.loop-frame.self s c.step.new.self) c.in-Ok-Open.field-0-is c.in-Ok-Open.ensures.ok in
    took_all fed taken c.loop-frame.self (later fed taken c.args.self.now c.loop-frame.self t c.loop-frame.invariant) stepped.0

pub loop-frame-smaller : goal.loop-frame-smaller
loop-frame-smaller c = moves_smaller c.loop-frame.self c.step.new.self None (subst (λ (s : Step). Stepped c.loop-frame.self s c.step.new.self) c.in-Ok-Passed.field-0-is c.in-Ok-Passed.ensures.ok)

pub loop-frame-preserved : goal.loop-frame-preserved
loop-frame-preserved c = leads_then c.args.self.now c.loop-frame.self c.step.new.self [] [] c.loop-frame.invariant
    (leads_step c.loop-frame.self c.step.new.self None (subst (λ (s : Step). Stepped c.loop-frame.self s c.step.new.self) c.in-Ok-Passed.field-0-is c.in-Ok-Passed.ensures.ok))

pub returns-in-Ok-Given-clause-took : goal.returns-in-Ok-Given-clause-took
returns-in-Ok-Given-clause-took c fed taken t = leads_then (start fed) c.loop-frame.self c.step.new.self taken (c.in-Ok-Given.frame ∷ []) (later fed taken c.args.self.now c.loop-frame.self t c.loop-frame.invariant)
    (leads_step c.loop-frame.self c.step.new.self (Some c.in-Ok-Given.frame) (subst (λ (s : Step). Stepped c.loop-frame.self s c.step.new.self) c.in-Ok-Given.field-0-is c.in-Ok-Given.ensures.ok))

pub returns-in-Err-clause-refused : goal.returns-in-Err-clause-refused
returns-in-Err-clause-refused c = refuses c.in-Err.error c.args.self.now c.loop-frame.self c.loop-frame.invariant c.in-Err.ensures.err
