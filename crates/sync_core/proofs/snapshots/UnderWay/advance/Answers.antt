use Rattle.std.proofs.Common.{ℕ, List, [], ◌++◌, ◌∙◌, Option, Some, sym, ap, subst}
use Rattle.std.specs.Prelude.{Result, Ok, IfOk, IfErr, ◌≡◌, ◌⊎◌}
use Rattle.std.proofs.lemmas.Result.{IfOk-weaker}
use Rattle.pg_dialogue.specs.declared.snap_reader.SnapStep.{SnapStep}
use Rattle.pg_dialogue.specs.declared.wire_error.WireError.{WireError}
use Rattle.pg_dialogue.specs.declared.wire_error.WireError.TheVariants as wires
use Rattle.pg_dialogue.specs.Course.{Refused, course_of}
use Rattle.pg_dialogue.specs.Reached.{Reached}
use Rattle.pg_dialogue.specs.Pieces.{Given, with_step, with_answer, MayCome, IsFront, Took, as_given}
use Rattle.sync_core.proofs.Snapping.{took_rows, step_stands, waits_stands, ended_stands, refused_here}
use Rattle.sync_core.proofs.snapshots.UnderWay.advance.Goals as goal

pub returns-in-Ok-Some : goal.returns-in-Ok-Some
returns-in-Ok-Some c o s fed st u =
    let step = c.in-Ok-Some.step in
    let is = c.in-Ok-Some.is ∙ ap Ok c.in-Ok-Some.field-0-is in
    let took = subst (λ (a : Result (Option SnapStep) WireError). Took fed (with_answer u.given a) c.next.new.self) is (c.next.ensures.took fed u.given u.took) in
    let front = subst (λ (a : Result (Option SnapStep) WireError). IsFront (with_answer u.given a) (course_of (fed ++ []))) is (c.next.ensures.front fed [] u.given u.took) in
    let may = subst (λ (a : Result (Option SnapStep) WireError). IfOk a (λ step. (f : List ℕ) (g : Given) → Took f g c.args.self.now.reader → MayCome g step)) is c.next.ensures.order in
    IfOk-weaker c.step.result _ _
    (λ progress h. step_stands o s c.args.exchange fed u.given step progress c.step.new.self front (subst (λ (x : Reached). Took fed (with_step u.given (Some step)) x) (sym c.step.ensures.reader) took) u.goes h)
    (c.step.ensures.stepped o s u.given st (may fed u.given u.took) (took_rows fed u.given c.args.self.now.reader u.took) u.taken)

pub returns-in-Ok-None : goal.returns-in-Ok-None
returns-in-Ok-None c o s fed st u =
    let is = c.in-Ok-None.is ∙ ap Ok c.in-Ok-None.field-0-is in
    waits_stands o s c.args.exchange fed u.given (record { reader = c.next.new.self; taken = c.args.self.now.taken })
    (subst (λ (a : Result (Option SnapStep) WireError). Took fed (with_answer u.given a) c.next.new.self) is (c.next.ensures.took fed u.given u.took)) u.goes u.taken (c.next.ensures.whole is fed u.given u.took)

pub returns-in_ok-fault-in-Err : goal.returns-in_ok-fault-in-Err
returns-in_ok-fault-in-Err c o s fed st u =
    let refused = subst (λ (a : Result (Option SnapStep) WireError). IfErr a (λ e. (e ≡ wires.OutOfMemory) ⊎ ((f more : List ℕ) (g : Given) → Took f g c.args.self.now.reader → course_of (f ++ more) ≡ as_given g (Refused e)))) c.in-Err.is c.next.ensures.refused in
    ended_stands o s c.args.exchange fed u.given c.in-Err.error c.in_ok-fault-in-Err.fault (record { reader = c.next.new.self; taken = c.args.self.now.taken }) c.in_ok-fault-in-Err.ensures.memory c.in_ok-fault-in-Err.ensures.fault
    (refused_here fed u.given c.args.self.now.reader c.in-Err.error u.took refused)
