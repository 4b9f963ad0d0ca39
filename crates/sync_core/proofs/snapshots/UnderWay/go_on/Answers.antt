use Rattle.std.proofs.Common.{Option, subst}
use Rattle.sync_core.specs.declared.snapshots.Progress.{Progress}
use Rattle.sync_core.specs.UnderWay.{GoesOn, WentOn}
use Rattle.sync_core.proofs.snapshots.UnderWay.go_on.Goals as goal

pub returns-in-Some-clause-stood : goal.returns-in-Some-clause-stood
returns-in-Some-clause-stood c o s fed st u =
    let went : WentOn o s c.args.exchange fed c.in-Some.progress c.advance.new.self
    = subst (λ (x : Option Progress). GoesOn o s c.args.exchange fed x c.advance.new.self) c.in-Some.is (c.in_ok-progress.ensures o s fed st (c.steps.invariant o s fed st u)) in
    went.stood
