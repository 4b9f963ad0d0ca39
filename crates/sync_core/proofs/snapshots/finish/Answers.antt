use Rattle.std.proofs.Common.{subst}
use Rattle.sync_core.specs.declared.snapshots.Progress.{Progress}
use Rattle.sync_core.specs.UnderWay.{Stood}
use Rattle.sync_core.proofs.Finishing.{whole_made, refused_made, ended_made, waits_made, stood_at, whole_given, refusal_given, given_situated}
use Rattle.sync_core.proofs.snapshots.finish.Goals as goal

pub returns-in-Waits-clause-takes : goal.returns-in-Waits-clause-takes
returns-in-Waits-clause-takes c o s course h owns stood = waits_made o s c.args.machine.now c.args.exchange course h owns c.new.result c.new.ensures (subst (λ (p : Progress). Stood o s c.args.exchange course p) c.in-Waits.is stood)

pub returns-in-Waits-clause-situated : goal.returns-in-Waits-clause-situated
returns-in-Waits-clause-situated c = given_situated c.args.machine.now c.args.exchange c.args.progress c.requires

pub snapshot_refused-requires : goal.snapshot_refused-requires
snapshot_refused-requires c = refusal_given c.args.machine.now c.args.exchange c.in-Refused.error (stood_at c.args.machine.now c.args.exchange _ _ c.in-Refused.is c.requires)

pub returns-in-Refused-clause-takes : goal.returns-in-Refused-clause-takes
returns-in-Refused-clause-takes c o s course h owns stood =
    refused_made o s c.args.machine.now c.args.exchange course h owns c.snapshot_refused.result c.snapshot_refused.new.self c.in-Refused.error (subst (λ (p : Progress). Stood o s c.args.exchange course p) c.in-Refused.is stood)
    c.snapshots_end.ensures (λ head rows event r at. c.snapshot_refused.ensures.takes o s head rows event h r at)

pub snapshot_ended-requires : goal.snapshot_ended-requires
snapshot_ended-requires c = given_situated c.args.machine.now c.args.exchange c.args.progress c.requires

pub returns-in-Ended-clause-takes : goal.returns-in-Ended-clause-takes
returns-in-Ended-clause-takes c o s course h owns stood =
    ended_made o s c.args.machine.now c.args.exchange course h owns c.snapshot_ended.result c.snapshot_ended.new.self c.in-Ended.fault (subst (λ (p : Progress). Stood o s c.args.exchange course p) c.in-Ended.is stood) (c.snapshot_ended.ensures.takes o s h)

pub snapshot-requires : goal.snapshot-requires
snapshot-requires c = whole_given c.args.machine.now c.args.exchange c.in-Whole.snap (stood_at c.args.machine.now c.args.exchange _ _ c.in-Whole.is c.requires)

pub returns-in-Whole-clause-takes : goal.returns-in-Whole-clause-takes
returns-in-Whole-clause-takes c o s course h owns stood =
    whole_made o s c.args.machine.now c.args.exchange course h owns c.snapshot.result c.snapshot.new.self c.in-Whole.snap (subst (λ (p : Progress). Stood o s c.args.exchange course p) c.in-Whole.is stood) (λ head rows b. c.snapshot.ensures.takes o s head rows h b)
