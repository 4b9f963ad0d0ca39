use Rattle.std.proofs.Common.{sym, subst, Some}
use Rattle.pg_dialogue.specs.declared.snap_reader.SnapStep.{SnapStep}
use Rattle.pg_dialogue.specs.Pieces.{MayCome}
use Rattle.sync_core.specs.declared.snapshots.Taken.{Taken}
use Rattle.sync_core.specs.UnderWay.{TakenFor, Follows, Finishes}
use Rattle.sync_core.proofs.Snapping.{row_follows, finishes}
use Rattle.sync_core.proofs.snapshots.UnderWay.step.Goals as goal

pub returns-in_ok-self-in-Row-clause-stepped : goal.returns-in_ok-self-in-Row-clause-stepped
returns-in_ok-self-in-Row-clause-stepped c o s given st may none h =
    subst (λ (x : SnapStep). Follows o s c.args.exchange given x c.in_ok-self-in-Row.field-0) (sym c.in-Row.is)
    (row_follows o s c.args.exchange given c.in-Row.row c.take.result c.in_ok-self-in-Row.field-0 (subst (λ (x : SnapStep). MayCome given (Some x)) c.in-Row.is may)
    (subst (λ (t : Taken). TakenFor o s c.args.exchange given t) (sym c.take.ensures.taken) h) (λ head old. c.in_ok-self-in-Row.ensures o s c.args.exchange head given.rows old))

pub returns-in-Done-clause-stepped : goal.returns-in-Done-clause-stepped
returns-in-Done-clause-stepped c o s given st may none h =
    subst (λ (x : SnapStep). Finishes o s c.args.exchange given x c.whole.result) (sym c.in-Done.is)
    (finishes o s c.args.exchange given c.take-in-Done.result c.whole.result (subst (λ (x : SnapStep). MayCome given (Some x)) c.in-Done.is may)
    (subst (λ (t : Taken). TakenFor o s c.args.exchange given t) (sym c.take-in-Done.ensures.taken) h) (λ head old. c.whole.ensures o s c.args.exchange head given.rows old))
