use Rattle.std.proofs.Common.{[], ◌∷◌, ◌++◌, subst}
use Rattle.sync_core.specs.declared.snapshots.Taken.{Taken}
use Rattle.sync_core.specs.UnderWay.{IsTaken}
use Rattle.sync_core.proofs.Snapping.{refused_by, row_taken, row_refused, row_passed}
use Rattle.sync_core.proofs.snapshots.Taken.with_row.Goals as goal

pub returns-in-Ok : goal.returns-in-Ok
returns-in-Ok c o s e head rows h =
    row_taken o s e head rows (c.args.row ∷ []) c.in-Rows.snap c.take_row.new.snap (subst (λ (t : Taken). IsTaken o s e head rows t) c.in-Rows.is h) (λ x u. c.in-Ok.ensures.taken o s.server.commits x head rows u)

pub returns-in-Err : goal.returns-in-Err
returns-in-Err c o s e head rows h =
    refused_by c.refused.result c.in-Err.error (IsTaken o s e head (rows ++ c.args.row ∷ [])) c.refused.ensures.taken c.refused.ensures.memory
    (λ taken is not. row_refused o s e head rows (c.args.row ∷ []) c.in-Rows.snap c.in-Err.error taken (subst (λ (t : Taken). IsTaken o s e head rows t) c.in-Rows.is h) is not (λ x u. c.in-Err.ensures.refused o s.server.commits x head rows u))

pub returns-in-Refused : goal.returns-in-Refused
returns-in-Refused c o s e head rows h = row_passed o s e head rows (c.args.row ∷ []) c.in-Refused.error (subst (λ (t : Taken). IsTaken o s e head rows t) c.in-Refused.is h)
