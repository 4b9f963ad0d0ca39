use Rattle.core_server.proofs.Rows.{has_taken, row_taken, row_refused, row_not_taken}
use Rattle.core_server.proofs.snapshots.take_row.Goals as goal

pub returns-in-Ok-clause-taken : goal.returns-in-Ok-clause-taken
returns-in-Ok-clause-taken c = λ o txs x head rows u. let taken = has_taken o txs x head rows c.args.row c.args.snap.now u in
    row_taken o txs x head rows c.args.row c.args.snap.now u _ c.in-Ok.ensures.test c.in-Ok.ensures.limits c.in-Ok.ensures.visibility c.in-Ok.ensures.least (c.in-Ok.ensures.came rows taken) (c.in-Ok.ensures.taken rows taken)

pub returns-in-Err-clause-refused : goal.returns-in-Err-clause-refused
returns-in-Err-clause-refused c = λ o txs x head rows u. row_refused o txs x head rows c.args.row c.args.snap.now u _ (c.in-Err.ensures.refused rows (has_taken o txs x head rows c.args.row c.args.snap.now u))

pub returns-in-Err-clause-unchanged : goal.returns-in-Err-clause-unchanged
returns-in-Err-clause-unchanged c = λ o txs x head rows u.
    row_not_taken o txs x head rows c.args.row c.args.snap.now u _ c.in-Err.ensures.test c.in-Err.ensures.limits c.in-Err.ensures.visibility c.in-Err.ensures.least (c.in-Err.ensures.unchanged rows (has_taken o txs x head rows c.args.row c.args.snap.now u))
