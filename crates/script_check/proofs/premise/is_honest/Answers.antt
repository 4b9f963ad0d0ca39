use Rattle.std.proofs.Common.{◌≡◌, arith}
use Rattle.script_check.specs.declared.honesty.SnapshotError.TheVariants as errors
use Rattle.script_check.proofs.Claiming.{defs_as_many}
use Rattle.script_check.proofs.Visible.{not_honest}
use Rattle.script_check.proofs.premise.is_honest.Goals as goal

pub honest_step-requires-clause-defined : goal.honest_step-requires-clause-defined
honest_step-requires-clause-defined c = omega (arith, c.requires.served, defs_as_many c.args.history.now c.requires.good)

pub returns-in-Err-OtherRows : goal.returns-in-Err-OtherRows
returns-in-Err-OtherRows c =
    let ample : c.in-Err-OtherRows.field-0 ≡ errors.OutOfMemory → ⊥ = λ e. cc in
    not_honest c.args.history.now c.args.claim.now.snapshot c.in-Err-OtherRows.field-0 ample (c.in-Err-OtherRows.ensures.err)
