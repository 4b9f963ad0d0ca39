use Rattle.std.proofs.Common.{◌≡◌, true, false, arith}
use Rattle.shape_base.specs.Tables.{same_def}
use Rattle.script_check.proofs.Visible.{defined, not_defined}
use Rattle.script_check.proofs.honesty.is_defined_at.Goals as goal

pub returns-then-not-are_same_defs : goal.returns-then-not-are_same_defs
returns-then-not-are_same_defs c =
    let differs : same_def c.def_after.result.now c.args.definition.now ≡ false = cc in
    not_defined c.args.history.now c.args.definition.now c.def_after.result.now c.args.count c.args.step c.def_after.ensures differs

pub returns : goal.returns
returns c =
    let same : same_def c.def_after.result.now c.args.definition.now ≡ true = cc in
    defined c.args.history.now c.args.definition.now c.def_after.result.now c.args.count c.args.step c.requires.there (omega arith) c.def_after.ensures same
