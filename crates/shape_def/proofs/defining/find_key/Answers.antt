use Rattle.std.proofs.Common.{sym, ap, ◌∙◌}
use Rattle.column_names.specs.Names.{has_name_twice}
use Rattle.shape_def.proofs.Refusals.{key_refused, key_twice, key_not_found, key_found}
use Rattle.shape_def.proofs.defining.find_key.Goals as goal

pub returns-then-has_name_twice-clause-err : goal.returns-then-has_name_twice-clause-err
returns-then-has_name_twice-clause-err c = key_refused c.args.served.now c.args.def.now (key_twice c.args.served.now c.args.def.now (sym (ap has_name_twice c.in_ok-columns.ensures) ∙ sym c.has_name_twice.ensures ∙ c.if-has_name_twice.true))

pub returns-in_default-clause-err : goal.returns-in_default-clause-err
returns-in_default-clause-err c = key_not_found c.args.served.now c.args.def.now c.in_ok-columns.columns c.in_ok-key.field-0 c.in_ok-columns.ensures c.in_ok-key.ensures c.in_default.is

pub returns-clause-ok : goal.returns-clause-ok
returns-clause-ok c =
    let same = c.in_ok-columns.ensures in
    (same, key_found c.args.served.now c.args.def.now c.in_ok-columns.columns c.in_ok-key.field-0 c.in-Some.key same c.in_ok-key.ensures c.in-Some.is, sym (ap has_name_twice same) ∙ sym c.has_name_twice.ensures ∙ c.if-has_name_twice.false)
