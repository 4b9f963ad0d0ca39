use Rattle.std.proofs.lemmas.Result.{err_from_is_err_and}
use Rattle.std.proofs.Common.{ap, ◌∙◌}
use Rattle.shape_base.specs.Tables.{place_of}
use Rattle.shape_def.specs.Definition.{is_chosen, places_from}
use Rattle.shape_def.proofs.Refusals.{refused_by_key, refused_by_choice, refused_by_clause, is_defined, is_test}
use Rattle.shape_def.proofs.defining.define.Goals as goal

pub returns-in_err-keyed-clause-err : goal.returns-in_err-keyed-clause-err
returns-in_err-keyed-clause-err c =
    let p = err_from_is_err_and c.from_residual.result c.from_residual.ensures.1 in
    rw (p.1, p.2) (refused_by_key c.args.served.now c.args.def.now c.args.ask.now.columns c.args.ask.now.clause c.in_err-keyed.field-0.0 c.in_err-keyed.ensures.err)

pub returns-in_err-selected-clause-err : goal.returns-in_err-selected-clause-err
returns-in_err-selected-clause-err c =
    let p = err_from_is_err_and c.from_residual-in_err-selected.result c.from_residual-in_err-selected.ensures.1 in
    let k = c.in_ok-keyed.ensures.ok in
    rw (p.1, p.2) (refused_by_choice c.args.served.now c.args.def.now c.in_ok-keyed.keyed.key c.args.ask.now.columns c.args.ask.now.clause (place_of c.in_ok-keyed.keyed.columns) c.in_err-selected.field-0.0 (ap place_of k.0) k.1 k.2 c.in_err-selected.ensures.err)

pub returns-in_err-condition-clause-err : goal.returns-in_err-condition-clause-err
returns-in_err-condition-clause-err c =
    let p = err_from_is_err_and c.from_residual-in_err-condition.result c.from_residual-in_err-condition.ensures.1 in
    let k = c.in_ok-keyed.ensures.ok in
    rw (p.1, p.2) (refused_by_clause c.args.served.now c.args.def.now c.in_ok-keyed.keyed.key c.args.ask.now.columns c.args.ask.now.clause (place_of c.in_ok-keyed.keyed.columns) c.in_err-condition.field-0.0 (ap place_of k.0) k.1 k.2 c.in_ok-selected.ensures.ok.1 c.in_err-condition.ensures.err)

pub returns-clause-ok : goal.returns-clause-ok
returns-clause-ok c =
    let k = c.in_ok-keyed.ensures.ok in let s = c.in_ok-selected.ensures.ok in let m = c.in_ok-condition.ensures.ok in
    is_defined c.in_ok-served.served c.args.served.now c.args.def.now c.in_ok-condition.condition.definition c.in_ok-keyed.keyed.key c.in_ok-selected.selected c.args.ask.now.columns c.args.ask.now.clause c.in_ok-condition.condition.clause (place_of c.in_ok-keyed.keyed.columns) c.in_ok-served.ensures m.0 m.1 (ap place_of k.0) k.1 k.2 (s.0 ∙ ap (places_from (is_chosen c.args.ask.now.columns) 0) k.0) s.1 m.2

pub invariant_of-result : goal.invariant_of-result
invariant_of-result c =
    let k = c.in_ok-keyed.ensures.ok in let s = c.in_ok-selected.ensures.ok in let m = c.in_ok-condition.ensures.ok in
    record { lawful = is_test c.in_ok-served.served c.args.served.now c.args.def.now c.in_ok-condition.condition.definition c.in_ok-keyed.keyed.key c.in_ok-selected.selected c.args.ask.now.columns c.in_ok-condition.condition.clause (place_of c.in_ok-keyed.keyed.columns) c.in_ok-served.ensures m.0 k.1 k.2 (s.0 ∙ ap (places_from (is_chosen c.args.ask.now.columns) 0) k.0) s.1 }
