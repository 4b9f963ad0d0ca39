use Rattle.std.proofs.lemmas.Result.{err_from_is_err_and}
use Rattle.where_parser.specs.View.{tree_of}
use Rattle.shape_def.proofs.Reading.{parse_refused, check_refused, is_held}
use Rattle.shape_def.proofs.condition.check_text.Goals as goal

pub returns-in_err-expr-clause-err : goal.returns-in_err-expr-clause-err
returns-in_err-expr-clause-err c =
    let p = err_from_is_err_and c.from_residual.result c.from_residual.ensures.1 in
    rw (p.1, p.2) (parse_refused c.args.columns.now c.args.text.now c.in_err-expr.field-0.0 (λ place e. c.in_err-expr.ensures.syntax place cc) (λ place e. c.in_err-expr.ensures.too_deep place cc))

pub returns-in_err-checked-clause-err : goal.returns-in_err-checked-clause-err
returns-in_err-checked-clause-err c =
    let p = err_from_is_err_and c.from_residual-in_err-checked.result c.from_residual-in_err-checked.ensures.1 in
    rw (p.1, p.2) (check_refused c.args.columns.now c.args.text.now (tree_of c.in_ok-expr.expr) c.in_err-checked.field-0.0 c.in_ok-expr.ensures.tree c.in_err-checked.ensures)

pub returns-clause-ok : goal.returns-clause-ok
returns-clause-ok c = is_held c.args.columns.now c.args.text.now (tree_of c.in_ok-expr.expr) c.in_ok-checked.checked _ c.in_ok-expr.ensures.tree c.in_ok-checked.ensures c.in_ok-share.ensures
