use Rattle.std.proofs.Common.{◌∙◌}
use Rattle.std.proofs.lemmas.Result.{err_from_is_err_and}
use Rattle.pg_dialogue.proofs.Exits.{written_before}
use Rattle.pg_dialogue.proofs.dialogue.describe.Goals as goal

pub returns-in_err-pass_rows-clause-wrote : goal.returns-in_err-pass_rows-clause-wrote
returns-in_err-pass_rows-clause-wrote g c t =
    let p = err_from_is_err_and c.from_residual-in_err-pass_rows.result c.from_residual-in_err-pass_rows.ensures.1 in
    rw (p.1, p.2) (written_before c.in_err-pass_rows.field-0.0 _ _ _ (c.pass_rows.ensures.written ∙ c.in_ok-dialogue.ensures.wrote t))
