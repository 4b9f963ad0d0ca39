use Rattle.std.proofs.Common.{ap, sym, subst, ◌∙◌, Ok}
use Rattle.std.specs.Str.{IsUtf8, IsValidUpTo}
use Rattle.tx_assembler.proofs.Loops.{text_is, text_is_not}
use Rattle.tx_assembler.proofs.rows.text_of.Goals as goal

pub returns-in-Ok : goal.returns-in-Ok
returns-in-Ok c = text_is c.args.bytes (subst IsUtf8 c.into_vec.ensures c.in-Ok.ensures.read.1) ∙ ap Ok (sym c.into_vec.ensures ∙ sym c.in-Ok.ensures.read.0)

pub returns-in-Err : goal.returns-in-Err
returns-in-Err c m =
    text_is_not c.args.bytes c.in-Err.error.place (λ h. c.in-Err.ensures.refused.0 (subst IsUtf8 (sym c.into_vec.ensures) h))
    (subst (λ bytes. IsValidUpTo bytes c.in-Err.error.place) c.into_vec.ensures c.in-Err.ensures.refused.1)
