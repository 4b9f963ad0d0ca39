use Rattle.std.proofs.Common.{inr, subst, sym, ◌∙◌}
use Rattle.std.specs.Str.{IsUtf8}
use Rattle.pg_dialogue.proofs.Texts.{text_is, text_is_not}
use Rattle.pg_dialogue.proofs.replies.text_in.Goals as goal

pub returns-in-Ok : goal.returns-in-Ok
returns-in-Ok c = text_is c.args.place c.args.bytes c.in-Ok.text (subst IsUtf8 c.into_vec.ensures c.in-Ok.ensures.read.1) (c.in-Ok.ensures.read.0 ∙ c.into_vec.ensures)

pub returns-in-Err : goal.returns-in-Err
returns-in-Err c = inr (text_is_not c.args.place c.args.bytes (λ h. c.in-Err.ensures.refused.0 (subst IsUtf8 (sym c.into_vec.ensures) h)))
