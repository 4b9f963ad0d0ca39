use Rattle.std.proofs.Common.{Ok, ap, sym, ◌∙◌}
use Rattle.script.proofs.Utf8.{is_text, is_no_text}
use Rattle.script.proofs.texts.utf8_of.Goals as goal

pub returns-in-Ok : goal.returns-in-Ok
returns-in-Ok c = is_text c.args.bytes.items c.in-Ok.ensures.read.1 ∙ ap Ok (sym c.in-Ok.ensures.read.0)

pub returns-in-Err : goal.returns-in-Err
returns-in-Err c = is_no_text c.args.bytes.items c.in-Err.ensures.refused.0
