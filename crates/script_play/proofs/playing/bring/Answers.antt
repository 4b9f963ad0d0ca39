use Rattle.std.proofs.Common.{◌≡◌, ap, sym}
use Rattle.std.proofs.lemmas.List.{append-nil}
use Rattle.script_play.specs.declared.stop.Stop.TheVariants as stops
use Rattle.script_play.proofs.playing.bring.Goals as goal

pub returns-in-Err-Unfit-clause-brought : goal.returns-in-Err-Unfit-clause-brought
returns-in-Err-Unfit-clause-brought g c = (
  record { cause = c.in-Err-Unfit.cause; takes = rw c.in-Err-Unfit.field-0-is at c.in-Err-Unfit.ensures.takes; is = (let a = c.cause_for.ensures in let b = c.in-Err-Unfit.cause-is in cc) },
  λ t. sym (append-nil _),
)
