use Rattle.std.proofs.Common.{sym, ap, ◌∙◌}
use Rattle.shape_base.specs.declared.offset.Offset.TheVariants.{At}
use Rattle.shape_log.specs.Texts.{TextLogged, end_of}
use Rattle.shape_log.proofs.Rising.{last_is}
use Rattle.shape_log.proofs.text_log.TextLog.end.Goals as goal

pub returns-in-Some : goal.returns-in-Some
returns-in-Some c =
    last_is (At 0 0) c.deref.result.now c.in-Some.offset.now (sym c.in-Some.ensures.value)
    ∙ ap end_of (c.deref.ensures.value ∙ ap (λ (l : TextLogged). l.offsets) c.self.view_is)
