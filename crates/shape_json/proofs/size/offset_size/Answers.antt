use Rattle.std.proofs.Common.{sym, ap, ◌∙◌, length}
use Rattle.json.specs.Print.{quoted}
use Rattle.shape_base.specs.OffsetText.{offset_text}
use Rattle.shape_json.proofs.Digits.{quoted-start}
use Rattle.shape_json.proofs.size.offset_size.Goals as goal

pub returns-in-Start-clause-size : goal.returns-in-Start-clause-size
returns-in-Start-clause-size c = sym (ap (λ o. length (quoted (offset_text o))) c.in-Start.is ∙ ap length quoted-start)

pub returns-in-At-clause-size : goal.returns-in-At-clause-size
returns-in-At-clause-size c = c.position_size.ensures.size ∙ sym (ap (λ o. length (quoted (offset_text o))) c.in-At.is)
