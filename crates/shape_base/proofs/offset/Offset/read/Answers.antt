use Rattle.std.proofs.Common.{refl, ◌∙◌, sym}
use Rattle.shape_base.proofs.Decimals.{apart, no_offset_whole, no_offset_lsn, no_offset_pos}
use Rattle.shape_base.proofs.offset.Offset.read.Goals as goal

pub returns-in_default-clause-refused : goal.returns-in_default-clause-refused
returns-in_default-clause-refused c = no_offset_whole c.args.text.now (λ e. apart _ _ (sym c.eq.ensures ∙ c.if-eq.false) (e ∙ sym c.as_slice.ensures)) (c.in_default.ensures.absent refl)

pub returns-in_default-read_decimal-clause-refused : goal.returns-in_default-read_decimal-clause-refused
returns-in_default-read_decimal-clause-refused c = no_offset_lsn c.args.text.now _ _ (λ e. apart _ _ (sym c.eq.ensures ∙ c.if-eq.false) (e ∙ sym c.as_slice.ensures)) c.in-Some.ensures.found (c.in_default-read_decimal.ensures.refused refl)

pub returns-in_default-read_decimal-2-clause-refused : goal.returns-in_default-read_decimal-2-clause-refused
returns-in_default-read_decimal-2-clause-refused c = no_offset_pos c.args.text.now _ _ (λ e. apart _ _ (sym c.eq.ensures ∙ c.if-eq.false) (e ∙ sym c.as_slice.ensures)) c.in-Some.ensures.found (c.in_default-read_decimal-2.ensures.refused refl)
