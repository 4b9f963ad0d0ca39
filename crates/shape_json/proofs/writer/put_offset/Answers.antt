use Rattle.std.proofs.Common.{List, ℕ, length, subst, sym, ap, ◌∙◌}
use Rattle.json.specs.Print.{quoted}
use Rattle.shape_base.specs.OffsetText.{offset_text}
use Rattle.shape_json.specs.Buffer.{HasRoom, Adds}
use Rattle.shape_json.proofs.Digits.{quoted-start}
use Rattle.shape_json.proofs.writer.put_offset.Goals as goal

pub put-requires : goal.put-requires
put-requires c = let room : HasRoom c.args.out.now (length (quoted (offset_text c.args.offset))) = c.requires in subst (λ (l : List ℕ). HasRoom c.args.out.now (length l)) (ap (λ o. quoted (offset_text o)) c.in-Start.is ∙ quoted-start) room

pub returns-in-Start : goal.returns-in-Start
returns-in-Start c = subst (λ (l : List ℕ). Adds c.args.out.now c.put.new.out l) (sym (ap (λ o. quoted (offset_text o)) c.in-Start.is ∙ quoted-start)) c.put.ensures
