use Rattle.std.proofs.Common.{◌∙◌, ◌-◌, arith}
use Rattle.shape_log.proofs.Parts.{in_part}
use Rattle.shape_log.proofs.rope.shared.Goals as goal

pub returns : goal.returns
returns c end rest placed =
    c.in_ok-bytes.ensures.ok ∙ in_part c.args.parts.now rest end (c.partition_point-place.result - 1) c.part_at-part.result.now c.args.from c.args.to (omega arith) c.part_at-part.ensures c.requires (omega arith) (omega arith) placed
