use Rattle.std.proofs.Common.{refl, ◌+◌}
use Rattle.pg_dialogue.proofs.Firsts.{first_whole}
use Rattle.pg_dialogue.proofs.first.first_of.Goals as goal

pub returns : goal.returns
returns c = first_whole c.args.bytes.now c.head_of-kind.result.0 c.head_of-kind.result.1 (c.head_of-kind.result.1 + 1) c.if-bytes-lt5.false c.head_of-kind.ensures.kind c.head_of-kind.ensures.len c.if-len-lt4.false refl c.if-bytes-size.false
