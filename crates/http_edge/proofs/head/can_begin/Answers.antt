use Rattle.std.proofs.Common.{refl}
use Rattle.http_edge.proofs.Heads.{with_one_space, without_one_space}
use Rattle.http_edge.proofs.head.can_begin.Goals as goal

pub returns-in-Some : goal.returns-in-Some
returns-in-Some c =
    let found = c.in-Some.ensures.found in
    with_one_space c.args.bytes.now found.0 c.in-Some.target.now c.begins_text.result found.1 found.2 c.requires c.begins_text.ensures

pub returns-in-None : goal.returns-in-None
returns-in-None c = without_one_space c.args.bytes.now (c.in-None.ensures.absent refl) c.requires
