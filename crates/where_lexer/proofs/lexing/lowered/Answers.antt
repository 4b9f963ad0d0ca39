use Rattle.where_lexer.proofs.Lower.{lowered_taken}
use Rattle.where_lexer.proofs.lexing.lowered.Goals as goal

pub of_bytes-requires : goal.of_bytes-requires
of_bytes-requires c = lowered_taken c.loop-b.lower.items c.args.bytes.now c.loop-b.b-index c.loop-b.invariant c.loop-b-test.false c.requires
