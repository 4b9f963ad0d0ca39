use Rattle.std.proofs.Common.{sym, ◌∙◌, arith}
use Rattle.std.specs.Option.{option_copied}
use Rattle.core_server.proofs.Effects.{other_found, some_copied}
use Rattle.core_server.proofs.effect.other_definition.Goals as goal

pub returns-then-is_some : goal.returns-then-is_some
returns-then-is_some c = other_found c.args.old.now c.args.tx.now c.loop-j.j c.at.result.now (option_copied c.other_of-found.result) (omega (arith, c.loop-j-test.true, c.len-j-end.ensures)) c.at.ensures c.loop-j.invariant
    (c.other_of-found.ensures c.loop-j.j) (some_copied c.other_of-found.result ∙ sym c.is_some.ensures ∙ c.if-is_some.true)
