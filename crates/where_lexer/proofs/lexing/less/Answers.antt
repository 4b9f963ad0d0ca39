use Rattle.std.proofs.Common.{arith, ◌<◌}
use Rattle.where_lexer.proofs.Quotes.{ascii_before}
use Rattle.where_lexer.proofs.lexing.less.Goals as goal

pub returns-then-b-eq61-clause-rest : goal.returns-then-b-eq61-clause-rest
returns-then-b-eq61-clause-rest c = let s : c.in-Some.b < 128 = omega (arith, c.if-b-eq61.true) in ascii_before c.args.bytes.now c.in-Some.b c.in-Some.rest.now c.in-Some.ensures s

pub returns-then-b-eq62-clause-rest : goal.returns-then-b-eq62-clause-rest
returns-then-b-eq62-clause-rest c = let s : c.in-Some.b < 128 = omega (arith, c.if-b-eq62.true) in ascii_before c.args.bytes.now c.in-Some.b c.in-Some.rest.now c.in-Some.ensures s
