use Rattle.std.proofs.Common.{length}
use Rattle.where_lexer.proofs.Quotes.{Quoting}
use Rattle.where_lexer.proofs.lexing.quoted.Given as goal

abbrev pub invariant-loop-content : goal.invariant-loop-content
invariant-loop-content l = Quoting l.quote l.bytes l.content.items l.rest

abbrev pub decreases-loop-content : goal.decreases-loop-content
decreases-loop-content l = length l.rest
