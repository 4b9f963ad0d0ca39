use Rattle.std.proofs.Common.{length, ◌-◌}
use Rattle.where_lexer.specs.Classes.{besides}
use Rattle.where_lexer.proofs.Spans.{Spanned}
use Rattle.where_lexer.proofs.lexing.until.Given as goal

abbrev pub invariant-loop-n : goal.invariant-loop-n
invariant-loop-n l = Spanned (besides l.quote) l.bytes l.n

abbrev pub decreases-loop-n : goal.decreases-loop-n
decreases-loop-n l = length l.bytes - l.n
