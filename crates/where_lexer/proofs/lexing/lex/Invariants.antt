use Rattle.std.proofs.Common.{length, ◌-◌, ◌+◌}
use Rattle.where_lexer.specs.Lexing.{scanned}
use Rattle.where_lexer.proofs.Scanning.{Scanning}
use Rattle.where_lexer.proofs.lexing.lex.Given as goal

abbrev pub invariant-loop-step : goal.invariant-loop-step
invariant-loop-step l = Scanning (scanned l.text) (length l.text + 1 - l.step) l.tokens.items l.lefts.items l.rest
