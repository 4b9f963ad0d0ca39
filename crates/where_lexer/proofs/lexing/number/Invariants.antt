use Rattle.std.proofs.Common.{◌≡◌, min, take, ◌-◌, ◌^◌}
use Rattle.std.specs.Str.Parse.{digits_value}
use Rattle.where_lexer.proofs.lexing.number.Given as goal

abbrev pub invariant-loop-b : goal.invariant-loop-b
invariant-loop-b l = l.n ≡ min (digits_value 10 (take l.b-index l.bytes)) (2 ^ 64 - 1)
