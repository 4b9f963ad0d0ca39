use Rattle.std.proofs.Common.{◌≡◌, ◌≤◌}
use Rattle.where_lexer.specs.Writing.{with_tokens}
use Rattle.where_grammar.specs.Printing.{others}
use Rattle.where_parser.specs.declared.expr.Exprs.{size-Exprs}
use Rattle.where_parser.specs.View.{trees_of}
use Rattle.where_parser.proofs.printing.+printing.Given as goal

-- what is left gives the same text, and is no deeper
abbrev pub invariant-put_others-loop-left : goal.invariant-put_others-loop-left
invariant-put_others-loop-left l =
    (with_tokens l.out (others l.word l.need (trees_of l.left)) ≡ with_tokens l.initial.out (others l.word l.need (trees_of l.list))) × (size-Exprs l.left ≤ size-Exprs l.list)
