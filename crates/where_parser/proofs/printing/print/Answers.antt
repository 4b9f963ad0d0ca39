use Rattle.std.proofs.Common.{ap, ◌∙◌}
use Rattle.where_lexer.specs.Writing.{with_tokens}
use Rattle.where_grammar.specs.Printing.{canonical}
use Rattle.where_grammar.proofs.Lemmas.{is_again}
use Rattle.where_parser.specs.View.{tree_of}
use Rattle.where_parser.proofs.printing.print.Goals as goal

pub returns-clause-again : goal.returns-clause-again
returns-clause-again c =
    is_again (tree_of c.args.expr.now) c.into_text.result
    (c.into_text.ensures.canonical (canonical (tree_of c.args.expr.now)) (c.in_ok-put_tree.ensures ∙ ap (λ w. with_tokens w (canonical (tree_of c.args.expr.now))) c.new-out.ensures))
