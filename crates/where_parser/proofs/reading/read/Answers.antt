use Rattle.std.proofs.Common.{ap, ◌∙◌}
use Rattle.ll_rules.specs.Rules.{Read}
use Rattle.where_grammar.proofs.Lemmas.{clause_rest}
use Rattle.where_parser.specs.View.{tree_of}
use Rattle.where_parser.proofs.reading.read.Goals as goal

pub returns-in-Ok : goal.returns-in-Ok
returns-in-Ok c = c.in-Ok.ensures ∙ ap (λ r. Read (tree_of c.in-Ok.tree) r) (clause_rest c.args.room c.args.tokens.now (tree_of c.in-Ok.tree) c.in-Ok.field-0-1.now c.in-Ok.ensures)
