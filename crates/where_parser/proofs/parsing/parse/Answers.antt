use Rattle.where_parser.proofs.Parsed.{tree_clause, read_clause, given_syntax, syntax_clause, given_deep, deep_clause}
use Rattle.where_parser.proofs.parsing.parse.Goals as goal

pub returns-clause-tree : goal.returns-clause-tree
returns-clause-tree c = tree_clause c.args.text.now c.answer.result c.answer.ensures

pub returns-clause-read : goal.returns-clause-read
returns-clause-read c = read_clause c.args.text.now c.answer.result c.answer.ensures

pub returns-clause-syntax : goal.returns-clause-syntax
returns-clause-syntax c = λ place e. given_syntax c.args.text.now place c.answer.result e c.answer.ensures

pub returns-clause-syntax_found : goal.returns-clause-syntax_found
returns-clause-syntax_found c = syntax_clause c.args.text.now c.answer.result c.answer.ensures

pub returns-clause-too_deep : goal.returns-clause-too_deep
returns-clause-too_deep c = λ place e. given_deep c.args.text.now place c.answer.result e c.answer.ensures

pub returns-clause-too_deep_found : goal.returns-clause-too_deep_found
returns-clause-too_deep_found c = deep_clause c.args.text.now c.answer.result c.answer.ensures
