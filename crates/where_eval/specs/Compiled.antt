-- A plan has the meaning of a tree.
use Rattle.std.specs.Prelude.{◌≡◌, List}
use Rattle.shape_base.specs.declared.definition.Column.{Column}
use Rattle.shape_base.specs.Tables.{Values}
use Rattle.pg_values.specs.declared.kind.Kind.{Kind}
use Rattle.where_grammar.specs.Tree.{Tree, Trees}
use Rattle.where_eval.specs.declared.plan.Plan as plans
use Rattle.where_eval.specs.declared.plan.Plans as chains
use Rattle.where_eval.specs.Plans.{meaning, meanings}
use Rattle.where_eval.specs.Truth.{value_of, values_of}

-- over each row
pub record Compiles (c : List Column) (kind : Kind) (plan : plans.Plan) (tree : Tree) : Type 0 where
  pub means : (row : Values) → meaning plan row ≡ value_of c row kind tree

pub record AllCompile (c : List Column) (kind : Kind) (chain : chains.Plans) (ts : Trees) : Type 0 where
  pub means : (row : Values) → meanings chain row ≡ values_of c row kind ts
