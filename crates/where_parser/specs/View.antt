-- Trees as contracts see them, and what a reader returns.
use Rattle.std.specs.Prelude.{◌≡◌, List, [], Result, Ok, Err}
use Rattle.where_parser.specs.declared.expr.Expr as exprs
use Rattle.where_parser.specs.declared.expr.Exprs as chains
use Rattle.where_lexer.specs.declared.token.Token.{Token}
use Rattle.where_parser.specs.declared.stop.Stop.{Stop}
use Rattle.where_parser.specs.declared.stop.Stop.TheVariants as stops
use Rattle.where_grammar.specs.Tree.{Tree, AnyOf, AllOf, NotOf, IsOf, DistinctOf, Compared, WithinOf, BetweenOf, LikeOf, NameOf, IntOf, QuotedOf, BoolOf, NullOf, Trees, NoTree, TreeAnd}
use Rattle.ll_rules.specs.Rules.{Answer, Read, Refuse, Syntax, TooDeep}

abbrev mutual
  pub tree_of : exprs.Expr → Tree
  tree_of (exprs.Or list) = AnyOf (trees_of list)
  tree_of (exprs.And list) = AllOf (trees_of list)
  tree_of (exprs.Not' p e) = NotOf (tree_of e)
  tree_of (exprs.Is' p left negated test) = IsOf (tree_of left) negated test
  tree_of (exprs.Distinct' p left negated q right) = DistinctOf (tree_of left) negated (tree_of right)
  tree_of (exprs.Cmp' op p left q right) = Compared op (tree_of left) (tree_of right)
  tree_of (exprs.Within' p left negated list) = WithinOf (tree_of left) negated (trees_of list)
  tree_of (exprs.Between' p left negated q low r high) = BetweenOf (tree_of left) negated (tree_of low) (tree_of high)
  tree_of (exprs.Like' p left negated pattern) = LikeOf (tree_of left) negated pattern
  tree_of (exprs.Name name) = NameOf name
  tree_of (exprs.Int n) = IntOf n
  tree_of (exprs.Quoted text) = QuotedOf text
  tree_of (exprs.Bool b) = BoolOf b
  tree_of exprs.Null = NullOf

  pub trees_of : chains.Exprs → Trees
  trees_of chains.End = NoTree
  trees_of (chains.More' p first q rest) = TreeAnd (tree_of first) (trees_of rest)

-- what a fault says, with the tokens from it on
abbrev pub Fails : {A : Type 0} → Stop → Answer Token A → Type 0
Fails stops.Memory answer = Unit {0}
Fails (stops.Syntax rest) answer = answer ≡ Refuse Syntax rest.now
Fails (stops.TooDeep rest) answer = answer ≡ Refuse TooDeep rest.now

-- what a function returned is what reading answers, unless memory ran out
abbrev pub Gives : {X A : Type 0} → (X → A) → (X → List Token) → Result X Stop → Answer Token A → Type 0
Gives view rest (Ok x) answer = answer ≡ Read (view x) (rest x)
Gives view rest (Err stop) answer = Fails stop answer

-- what reading a whole clause answers, unless memory ran out
abbrev pub Answered : Result exprs.Expr Stop → Answer Token Tree → Type 0
Answered (Ok e) answer = answer ≡ Read (tree_of e) []
Answered (Err stop) answer = Fails stop answer
