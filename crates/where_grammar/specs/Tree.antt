-- Trees of clauses, without where they lie in memory.
use Rattle.std.specs.Prelude.{ℕ, List, [], ◌∷◌, Bool, ℤ}
use Rattle.where_lexer.specs.declared.token.CmpOp.{CmpOp}
use Rattle.where_grammar.specs.declared.words.IsTest.{IsTest}

mutual
  pub data Tree : Type 0 where
    AnyOf : Trees → Tree
    AllOf : Trees → Tree
    NotOf : Tree → Tree
    IsOf : (left : Tree) (negated : Bool) (test : IsTest) → Tree
    DistinctOf : (left : Tree) (negated : Bool) (right : Tree) → Tree
    Compared : (op : CmpOp) (left right : Tree) → Tree
    WithinOf : (left : Tree) (negated : Bool) (list : Trees) → Tree
    BetweenOf : (left : Tree) (negated : Bool) (low high : Tree) → Tree
    LikeOf : (left : Tree) (negated : Bool) (pattern : List ℕ) → Tree
    NameOf : List ℕ → Tree
    IntOf : ℤ → Tree
    QuotedOf : List ℕ → Tree
    BoolOf : Bool → Tree
    NullOf : Tree

  pub data Trees : Type 0 where
    NoTree : Trees
    TreeAnd : Tree → Trees → Trees

abbrev pub trees : List Tree → Trees
trees [] = NoTree
trees (t ∷ ts) = TreeAnd t (trees ts)
