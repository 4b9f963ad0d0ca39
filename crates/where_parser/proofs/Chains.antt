-- Chains of trees.
use Rattle.std.proofs.Common.{◌≡◌, List, [], ◌∷◌, ◌++◌, refl, ap}
use Rattle.where_grammar.specs.Tree.{Tree, Trees, NoTree, TreeAnd, trees}

abbrev pub before : List Tree → Trees → Trees
before [] rest = rest
before (t ∷ ts) rest = TreeAnd t (before ts rest)

pub before_none : (ts : List Tree) → before ts NoTree ≡ trees ts
before_none [] = refl
before_none (t ∷ ts) = ap (λ r. TreeAnd t r) (before_none ts)

pub before_last : (ts : List Tree) (t : Tree) (rest : Trees) → before (ts ++ t ∷ []) rest ≡ before ts (TreeAnd t rest)
before_last [] t rest = refl
before_last (u ∷ ts) t rest = ap (λ r. TreeAnd u r) (before_last ts t rest)
