-- The leaves of a clause, from the left, and their numbers.
use Rattle.std.specs.Prelude.{ℕ, ◌+◌, Bool, true, false, List, [], ◌∷◌, ◌++◌, if◌then◌else◌, nat_lt, ◌==◌, Option, Some, None}
use Rattle.shape_base.specs.declared.definition.Column.{Column}
use Rattle.shape_base.specs.Tables.{place_of}
use Rattle.where_grammar.specs.Tree.{Tree, Trees, NoTree, TreeAnd, AnyOf, AllOf, NotOf, IsOf, DistinctOf, Compared, WithinOf, BetweenOf, LikeOf, NameOf, IntOf, QuotedOf, BoolOf, NullOf}
use Rattle.where_eval.specs.declared.leaves.Leaf.{Leaf}
use Rattle.where_eval.specs.declared.leaves.Leaf.TheVariants as leaf

-- the members of a list
abbrev pub listed : Trees → List Tree
listed NoTree = []
listed (TreeAnd t ts) = t ∷ listed ts

-- the leaf of a name
abbrev pub leaf_at : Option ℕ → Leaf
leaf_at None = leaf.Unknown
leaf_at (Some place) = leaf.Column place

-- the leaves: names, integers, strings, TRUE, FALSE, NULL, and the patterns of LIKE
abbrev mutual
  pub leaves : List Column → Tree → List Leaf
  leaves c (AnyOf ts) = all_leaves c ts
  leaves c (AllOf ts) = all_leaves c ts
  leaves c (NotOf t) = leaves c t
  leaves c (IsOf t negated test) = leaves c t
  leaves c (DistinctOf l negated r) = leaves c l ++ leaves c r
  leaves c (Compared op l r) = leaves c l ++ leaves c r
  leaves c (WithinOf l negated ts) = leaves c l ++ all_leaves c ts
  leaves c (BetweenOf l negated low high) = leaves c l ++ leaves c low ++ leaves c high
  leaves c (LikeOf l negated pattern) = leaves c l ++ leaf.Constant ∷ []
  leaves c (NameOf name) = leaf_at (place_of c name) ∷ []
  leaves c (IntOf n) = leaf.Constant ∷ []
  leaves c (QuotedOf text) = leaf.Constant ∷ []
  leaves c (BoolOf b) = leaf.Constant ∷ []
  leaves c NullOf = leaf.Constant ∷ []

  pub all_leaves : List Column → Trees → List Leaf
  all_leaves c NoTree = []
  all_leaves c (TreeAnd t ts) = leaves c t ++ all_leaves c ts

-- the next number of a leaf; numbers stand still at 2^32 - 1
abbrev pub stepped : ℕ → ℕ
stepped n = if nat_lt n 4294967295 then n + 1 else n

abbrev pub is_unknown_leaf : Leaf → Bool
is_unknown_leaf leaf.Unknown = true
is_unknown_leaf (leaf.Column place) = false
is_unknown_leaf leaf.Constant = false

abbrev pub names_place : ℕ → Leaf → Bool
names_place place leaf.Unknown = false
names_place place (leaf.Column p) = p == place
names_place place leaf.Constant = false

-- the number of the first leaf of an unknown name, where the first leaf of the list has number n
abbrev pub unknown_from : ℕ → List Leaf → Option ℕ
unknown_from n [] = None
unknown_from n (l ∷ ls) = if is_unknown_leaf l then Some n else unknown_from (stepped n) ls

-- the number of the leaf behind the tree's leaves, the first of which has number n
abbrev mutual
  pub next : ℕ → Tree → ℕ
  next n (AnyOf ts) = next_all n ts
  next n (AllOf ts) = next_all n ts
  next n (NotOf t) = next n t
  next n (IsOf t negated test) = next n t
  next n (DistinctOf l negated r) = next (next n l) r
  next n (Compared op l r) = next (next n l) r
  next n (WithinOf l negated ts) = next_all (next n l) ts
  next n (BetweenOf l negated low high) = next (next (next n l) low) high
  next n (LikeOf l negated pattern) = stepped (next n l)
  next n (NameOf name) = stepped n
  next n (IntOf i) = stepped n
  next n (QuotedOf text) = stepped n
  next n (BoolOf b) = stepped n
  next n NullOf = stepped n

  pub next_all : ℕ → Trees → ℕ
  next_all n NoTree = n
  next_all n (TreeAnd t ts) = next_all (next n t) ts
