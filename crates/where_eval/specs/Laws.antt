-- Laws of truth.
use Rattle.std.specs.Prelude.{◌≡◌, ◌≢◌, ℕ, Bool, true, false, List, map, length, Some, is_none}
use Rattle.std.specs.List.{list_any, range_with_len}
use Rattle.shape_base.specs.declared.definition.Column.{Column}
use Rattle.shape_base.specs.declared.truth.Tri.{Tri}
use Rattle.shape_base.specs.declared.truth.Tri.TheVariants.{Unknown}
use Rattle.shape_base.specs.Tables.{Values}
use Rattle.pg_values.specs.declared.kind.Kind.{Kind}
use Rattle.where_lexer.specs.declared.token.CmpOp.TheVariants.{Eq, Ge, Le}
use Rattle.where_grammar.specs.declared.words.IsTest.{IsTest}
use Rattle.where_grammar.specs.Tree.{Tree, Trees, NoTree, TreeAnd, AnyOf, AllOf, NotOf, IsOf, DistinctOf, Compared, WithinOf, BetweenOf, LikeOf, NullOf}
use Rattle.where_eval.specs.Logic.{not_of, all_of, any_of}
use Rattle.where_eval.specs.Kinds.{kind_of_part}
use Rattle.where_eval.specs.Truth.{truth_in, truth_of, unread}

-- NOT of unknown is unknown
abbrev pub NotOfUnknownIsUnknown : Type 0
NotOfUnknownIsUnknown = (c : List Column) (row : Values) (t : Tree) → truth_in c row t ≡ Unknown → truth_in c row (NotOf t) ≡ Unknown

-- a null bool is unknown
abbrev pub NullIsUnknown : Type 0
NullIsUnknown = (c : List Column) (row : Values) → truth_in c row NullOf ≡ Unknown

-- NOT of an AND is the OR of the NOTs, and the other way round
abbrev pub DeMorgan : Type 0
DeMorgan = ((ts : List Tri) → not_of (all_of ts) ≡ any_of (map not_of ts)) × ((ts : List Tri) → not_of (any_of ts) ≡ all_of (map not_of ts))

-- IS NULL, IS TRUE, IS FALSE, IS UNKNOWN, IS DISTINCT FROM and their negations are never unknown
abbrev pub TestsAreKnown : Type 0
TestsAreKnown = (c : List Column) (row : Values) (l r : Tree) (neg : Bool) (test : IsTest)
    → (truth_in c row (IsOf l neg test) ≢ Unknown) × (truth_in c row (DistinctOf l neg r) ≢ Unknown)

-- each negated form is NOT of the form
abbrev pub NegatedFormsAreNegations : Type 0
NegatedFormsAreNegations = (c : List Column) (row : Values) (l low high : Tree) (ts : Trees) (pattern : List ℕ) (test : IsTest)
    → (truth_in c row (WithinOf l true ts) ≡ truth_in c row (NotOf (WithinOf l false ts)))
    × (truth_in c row (BetweenOf l true low high) ≡ truth_in c row (NotOf (BetweenOf l false low high)))
    × (truth_in c row (LikeOf l true pattern) ≡ truth_in c row (NotOf (LikeOf l false pattern)))
    × (truth_in c row (IsOf l true test) ≡ truth_in c row (NotOf (IsOf l false test)))
    × (truth_in c row (DistinctOf l true low) ≡ truth_in c row (NotOf (DistinctOf l false low)))

-- the equalities of a part with each member
abbrev pub equalities : Tree → Trees → Trees
equalities l NoTree = NoTree
equalities l (TreeAnd t ts) = TreeAnd (Compared Eq l t) (equalities l ts)

-- where the left side has a kind of its own, IN is the OR of the equalities
abbrev pub InIsTheOrOfEqualities : Type 0
InIsTheOrOfEqualities = (c : List Column) (row : Values) (l : Tree) (ts : Trees) (kind : Kind) → kind_of_part c l ≡ Some kind
    → truth_in c row (WithinOf l false ts) ≡ truth_in c row (AnyOf (equalities l ts))

-- and BETWEEN is the AND of two comparisons
abbrev pub BetweenIsTheAndOfComparisons : Type 0
BetweenIsTheAndOfComparisons = (c : List Column) (row : Values) (l low high : Tree) (kind : Kind) → kind_of_part c l ≡ Some kind
    → truth_in c row (BetweenOf l false low high) ≡ truth_in c row (AllOf (TreeAnd (Compared Ge l low) (TreeAnd (Compared Le l high) NoTree)))

-- a row has no truth exactly where it has a column that cannot be read
abbrev pub NoTruthWhereUnread : Type 0
NoTruthWhereUnread = (c : List Column) (tree : Tree) (row : Values) → is_none (truth_of c tree row) ≡ list_any (unread c tree row) (range_with_len 0 (length row))
