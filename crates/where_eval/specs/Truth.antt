-- The truth of a row under a clause.
use Rattle.std.specs.Prelude.{ℕ, Bool, false, not, ◌&&◌, List, [], ◌∷◌, map, length, if◌then◌else◌, Option, Some, None, slice_index_or}
use Rattle.std.specs.List.{list_any, range_with_len}
use Rattle.shape_base.specs.declared.definition.Column.{Column}
use Rattle.shape_base.specs.declared.truth.Tri.{Tri}
use Rattle.shape_base.specs.declared.value.Value.{Value}
use Rattle.shape_base.specs.declared.value.Value.TheVariants as values
use Rattle.shape_base.specs.Tables.{Values, place_of}
use Rattle.pg_values.specs.declared.kind.Kind.{Kind}
use Rattle.pg_values.specs.declared.kind.Kind.TheVariants as kinds
use Rattle.pg_values.specs.Values.{has_value}
use Rattle.where_lexer.specs.declared.token.CmpOp.TheVariants as ops
use Rattle.where_grammar.specs.declared.words.IsTest.{IsTest}
use Rattle.where_grammar.specs.declared.words.IsTest.TheVariants as tests
use Rattle.where_grammar.specs.Tree.{Tree, Trees, NoTree, TreeAnd, AnyOf, AllOf, NotOf, IsOf, DistinctOf, Compared, WithinOf, BetweenOf, LikeOf, NameOf, IntOf, QuotedOf, BoolOf, NullOf}
use Rattle.where_eval.specs.Logic.{of_bool, not_of, all_of, any_of, negated}
use Rattle.where_eval.specs.Scalars.{Scalar, Truth, Number, read_under, read_cell, tri_of, of_tri, compared, is_distinct, passes, like_of}
use Rattle.where_eval.specs.Leaves.{listed, leaves, names_place}
use Rattle.where_eval.specs.Kinds.{kind_at, common}

-- the value of a row in the place of a column
abbrev pub cell_in : List Column → Values → Option ℕ → Option Scalar
cell_in c row None = None
cell_in c row (Some place) = read_cell (kind_at c place) (slice_index_or row place values.Null)

-- the kind under which a string before a test is read
abbrev pub kind_of_test : IsTest → Kind
kind_of_test tests.Null = kinds.Text
kind_of_test tests.True = kinds.Boolean
kind_of_test tests.False = kinds.Boolean
kind_of_test tests.Unknown = kinds.Boolean

-- the value of a part; where it is a string, under the kind
abbrev mutual
  pub value_of : List Column → Values → Kind → Tree → Option Scalar
  value_of c row kind (AnyOf ts) = of_tri (any_of (map tri_of (values_of c row kinds.Boolean ts)))
  value_of c row kind (AllOf ts) = of_tri (all_of (map tri_of (values_of c row kinds.Boolean ts)))
  value_of c row kind (NotOf t) = of_tri (not_of (tri_of (value_of c row kinds.Boolean t)))
  value_of c row kind (IsOf t neg test) = of_tri (negated neg (of_bool (passes test (value_of c row (kind_of_test test) t))))
  value_of c row kind (DistinctOf l neg r) =
      of_tri (negated neg (of_bool (is_distinct (value_of c row (common c (l ∷ r ∷ [])) l) (value_of c row (common c (l ∷ r ∷ [])) r))))
  value_of c row kind (Compared op l r) =
      of_tri (compared op (value_of c row (common c (l ∷ r ∷ [])) l) (value_of c row (common c (l ∷ r ∷ [])) r))
  value_of c row kind (WithinOf l neg ts) =
      of_tri (negated neg (any_of (map (compared ops.Eq (value_of c row (common c (l ∷ listed ts)) l)) (values_of c row (common c (l ∷ listed ts)) ts))))
  value_of c row kind (BetweenOf l neg low high) =
      of_tri (negated neg (all_of (compared ops.Ge (value_of c row (common c (l ∷ low ∷ high ∷ [])) l) (value_of c row (common c (l ∷ low ∷ high ∷ [])) low)
      ∷ compared ops.Le (value_of c row (common c (l ∷ low ∷ high ∷ [])) l) (value_of c row (common c (l ∷ low ∷ high ∷ [])) high) ∷ [])))
  value_of c row kind (LikeOf l neg pattern) = of_tri (negated neg (like_of pattern (value_of c row kinds.Text l)))
  value_of c row kind (NameOf name) = cell_in c row (place_of c name)
  value_of c row kind (IntOf n) = Some (Number n)
  value_of c row kind (QuotedOf text) = read_under kind text
  value_of c row kind (BoolOf b) = Some (Truth b)
  value_of c row kind NullOf = None

  pub values_of : List Column → Values → Kind → Trees → List (Option Scalar)
  values_of c row kind NoTree = []
  values_of c row kind (TreeAnd t ts) = value_of c row kind t ∷ values_of c row kind ts

-- the truth of a part over a row whose texts have values
abbrev pub truth_in : List Column → Values → Tree → Tri
truth_in c row tree = tri_of (value_of c row kinds.Boolean tree)

-- a text without a value under the kind
abbrev pub is_unreadable : Kind → Value → Bool
is_unreadable kind values.Null = false
is_unreadable kind (values.Words text) = not (has_value kind text)

-- the clause names the column in a place, and the row's text there has no value
abbrev pub unread : List Column → Tree → Values → ℕ → Bool
unread c tree row place = list_any (names_place place) (leaves c tree) && is_unreadable (kind_at c place) (slice_index_or row place values.Null)

-- The truth of a row; none where a column that the clause names holds a text without a value.
abbrev pub truth_of : List Column → Tree → Values → Option Tri
truth_of c tree row = if list_any (unread c tree row) (range_with_len 0 (length row)) then None else Some (truth_in c row tree)
