-- The values of a clause's parts, and how they compare.
use Rattle.std.specs.Prelude.{ℕ, ℤ, Bool, true, false, not, List, if◌then◌else◌, Option, Some, None}
use Rattle.std.specs.Str.{chars}
use Rattle.std.specs.Ordering.{nat_cmp, int_cmp, bool_cmp, is_lt, is_le, is_gt, is_ge, is_eq}
use Rattle.std.specs.Cmp.Lexicographic.{slice_cmp}
use Rattle.std.specs.declared.cmp.Ordering.{Ordering}
use Rattle.shape_base.specs.declared.truth.Tri.{Tri}
use Rattle.shape_base.specs.declared.truth.Tri.TheVariants as tri
use Rattle.shape_base.specs.declared.value.Value.{Value}
use Rattle.shape_base.specs.declared.value.Value.TheVariants as values
use Rattle.pg_values.specs.declared.kind.Kind.{Kind}
use Rattle.pg_values.specs.declared.kind.Kind.TheVariants as kinds
use Rattle.pg_values.specs.Values.{has_value, truth_value, number_value, uuid_value}
use Rattle.where_lexer.specs.declared.token.CmpOp.{CmpOp}
use Rattle.where_lexer.specs.declared.token.CmpOp.TheVariants as ops
use Rattle.where_grammar.specs.declared.words.IsTest.{IsTest}
use Rattle.where_grammar.specs.declared.words.IsTest.TheVariants as tests
use Rattle.where_eval.specs.Logic.{of_bool, is_true, is_false, is_unknown}
use Rattle.where_eval.specs.declared.like.Piece.{Piece}
use Rattle.where_eval.specs.Like.{fits, pieces_of}

-- a value; null is none
pub data Scalar : Type 0 where
  Truth : Bool → Scalar
  Number : ℤ → Scalar
  Words : List ℕ → Scalar
  Id : ℕ → Scalar

-- the value that a text has under a kind
abbrev pub read_under : Kind → List ℕ → Option Scalar
read_under kinds.Boolean text = if has_value kinds.Boolean text then Some (Truth (truth_value text)) else None
read_under kinds.SmallInt text = if has_value kinds.SmallInt text then Some (Number (number_value text)) else None
read_under kinds.Integer text = if has_value kinds.Integer text then Some (Number (number_value text)) else None
read_under kinds.BigInt text = if has_value kinds.BigInt text then Some (Number (number_value text)) else None
read_under kinds.Text text = Some (Words text)
read_under kinds.Uuid text = if has_value kinds.Uuid text then Some (Id (uuid_value text)) else None
read_under kinds.Other text = Some (Words text)

-- the value of a row's cell under its column's kind
abbrev pub read_cell : Kind → Value → Option Scalar
read_cell kind values.Null = None
read_cell kind (values.Words text) = read_under kind text

-- a null bool and unknown are the same
abbrev pub tri_of : Option Scalar → Tri
tri_of None = tri.Unknown
tri_of (Some (Truth b)) = of_bool b
tri_of (Some (Number n)) = tri.Unknown
tri_of (Some (Words text)) = tri.Unknown
tri_of (Some (Id n)) = tri.Unknown

abbrev pub of_tri : Tri → Option Scalar
of_tri tri.True = Some (Truth true)
of_tri tri.False = Some (Truth false)
of_tri tri.Unknown = None

-- how two values of one class stand to one another
abbrev pub order_of_scalars : Scalar → Scalar → Option Ordering
order_of_scalars (Truth a) (Truth b) = Some (bool_cmp a b)
order_of_scalars (Number a) (Number b) = Some (int_cmp a b)
order_of_scalars (Words a) (Words b) = Some (slice_cmp nat_cmp a b)
order_of_scalars (Id a) (Id b) = Some (nat_cmp a b)
order_of_scalars a b = None

-- none where one of them is null
abbrev pub order_between : Option Scalar → Option Scalar → Option Ordering
order_between (Some a) (Some b) = order_of_scalars a b
order_between (Some a) None = None
order_between None b = None

abbrev pub holds : CmpOp → Ordering → Bool
holds ops.Eq o = is_eq o
holds ops.Ne o = not (is_eq o)
holds ops.Lt o = is_lt o
holds ops.Le o = is_le o
holds ops.Gt o = is_gt o
holds ops.Ge o = is_ge o

abbrev pub held : CmpOp → Option Ordering → Tri
held op None = tri.Unknown
held op (Some o) = of_bool (holds op o)

-- a comparison with a null is unknown
abbrev pub compared : CmpOp → Option Scalar → Option Scalar → Tri
compared op a b = held op (order_between a b)

abbrev pub is_equal : Option Ordering → Bool
is_equal None = false
is_equal (Some o) = is_eq o

-- two nulls are not distinct
abbrev pub is_distinct : Option Scalar → Option Scalar → Bool
is_distinct None None = false
is_distinct None (Some b) = true
is_distinct (Some a) None = true
is_distinct (Some a) (Some b) = not (is_equal (order_of_scalars a b))

abbrev pub is_null : Option Scalar → Bool
is_null None = true
is_null (Some a) = false

-- IS NULL, IS TRUE, IS FALSE, IS UNKNOWN
abbrev pub passes : IsTest → Option Scalar → Bool
passes tests.Null a = is_null a
passes tests.True a = is_true (tri_of a)
passes tests.False a = is_false (tri_of a)
passes tests.Unknown a = is_unknown (tri_of a)

-- what is asked for with a null on its left is unknown
abbrev pub fits_scalar : List Piece → Option Scalar → Tri
fits_scalar pieces (Some (Words text)) = of_bool (fits pieces (chars text))
fits_scalar pieces (Some (Truth b)) = tri.Unknown
fits_scalar pieces (Some (Number n)) = tri.Unknown
fits_scalar pieces (Some (Id n)) = tri.Unknown
fits_scalar pieces None = tri.Unknown

-- LIKE with a null on its left is unknown
abbrev pub like_of : List ℕ → Option Scalar → Tri
like_of pattern left = fits_scalar (pieces_of (chars pattern)) left
