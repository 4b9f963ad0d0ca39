-- The kinds of a clause's parts.
use Rattle.std.specs.Prelude.{ℕ, Bool, true, false, not, List, [], ◌∷◌, Option, Some, None, slice_index_or}
use Rattle.shape_base.specs.declared.definition.Column.{Column}
use Rattle.shape_base.specs.Tables.{place_of}
use Rattle.pg_values.specs.declared.kind.Kind.{Kind}
use Rattle.pg_values.specs.declared.kind.Kind.TheVariants as kinds
use Rattle.pg_values.specs.Values.{kind_under, has_value}
use Rattle.where_grammar.specs.Tree.{Tree, AnyOf, AllOf, NotOf, IsOf, DistinctOf, Compared, WithinOf, BetweenOf, LikeOf, NameOf, IntOf, QuotedOf, BoolOf, NullOf}

-- the kind of the column in a place
abbrev pub kind_at : List Column → ℕ → Kind
kind_at c place = kind_under (slice_index_or c place (record { name = []; oid = 0 })).oid

abbrev pub kind_in_place : List Column → Option ℕ → Kind
kind_in_place c None = kinds.Other
kind_in_place c (Some place) = kind_at c place

-- the kind of a part; a string and NULL are open
abbrev pub kind_of_part : List Column → Tree → Option Kind
kind_of_part c (AnyOf ts) = Some kinds.Boolean
kind_of_part c (AllOf ts) = Some kinds.Boolean
kind_of_part c (NotOf t) = Some kinds.Boolean
kind_of_part c (IsOf t negated test) = Some kinds.Boolean
kind_of_part c (DistinctOf l negated r) = Some kinds.Boolean
kind_of_part c (Compared op l r) = Some kinds.Boolean
kind_of_part c (WithinOf l negated ts) = Some kinds.Boolean
kind_of_part c (BetweenOf l negated low high) = Some kinds.Boolean
kind_of_part c (LikeOf l negated pattern) = Some kinds.Boolean
kind_of_part c (NameOf name) = Some (kind_in_place c (place_of c name))
kind_of_part c (IntOf n) = Some kinds.BigInt
kind_of_part c (QuotedOf text) = None
kind_of_part c (BoolOf b) = Some kinds.Boolean
kind_of_part c NullOf = None

abbrev pub or_kind : Option Kind → Kind → Kind
or_kind None behind = behind
or_kind (Some kind) behind = kind

-- the first kind from the left among parts that is not open, or text
abbrev pub common : List Column → List Tree → Kind
common c [] = kinds.Text
common c (part ∷ parts) = or_kind (kind_of_part c part) (common c parts)

abbrev pub is_other : Kind → Bool
is_other kinds.Other = true
is_other kinds.Boolean = false
is_other kinds.SmallInt = false
is_other kinds.Integer = false
is_other kinds.BigInt = false
is_other kinds.Text = false
is_other kinds.Uuid = false

abbrev pub is_integer : Kind → Bool
is_integer kinds.SmallInt = true
is_integer kinds.Integer = true
is_integer kinds.BigInt = true
is_integer kinds.Boolean = false
is_integer kinds.Text = false
is_integer kinds.Uuid = false
is_integer kinds.Other = false

abbrev pub is_boolean : Kind → Bool
is_boolean kinds.Boolean = true
is_boolean kinds.SmallInt = false
is_boolean kinds.Integer = false
is_boolean kinds.BigInt = false
is_boolean kinds.Text = false
is_boolean kinds.Uuid = false
is_boolean kinds.Other = false

abbrev pub is_text : Kind → Bool
is_text kinds.Text = true
is_text kinds.Boolean = false
is_text kinds.SmallInt = false
is_text kinds.Integer = false
is_text kinds.BigInt = false
is_text kinds.Uuid = false
is_text kinds.Other = false

abbrev pub is_uuid : Kind → Bool
is_uuid kinds.Uuid = true
is_uuid kinds.Boolean = false
is_uuid kinds.SmallInt = false
is_uuid kinds.Integer = false
is_uuid kinds.BigInt = false
is_uuid kinds.Text = false
is_uuid kinds.Other = false

-- the class of a kind: bool; the three integers; text and varchar; uuid. No other is in one
abbrev pub is_of_class : Kind → Kind → Bool
is_of_class kinds.Boolean kind = is_boolean kind
is_of_class kinds.SmallInt kind = is_integer kind
is_of_class kinds.Integer kind = is_integer kind
is_of_class kinds.BigInt kind = is_integer kind
is_of_class kinds.Text kind = is_text kind
is_of_class kinds.Uuid kind = is_uuid kind
is_of_class kinds.Other kind = false

abbrev pub is_open_or : Kind → Option Kind → Bool
is_open_or kind None = true
is_open_or kind (Some second) = is_of_class kind second

-- a part that may stand where the kind is asked for
abbrev pub suits : List Column → Kind → Tree → Bool
suits c kind part = is_open_or kind (kind_of_part c part)

-- a string without a value under the kind
abbrev pub is_bad_literal : Kind → Tree → Bool
is_bad_literal kind (QuotedOf text) = not (has_value kind text)
is_bad_literal kind (AnyOf ts) = false
is_bad_literal kind (AllOf ts) = false
is_bad_literal kind (NotOf t) = false
is_bad_literal kind (IsOf t negated test) = false
is_bad_literal kind (DistinctOf l negated r) = false
is_bad_literal kind (Compared op l r) = false
is_bad_literal kind (WithinOf l negated ts) = false
is_bad_literal kind (BetweenOf l negated low high) = false
is_bad_literal kind (LikeOf l negated pattern) = false
is_bad_literal kind (NameOf name) = false
is_bad_literal kind (IntOf n) = false
is_bad_literal kind (BoolOf b) = false
is_bad_literal kind NullOf = false
