-- The values of texts under column types, and their order.
use Rattle.std.specs.Prelude.{◌≡◌, ℕ, ℤ, pos, negsuc, Bool, true, ◌&&◌, ◌||◌, ◌==◌, if◌then◌else◌, List, length, nat_lt, codes, is_some, Option, Some, None}
use Rattle.std.specs.Str.{bytes_eq, all_ascii_digits}
use Rattle.std.specs.Str.Parse.{without_leading_sign, signed_digits_value}
use Rattle.std.specs.Int.{from_be_bytes, w128}
use Rattle.std.specs.declared.cmp.Ordering.{Ordering}
use Rattle.std.specs.Ordering.{nat_cmp, int_cmp, bool_cmp}
use Rattle.std.specs.Cmp.Lexicographic.{slice_cmp}
use Rattle.uuid.specs.Text.{parsed_hyphenated}
use Rattle.pg_values.specs.declared.kind.Kind.{Kind}
use Rattle.pg_values.specs.declared.kind.Kind.TheVariants.{Boolean, SmallInt, Integer, BigInt, Text, Uuid, Other}

-- the kind of the type with this OID
abbrev pub kind_under : ℕ → Kind
kind_under oid =
    if oid == 16 then Boolean
    else if oid == 20 then BigInt
    else if oid == 21 then SmallInt
    else if oid == 23 then Integer
    else if (oid == 25) || (oid == 1043) then Text
    else if oid == 2950 then Uuid
    else Other

-- the kinds whose values are numbers
abbrev pub IsIntegerKind : Kind → Type 0
IsIntegerKind SmallInt = Unit {0}
IsIntegerKind Integer = Unit {0}
IsIntegerKind BigInt = Unit {0}
IsIntegerKind Boolean = ⊥
IsIntegerKind Text = ⊥
IsIntegerKind Uuid = ⊥
IsIntegerKind Other = ⊥

-- the value of a boolean's text: `t` and `true` are true, and of the others `f` and `false` have a value
abbrev pub truth_value : List ℕ → Bool
truth_value text = bytes_eq text (codes "t") || bytes_eq text (codes "true")

abbrev pub is_falsehood : List ℕ → Bool
is_falsehood text = bytes_eq text (codes "f") || bytes_eq text (codes "false")

-- one decimal digit or more, and nothing else
abbrev pub is_numeral : List ℕ → Bool
is_numeral text = nat_lt 0 (length text) && all_ascii_digits text

-- the number that a sign, or none, and digits write
abbrev pub number_value : List ℕ → ℤ
number_value text = signed_digits_value 10 text

-- the range of the type is from -limit to limit - 1
abbrev pub limit_of : Kind → ℕ
limit_of SmallInt = 32768
limit_of Integer = 2147483648
limit_of BigInt = 9223372036854775808
limit_of Boolean = 0
limit_of Text = 0
limit_of Uuid = 0
limit_of Other = 0

abbrev pub is_within : ℕ → ℤ → Bool
is_within limit (pos n) = nat_lt n limit
is_within limit (negsuc n) = nat_lt n limit

-- a sign, or none, and digits, in the type's range
abbrev pub is_number : Kind → List ℕ → Bool
is_number kind text = is_numeral (without_leading_sign text) && is_within (limit_of kind) (number_value text)

-- the 128-bit number of a uuid's text
abbrev pub number_of_bytes : Option (List ℕ) → ℕ
number_of_bytes (Some bytes) = from_be_bytes w128 bytes
number_of_bytes None = 0

abbrev pub uuid_value : List ℕ → ℕ
uuid_value text = number_of_bytes (parsed_hyphenated text)

-- whether the text has a value under the type
abbrev pub has_value : Kind → List ℕ → Bool
has_value Boolean text = truth_value text || is_falsehood text
has_value SmallInt text = is_number SmallInt text
has_value Integer text = is_number Integer text
has_value BigInt text = is_number BigInt text
has_value Text text = true
has_value Uuid text = is_some (parsed_hyphenated text)
has_value Other text = true

-- how the values of two texts stand to one another. No call compares texts of the last kind
abbrev pub order_of : Kind → List ℕ → List ℕ → Ordering
order_of Boolean a b = bool_cmp (truth_value a) (truth_value b)
order_of SmallInt a b = int_cmp (number_value a) (number_value b)
order_of Integer a b = int_cmp (number_value a) (number_value b)
order_of BigInt a b = int_cmp (number_value a) (number_value b)
order_of Text a b = slice_cmp nat_cmp a b
order_of Uuid a b = nat_cmp (uuid_value a) (uuid_value b)
order_of Other a b = slice_cmp nat_cmp a b

-- two texts write one value
abbrev pub IsSameValue : Kind → List ℕ → List ℕ → Type 0
IsSameValue Boolean a b = truth_value a ≡ truth_value b
IsSameValue SmallInt a b = number_value a ≡ number_value b
IsSameValue Integer a b = number_value a ≡ number_value b
IsSameValue BigInt a b = number_value a ≡ number_value b
IsSameValue Text a b = a ≡ b
IsSameValue Uuid a b = uuid_value a ≡ uuid_value b
IsSameValue Other a b = a ≡ b
