-- Laws of values.
use Rattle.std.specs.Prelude.{◌≡◌, ◌↔◌, ℕ, ℤ, ◌<◌, true, false, List, length, codes, All}
use Rattle.std.specs.Fmt.{signed_decimal}
use Rattle.std.specs.Int.{from_be_bytes, w128}
use Rattle.std.specs.Cmp.{IsTotalOrder}
use Rattle.std.specs.declared.cmp.Ordering.TheVariants.{Equal}
use Rattle.uuid.specs.Text.{hyphenated_text, lower}
use Rattle.pg_values.specs.declared.kind.Kind.{Kind}
use Rattle.pg_values.specs.declared.kind.Kind.TheVariants.{Boolean, SmallInt, Integer, BigInt, Uuid}
use Rattle.pg_values.specs.Values.{IsIntegerKind, has_value, is_within, limit_of, truth_value, number_value, uuid_value, order_of, IsSameValue}

-- the order of each type is total, and equal just where the values are
abbrev pub OrderIsTotal : Type 0
OrderIsTotal = (kind : Kind) → IsTotalOrder (order_of kind) × ((a b : List ℕ) → (order_of kind a b ≡ Equal) ↔ IsSameValue kind a b)

-- a number of a type is one of each wider type
abbrev pub WiderTypesHaveTheNumbersOfNarrower : Type 0
WiderTypesHaveTheNumbersOfNarrower = (text : List ℕ)
    → (has_value SmallInt text ≡ true → has_value Integer text ≡ true)
    × (has_value Integer text ≡ true → has_value BigInt text ≡ true)

-- a number in decimal, in the range of its type
abbrev pub NumbersAreRead : Type 0
NumbersAreRead = (kind : Kind) (n : ℤ) → IsIntegerKind kind → is_within (limit_of kind) n ≡ true
    → (has_value kind (signed_decimal n) ≡ true) × (number_value (signed_decimal n) ≡ n)

-- t and f
abbrev pub TruthsAreRead : Type 0
TruthsAreRead = (has_value Boolean (codes "t") ≡ true) × (truth_value (codes "t") ≡ true)
    × (has_value Boolean (codes "f") ≡ true) × (truth_value (codes "f") ≡ false)

-- sixteen bytes, as hexadecimal digits in lower case with hyphens
abbrev pub UuidsAreRead : Type 0
UuidsAreRead = (bytes : List ℕ) → length bytes ≡ 16 → All (λ b. b < 256) bytes
    → (has_value Uuid (hyphenated_text lower bytes) ≡ true) × (uuid_value (hyphenated_text lower bytes) ≡ from_be_bytes w128 bytes)

-- what PostgreSQL prints of these types
abbrev pub PrintedTextsHaveValues : Type 0
PrintedTextsHaveValues = NumbersAreRead × TruthsAreRead × UuidsAreRead
