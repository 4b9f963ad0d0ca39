-- The parts of records as bytes, and which have any.
use Rattle.std.specs.Prelude.{ℕ, Bool, true, ◌&&◌, ◌^◌, List, [], ◌∷◌, ◌++◌, length, nat_lt}
use Rattle.std.specs.List.{flat_map, list_all}
use Rattle.std.specs.Int.{w16, w32, w64, to_be_bytes}
use Rattle.std.specs.Str.{is_utf8}
use Rattle.shape_base.specs.declared.definition.Column.{Column}
use Rattle.shape_base.specs.declared.value.Value.{Value}
use Rattle.shape_base.specs.declared.value.Value.TheVariants.{Null, Words}

-- the bytes of a value, and whether it fits: one that does not has none
pub record Spelling : Type 0 where
  pub bytes : List ℕ
  pub fits : Bool

infixr 30 ◌&◌
-- one after the other
abbrev pub ◌&◌ : Spelling → Spelling → Spelling
a & b = record { bytes = a.bytes ++ b.bytes; fits = a.fits && b.fits }

-- where a test holds too
abbrev pub only_if : Bool → Spelling → Spelling
only_if test s = record { bytes = s.bytes; fits = test && s.fits }

abbrev pub empty : Spelling
empty = record { bytes = []; fits = true }

-- the bytes themselves
abbrev pub raw : List ℕ → Spelling
raw bytes = record { bytes = bytes; fits = true }

-- a number below the limit, the high byte first
abbrev pub int16 : ℕ → Spelling
int16 n = record { bytes = to_be_bytes w16 n; fits = nat_lt n (2 ^ 16) }

abbrev pub int32 : ℕ → Spelling
int32 n = record { bytes = to_be_bytes w32 n; fits = nat_lt n (2 ^ 32) }

abbrev pub int64 : ℕ → Spelling
int64 n = record { bytes = to_be_bytes w64 n; fits = nat_lt n (2 ^ 64) }

abbrev pub has_no_zero : List ℕ → Bool
has_no_zero bytes = list_all (λ b. nat_lt 0 b) bytes

-- the bytes are UTF-8
unfoldable pub is_text : List ℕ → Bool
is_text bytes = is_utf8 bytes

-- a String: UTF-8 without a zero byte, and a zero byte
abbrev pub text : List ℕ → Spelling
text bytes = record { bytes = bytes ++ 0 ∷ []; fits = is_text bytes && has_no_zero bytes }

-- a length of four bytes, and that many bytes of UTF-8
abbrev pub long_text : List ℕ → Spelling
long_text bytes = only_if (is_text bytes) (int32 (length bytes) & raw bytes)

-- all of them, in order
abbrev pub all : {A : Type 0} → (A → Spelling) → List A → Spelling
all {A} f xs = record { bytes = flat_map (λ (x : A). (f x).bytes) xs; fits = list_all (λ (x : A). (f x).fits) xs }

-- a count of two bytes, and that many of them
abbrev pub short_list : {A : Type 0} → (A → Spelling) → List A → Spelling
short_list f xs = int16 (length xs) & all f xs

-- a count of four bytes, and that many of them
abbrev pub long_list : {A : Type 0} → (A → Spelling) → List A → Spelling
long_list f xs = int32 (length xs) & all f xs

-- String name, Int32 OID of its type
abbrev pub column : Column → Spelling
column c = text c.name & int32 c.oid

-- `n` for null; `t` before a text
abbrev pub value : Value → Spelling
value Null = raw (110 ∷ [])
value (Words words) = raw (116 ∷ []) & long_text words

abbrev pub row : List Value → Spelling
row values = short_list value values

abbrev pub rows : List (List Value) → Spelling
rows table = long_list row table
