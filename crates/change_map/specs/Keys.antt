-- Key texts, their parts, and key values that are null.
use Rattle.std.specs.Prelude.{◌≡◌, ℕ, ◌<◌, ◌≤◌, Bool, false, ◌&&◌, ◌==◌, List, ◌∷◌, ◌++◌, length, map, take, slice_index_or}
use Rattle.std.specs.List.{list_any, flat_map, AllByRecursion}
use Rattle.std.specs.Str.{IsUtf8}
use Rattle.shape_base.specs.declared.value.Value.TheVariants.{Null}
use Rattle.shape_base.specs.Tables.{Values, is_null, lacks_key, key_values}
use Rattle.shape_base.specs.Shape.{Knows, quoted, words_of, key_text}

-- a key column that is null in a row
abbrev pub is_null_key : List ℕ → Values → ℕ → Bool
is_null_key key row place = list_any (λ p. p == place) key && is_null (slice_index_or row place Null)

-- what a key text tells: a namespace, a table, and the values of the key columns
pub record Parts : Type 0 where
  pub ns : List ℕ
  pub name : List ℕ
  pub values : List (List ℕ)

-- they are texts, and there is at least one value
pub record AreParts (p : Parts) : Type 0 where
  pub ns : IsUtf8 p.ns
  pub name : IsUtf8 p.name
  pub values : AllByRecursion IsUtf8 p.values
  pub some : 0 < length p.values

-- "ns"."table"/"value"/"value"
abbrev pub parts_text : Parts → List ℕ
parts_text p = quoted p.ns ++ 46 ∷ quoted p.name ++ flat_map (λ v. 47 ∷ quoted v) p.values

-- the parts of a row's key text
abbrev pub parts_of : Knows → Values → Parts
parts_of s row = record { ns = s.served.ns; name = s.served.name; values = map words_of (key_values s.key row) }

-- in one list
abbrev pub in_one : Parts → List (List ℕ)
in_one p = p.ns ∷ p.name ∷ p.values

-- The key text of a row tells its namespace, its table and its key values apart from those of every other row, of whatever shape, whose key values are texts.
abbrev pub TellsKey : Knows → Values → List ℕ → Type 0
TellsKey s row text = (t : Knows) (other : Values) → lacks_key t.key other ≡ false → text ≡ key_text t other
    → (s.served.ns ≡ t.served.ns) × (s.served.name ≡ t.served.name) × (key_values s.key row ≡ key_values t.key other)

-- These parts have this text.
pub record Spells (p : Parts) (text : List ℕ) : Type 0 where
  pub parts : AreParts p
  pub is : text ≡ parts_text p

-- These bytes are a key text.
abbrev pub IsKeyText : List ℕ → Type 0
IsKeyText text = (p : Parts) × Spells p text

-- These are its parts, in one list.
abbrev pub IsReadAs : List ℕ → List (List ℕ) → Type 0
IsReadAs text parts = (p : Parts) × (parts ≡ in_one p) × Spells p text

-- A key text begins with these bytes.
abbrev pub BeginsKey : List ℕ → Type 0
BeginsKey bytes = (more : List ℕ) × IsKeyText (bytes ++ more)

-- the length of the longest prefix of these bytes with which a key text begins
pub record IsLongestFront (bytes : List ℕ) (n : ℕ) : Type 0 where
  pub within : n ≤ length bytes
  pub begins : BeginsKey (take n bytes)
  pub longest : (m : ℕ) → n < m → m ≤ length bytes → ¬ (BeginsKey (take m bytes))
