-- Reading a key text byte by byte: what has been read, and what UTF-8 still wants.
use Rattle.std.specs.Prelude.{◌≡◌, ℕ, zero, suc, ◌≤◌, Bool, true, false, List, [], ◌∷◌, ◌++◌}
use Rattle.std.specs.List.{flat_map, AllByRecursion}
use Rattle.std.specs.Str.{IsUtf8}
use Rattle.shape_base.specs.Shape.{doubled, quoted}
use Rattle.change_map.specs.Keys.{BeginsKey}
use Rattle.change_map.specs.declared.wanted.Wanted.{Wanted}
use Rattle.change_map.specs.declared.key_reader.Spot.{Spot}
use Rattle.change_map.specs.declared.key_reader.Spot.TheVariants.{Before, Within, Behind}
use Rattle.change_map.specs.declared.key_reader.KeyReader.{KeyReader}

-- So many bytes, the first from low to high, and the others any that go on with a character.
abbrev pub Fits : ℕ → ℕ → ℕ → List ℕ → Type 0
Fits zero low high [] = Unit {0}
Fits zero low high (b ∷ bs) = ⊥
Fits (suc n) low high [] = ⊥
Fits (suc n) low high (b ∷ bs) = (low ≤ b) × (b ≤ high) × Fits n 128 191 bs

-- Text that begins with bytes that fit, and goes on as UTF-8.
pub record GoesOn (left low high : ℕ) (rest : List ℕ) : Type 0 where
  pub lacked : List ℕ
  pub others : List ℕ
  pub split : rest ≡ lacked ++ others
  pub fits : Fits left low high lacked
  pub utf8 : IsUtf8 others

-- UTF-8 goes on after these bytes with just those that fit, and then with UTF-8.
pub record IsWanted (bytes : List ℕ) (left low high : ℕ) : Type 0 where
  pub no_ascii : 128 ≤ low
  pub range : low ≤ high
  pub whole : (lacked : List ℕ) → Fits left low high lacked → IsUtf8 (bytes ++ lacked)
  pub goes_on : (rest : List ℕ) → IsUtf8 (bytes ++ rest) → GoesOn left low high rest

abbrev pub Wants : List ℕ → Wanted → Type 0
Wants bytes w = IsWanted bytes w.left w.low w.high

-- "ns"."table"/"value" of the first parts of a key text
abbrev pub joined : List (List ℕ) → List ℕ
joined [] = []
joined (ns ∷ []) = quoted ns
joined (ns ∷ name ∷ values) = quoted ns ++ 46 ∷ quoted name ++ flat_map (λ v. 47 ∷ quoted v) values

-- what stands between them and the next part
abbrev pub closed : List (List ℕ) → List ℕ
closed [] = []
closed (ns ∷ []) = 46 ∷ []
closed (ns ∷ name ∷ values) = 47 ∷ []

-- the byte behind the part that follows them: a dot behind the first part of all, and else a slash
abbrev pub separator : List (List ℕ) → ℕ
separator [] = 46
separator (part ∷ parts) = 47

-- all up to the next part
abbrev pub opened : List (List ℕ) → List ℕ
opened parts = joined parts ++ closed parts

-- The bytes that have been read.
abbrev pub spelled : Spot → List (List ℕ) → List ℕ → List ℕ
spelled Before done current = opened done
spelled (Within wanted) done current = opened done ++ 34 ∷ flat_map doubled current
spelled Behind done current = opened done ++ quoted current

abbrev pub read_so_far : KeyReader → List ℕ
read_so_far r = spelled r.spot r.done.items r.current.items

-- What is known of the part that has not ended.
abbrev pub IsPart : Spot → List ℕ → Type 0
IsPart Before current = current ≡ []
IsPart (Within wanted) current = Wants current wanted
IsPart Behind current = IsUtf8 current

-- The parts that have ended are texts, and so is the other one but for the bytes that it wants.
pub record IsReading (r : KeyReader) : Type 0 where
  pub done : AllByRecursion IsUtf8 r.done.items
  pub part : IsPart r.spot r.current.items

-- A byte is taken, or no key text goes on with it.
abbrev pub Takes : KeyReader → KeyReader → ℕ → Bool → Type 0
Takes old new byte true = IsReading new × (read_so_far new ≡ read_so_far old ++ byte ∷ [])
Takes old new byte false = ¬ (BeginsKey (read_so_far old ++ byte ∷ []))
