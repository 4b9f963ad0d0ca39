-- A script is a list of records: a kind byte, four bytes of length, and the payload.
use Rattle.std.specs.Prelude.{ℕ, zero, suc, List, [], ◌∷◌, ◌++◌, length, take, drop, Option, Some, None, nat_lt, if◌then◌else◌}
use Rattle.script.specs.Records.{Item}
use Rattle.std.specs.Int.{w32, to_be_bytes, from_be_bytes}

-- a record's bytes
abbrev pub spelled : Item → List ℕ
spelled item = item.kind ∷ to_be_bytes w32 (length item.payload) ++ item.payload

-- a payload of n bytes, and the bytes after it
abbrev pub payload_at : ℕ → ℕ → List ℕ → Option (Item × List ℕ)
payload_at kind n bytes = if nat_lt (length bytes) n then None else Some (record { kind = kind; payload = take n bytes }, drop n bytes)

-- the whole record at the front, and the bytes after it
abbrev pub item_at : List ℕ → Option (Item × List ℕ)
item_at (kind ∷ a ∷ b ∷ c ∷ d ∷ bytes) = payload_at kind (from_be_bytes w32 (a ∷ b ∷ c ∷ d ∷ [])) bytes
item_at [] = None
item_at (_ ∷ []) = None
item_at (_ ∷ _ ∷ []) = None
item_at (_ ∷ _ ∷ _ ∷ []) = None
item_at (_ ∷ _ ∷ _ ∷ _ ∷ []) = None

abbrev pub items_then : (List ℕ → List Item) → Option (Item × List ℕ) → List Item
items_then next None = []
items_then next (Some found) = found.0 ∷ next found.1

-- the whole records in order, at most n of them
unfoldable pub items_in : ℕ → List ℕ → List Item
items_in zero bytes = []
items_in (suc n) bytes = items_then (items_in n) (item_at bytes)

-- the whole records, in order; each has at least five bytes
unfoldable pub items_of : List ℕ → List Item
items_of bytes = items_in (length bytes) bytes
