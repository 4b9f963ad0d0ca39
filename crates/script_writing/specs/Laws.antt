-- What is written is read back, by the definitions of those who read scripts.
use Rattle.std.specs.Prelude.{◌≡◌, ℕ, ◌<◌, ◌^◌, true, List, ◌++◌, length, map, Some, Ok}
use Rattle.std.specs.List.{flat_map, list_all, AllByRecursion}
use Rattle.script.specs.declared.record.Record.{Record}
use Rattle.script.specs.Records.{Item, record_of}
use Rattle.script.specs.Items.{item_at, items_of}
use Rattle.script_writing.specs.Records.{record_spelling, item_of}

-- A record that fits is found at the front of its bytes, whatever follows, and asks for what it was written of.
pub record IsReadBack (r : Record) : Type 0 where
  pub found : (rest : List ℕ) → item_at ((record_spelling r).bytes ++ rest) ≡ Some (item_of r, rest)
  pub asks : record_of (item_of r) ≡ Ok r

abbrev pub RecordsAreReadBack : Type 0
RecordsAreReadBack = (r : Record) → (record_spelling r).fits ≡ true → IsReadBack r

-- A script of records that fit, one after the other, is read as these records.
abbrev pub ScriptsAreReadBack : Type 0
ScriptsAreReadBack = (rs : List Record) → list_all (λ (r : Record). (record_spelling r).fits) rs ≡ true → items_of (flat_map (λ (r : Record). (record_spelling r).bytes) rs) ≡ map item_of rs

-- an item of bytes, whose length has room
pub record IsItem (item : Item) : Type 0 where
  pub bytes : AllByRecursion (λ b. b < 256) item.payload
  pub room : length item.payload < 2 ^ 32

-- it is the one item that is written of this record, which fits
pub record IsOf (item : Item) (r : Record) : Type 0 where
  pub is : item ≡ item_of r
  pub fits : (record_spelling r).fits ≡ true

-- Each item that asks for a record is the one that is written of it. So what does not fit is asked for by no item.
abbrev pub ItemsAreWritten : Type 0
ItemsAreWritten = (item : Item) (r : Record) → IsItem item → record_of item ≡ Ok r → IsOf item r
