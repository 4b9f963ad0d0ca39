-- What contracts see of written entries and of a log, and the entries that these hold.
use Rattle.std.specs.Prelude.{◌≡◌, ℕ, ◌+◌, ◌≤◌, List, length, map}
use Rattle.std.specs.List.{sum, AllByRecursion}
use Rattle.std.specs.Str.{IsUtf8}
use Rattle.shape_base.specs.declared.offset.Offset.{Offset}
use Rattle.shape_base.specs.declared.entry.Entry.{Entry}
use Rattle.shape_base.specs.declared.page.Page.{Page}
use Rattle.shape_json.specs.Body.{entry_text, inner_text}
use Rattle.shape_json.specs.Page.{Part}
use Rattle.shape_json.specs.Reading.{HaveOffsets}

-- the offsets of entries, and their texts
pub record Texts : Type 0 where
  pub offsets : List Offset
  pub texts : List (List ℕ)

-- The offsets, the text at each, what a chunk's texts come to at least, how many more texts take no memory, and for how many bytes of them, commas included, there is room.
pub record Chunked : Type 0 where
  pub offsets : List Offset
  pub texts : List (List ℕ)
  pub least : ℕ
  pub spare : ℕ
  pub room : ℕ

-- each text is UTF-8
abbrev pub AreUtf8 : List (List ℕ) → Type 0
AreUtf8 texts = AllByRecursion IsUtf8 texts

abbrev pub offsets_of : List Entry → List Offset
offsets_of entries = map (λ (e : Entry). e.offset) entries

-- These entries were written, and their offsets have 64 bits.
pub record Writes (written : Texts) (entries : List Entry) : Type 0 where
  pub offsets : written.offsets ≡ offsets_of entries
  pub texts : written.texts ≡ map entry_text entries
  pub short : HaveOffsets entries

-- The log has these entries, and their offsets have 64 bits.
pub record Holds (log : Chunked) (entries : List Entry) : Type 0 where
  pub offsets : log.offsets ≡ offsets_of entries
  pub texts : log.texts ≡ map entry_text entries
  pub short : HaveOffsets entries

-- What was written can be appended without memory: there is room for the texts, and for their bytes with a comma for each.
pub record HasRoom (log : Chunked) (written : Texts) : Type 0 where
  pub spare : length written.texts ≤ log.spare
  pub room : sum (map length written.texts) + length written.texts ≤ log.room

-- A page has the entries of this part of a log as texts that commas join, and tells their number, their end, and whether nothing stands behind them.
pub record Carries (page : Page) (part : Part) : Type 0 where
  pub inner : page.inner ≡ inner_text part.entries
  pub count : page.count ≡ length part.entries
  pub end : page.end ≡ part.end
  pub up_to_date : page.up_to_date ≡ part.up_to_date
