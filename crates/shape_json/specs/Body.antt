-- The JSON texts (RFC 8259) of entries, controls and bodies: no white space, and the members of an object in byte order of their names.
use Rattle.std.specs.Prelude.{◌≡◌, ℕ, ◌-◌, ◌^◌, min, List, [], ◌∷◌, ◌++◌, length, map, codes}
use Rattle.std.specs.Str.{IsUtf8}
use Rattle.std.specs.List.{flat_map}
use Rattle.json.specs.Print.{quoted}
use Rattle.shape_base.specs.declared.value.Value.{Value}
use Rattle.shape_base.specs.declared.value.Value.TheVariants.{Null, Words}
use Rattle.shape_base.specs.declared.entry.Op.{Op}
use Rattle.shape_base.specs.declared.entry.Op.TheVariants.{Insert, Update, Delete}
use Rattle.shape_base.specs.declared.entry.Cell.{Cell}
use Rattle.shape_base.specs.declared.entry.Entry.{Entry}
use Rattle.shape_base.specs.declared.entry.KeyedRow.{KeyedRow}
use Rattle.shape_base.specs.OffsetText.{offset_text}
use Rattle.shape_json.specs.declared.control.Control.{Control}
use Rattle.shape_json.specs.declared.control.Control.TheVariants.{Nothing, UpToDate, MustRefetch}

-- texts, joined by commas
abbrev pub joined : List (List ℕ) → List ℕ
joined [] = []
joined (text ∷ texts) = text ++ flat_map (λ next. 44 ∷ next) texts

-- null, or a JSON string: `quoted` is the text that `serde_json` writes for a string
abbrev pub value_text : Value → List ℕ
value_text Null = codes "null"
value_text (Words words) = quoted words

-- "name":value
abbrev pub cell_text : Cell → List ℕ
cell_text c = quoted c.name ++ codes ":" ++ value_text c.value

-- {"name":value,"name":value}
abbrev pub cells_text : List Cell → List ℕ
cells_text cells = codes "{" ++ joined (map cell_text cells) ++ codes "}"

-- a row by its key: the key as a JSON string, a space, the cells as a JSON object
abbrev pub row_text : KeyedRow → List ℕ
row_text row = quoted row.key ++ codes " " ++ cells_text row.cells

abbrev pub operation : Op → List ℕ
operation Insert = codes "insert"
operation Update = codes "update"
operation Delete = codes "delete"

-- {"headers":{"operation":"insert"},"key":"..","offset":"..","value":{..}}
abbrev pub entry_text : Entry → List ℕ
entry_text e = codes "{\"headers\":{\"operation\":\"" ++ operation e.op ++ codes "\"},\"key\":" ++ quoted e.key ++ codes ",\"offset\":" ++ quoted (offset_text e.offset) ++ codes ",\"value\":" ++ cells_text e.cells ++ codes "}"

-- the text of a control, where there is one
abbrev pub control_texts : Control → List (List ℕ)
control_texts Nothing = []
control_texts UpToDate = codes "{\"headers\":{\"control\":\"up-to-date\"}}" ∷ []
control_texts MustRefetch = codes "{\"headers\":{\"control\":\"must-refetch\"}}" ∷ []

-- entries, joined by commas
abbrev pub inner_text : List Entry → List ℕ
inner_text es = joined (map entry_text es)

-- A body: a JSON array of entries and at most one control, which stands last.
abbrev pub body_text : List Entry → Control → List ℕ
body_text es control = codes "[" ++ joined (map entry_text es ++ control_texts control) ++ codes "]"

-- Bytes are the texts of entries, joined by commas, and UTF-8.
pub record IsInner (bytes : List ℕ) : Type 0 where
  pub entries : List Entry
  pub joins : bytes ≡ inner_text entries
  pub utf8 : IsUtf8 bytes

-- a length or a sum, or 2^64 - 1 where that is less
abbrev pub capped : ℕ → ℕ
capped bytes = min bytes (2 ^ 64 - 1)

-- The size of an entry: the length of its text in bytes, or 2^64 - 1 where that is less.
abbrev pub size_of : Entry → ℕ
size_of e = capped (length (entry_text e))
