-- The JSON values of entries and bodies, as `serde_json` has them; what the steps of the reader owe.
use Rattle.std.specs.Prelude.{◌≡◌, ℕ, List, [], ◌∷◌, codes, Result, MatchResult}
use Rattle.std.specs.List.{AllByRecursion}
use Rattle.serde_json.specs.Data.{Data, null, string, array, object, Items, no_items, item, Members, no_members, member}
use Rattle.shape_base.specs.declared.value.Value.{Value}
use Rattle.shape_base.specs.declared.value.Value.TheVariants.{Null, Words}
use Rattle.shape_base.specs.declared.entry.Op.{Op}
use Rattle.shape_base.specs.declared.entry.Cell.{Cell}
use Rattle.shape_base.specs.declared.entry.Entry.{Entry}
use Rattle.shape_base.specs.OffsetText.{offset_text, IsOffset}
use Rattle.shape_json.specs.declared.control.Control.{Control}
use Rattle.shape_json.specs.declared.control.Control.TheVariants.{Nothing, UpToDate, MustRefetch}
use Rattle.shape_json.specs.declared.read.BodyError.{BodyError}
use Rattle.shape_json.specs.declared.read.BodyError.TheVariants as errors
use Rattle.shape_json.specs.Body.{operation}

abbrev pub value_data : Value → Data
value_data Null = null
value_data (Words words) = string words

abbrev pub cells_data : List Cell → Members
cells_data [] = no_members
cells_data (c ∷ cells) = member c.name (value_data c.value) (cells_data cells)

abbrev pub headers_data : Op → Data
headers_data op = object (member (codes "operation") (string (operation op)) no_members)

abbrev pub entry_data : Entry → Data
entry_data e = object (member (codes "headers") (headers_data e.op) (member (codes "key") (string e.key) (member (codes "offset") (string (offset_text e.offset)) (member (codes "value") (object (cells_data e.cells)) no_members))))

abbrev pub said_data : List ℕ → Data
said_data word = object (member (codes "headers") (object (member (codes "control") (string word) no_members)) no_members)

abbrev pub control_items : Control → Items
control_items Nothing = no_items
control_items UpToDate = item (said_data (codes "up-to-date")) no_items
control_items MustRefetch = item (said_data (codes "must-refetch")) no_items

abbrev pub items_data : List Entry → Control → Items
items_data [] control = control_items control
items_data (e ∷ es) control = item (entry_data e) (items_data es control)

abbrev pub body_data : List Entry → Control → Data
body_data es control = array (items_data es control)

-- the answer is that value, or want of memory
abbrev pub Reads : {A : Type 0} → Result A BodyError → A → Type 0
Reads r a = MatchResult r (λ b. b ≡ a) (λ e. e ≡ errors.OutOfMemory)

-- offsets of 64 bits
abbrev pub HaveOffsets : List Entry → Type 0
HaveOffsets es = AllByRecursion (λ (e : Entry). IsOffset e.offset) es
