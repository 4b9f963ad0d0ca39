-- What contracts see of a log.
use Rattle.std.specs.Prelude.{◌≡◌, ℕ, ◌≤◌, List, length, take, drop}
use Rattle.shape_base.specs.declared.offset.Offset.{Offset}
use Rattle.shape_base.specs.declared.entry.Entry.{Entry}
use Rattle.shape_base.specs.Offsets.{upto, past}

-- the entries, the sum of their sizes, and how many more entries take no memory
pub record Logged : Type 0 where
  pub entries : List Entry
  pub bytes : ℕ
  pub spare : ℕ

-- the first n entries are those up to the offset, and the others are past it
pub record IsBound (entries : List Entry) (offset : Offset) (n : ℕ) : Type 0 where
  pub within : n ≤ length entries
  pub before : take n entries ≡ upto offset entries
  pub after : drop n entries ≡ past offset entries
