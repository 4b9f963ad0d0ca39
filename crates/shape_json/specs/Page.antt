-- The page of a log after an offset: the part of it that one reply carries.
use Rattle.std.specs.Prelude.{◌≡◌, ℕ, ◌+◌, ◌-◌, ◌++◌, nat_lt, Bool, true, false, if◌then◌else◌, List, [], ◌∷◌, length, map, take, Option, None, Some}
use Rattle.shape_base.specs.declared.offset.Offset.{Offset}
use Rattle.shape_base.specs.declared.entry.Entry.{Entry}
use Rattle.shape_base.specs.Offsets.{upto, past, end_from}
use Rattle.shape_base.specs.Log.{last_offset}
use Rattle.shape_base.specs.Chunks.{closed_chunks}
use Rattle.shape_json.specs.Body.{entry_text}

-- of each entry the length of its text, by which a log is cut into chunks
abbrev pub sizes_of : List Entry → List ℕ
sizes_of log = map (λ e. length (entry_text e)) log

-- where the chunk ends that holds the entry in that place, if it is one of these; the first of them begins in that place
abbrev pub end_among : ℕ → List (List ℕ) → ℕ → Option ℕ
end_among first [] place = None
end_among first (chunk ∷ chunks) place = if nat_lt place (first + length chunk) then Some (first + length chunk) else end_among (first + length chunk) chunks place

-- the end of the chunk of the entry in that place, where that chunk is closed: the place behind its last entry
abbrev pub chunk_end : ℕ → List ℕ → ℕ → Option ℕ
chunk_end least sizes place = end_among 0 (closed_chunks least sizes) place

-- a part of a log, its end, and whether nothing stands behind it
pub record Part : Type 0 where
  pub entries : List Entry
  pub end : Offset
  pub up_to_date : Bool

-- entries past an offset, which end at the last of them
abbrev pub part : Offset → List Entry → Bool → Part
part o entries up_to_date = record { entries = entries; end = last_offset (end_from o) entries; up_to_date = up_to_date }

-- how many entries of the log are not past the offset
abbrev pub count_upto : Offset → List Entry → ℕ
count_upto o log = length (upto o log)

-- all entries past an offset, or those up to the place where a closed chunk ends
abbrev pub part_to : List Entry → Offset → Option ℕ → Part
part_to log o None = part o (past o log) true
part_to log o (Some end) = part o (take (end - count_upto o log) (past o log)) false

-- The page after an offset: the entries past it up to the end of the first one's chunk, where that chunk is closed, and it is not up to date; otherwise all entries past it, and it is.
abbrev pub page_of : ℕ → List Entry → Offset → Part
page_of least log o = part_to log o (chunk_end least (sizes_of log) (count_upto o log))

-- It is the page of a log after an offset as far as a client can tell: the front of what is past the offset, up to its own end, and all of it where it is up to date.
pub record IsPage (log : List Entry) (o : Offset) (page : Part) : Type 0 where
  pub rest : List Entry
  pub cut : past o log ≡ page.entries ++ rest
  pub end : page.end ≡ last_offset (end_from o) page.entries
  pub all : page.up_to_date ≡ true → rest ≡ []
