-- Where a page ends, and when there is none.
use Rattle.std.specs.Prelude.{◌≡◌, ℕ, Bool, true, false, Option, None, Some}
use Rattle.shape_base.specs.declared.offset.Offset.{Offset}
use Rattle.shape_base.specs.Offsets.{is_before}
use Rattle.chunked_log.specs.declared.log.PageError.{PageError}
use Rattle.chunked_log.specs.declared.log.PageError.TheVariants.{OffsetAhead, OutOfMemory}

-- the offset is after the end of the log, and that end is told; or memory was wanted for a page that is there
abbrev pub IsNoPage : Offset → Offset → PageError → Type 0
IsNoPage end offset (OffsetAhead told) = (told ≡ end) × (is_before end offset ≡ true)
IsNoPage end offset OutOfMemory = is_before end offset ≡ false

-- where a page from a place on ends, and whether it is up to date: at the end of the chunk, where it is closed, and else at the end of so many entries
abbrev pub StopsAt : Option ℕ → ℕ → ℕ × Bool → Type 0
StopsAt (Some end) count stop = (stop.0 ≡ end) × (stop.1 ≡ false)
StopsAt None count stop = (stop.0 ≡ count) × (stop.1 ≡ true)
