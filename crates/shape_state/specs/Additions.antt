-- What a commit does that the snapshot does not show.
use Rattle.std.specs.Prelude.{◌≡◌, ℕ, ◌+◌, List, None, Some}
use Rattle.shape_base.specs.declared.change.Tx.{Tx}
use Rattle.shape_base.specs.declared.entry.Entry.{Entry}
use Rattle.shape_base.specs.declared.limits.Limits.{Limits}
use Rattle.chunked_log.specs.Chunked.{Writes}
use Rattle.shape_json.specs.ShapeHistory.{Reader, bytes_of, log_full, entries_in, drop_by}
use Rattle.shape_state.specs.declared.adding.Addition.{Addition}
use Rattle.shape_state.specs.declared.adding.Addition.TheVariants.{Fits, Drops}

-- A log of so many bytes may have these entries, and they were written; or it may not, for this cause.
abbrev pub IsWeighed : Limits → ℕ → List Entry → Addition → Type 0
IsWeighed l bytes entries (Fits written) = (log_full l (bytes + bytes_of entries) ≡ None) × Writes written entries
IsWeighed l bytes entries (Drops cause) = log_full l (bytes + bytes_of entries) ≡ Some cause

-- It does not drop a shape whose log has so many bytes, and its entries were written; or it drops the shape for this cause.
abbrev pub IsAddition : Reader → Limits → ℕ → Tx → Addition → Type 0
IsAddition r l bytes tx (Fits written) = (drop_by r l bytes tx ≡ None) × Writes written (entries_in r.knows tx)
IsAddition r l bytes tx (Drops cause) = drop_by r l bytes tx ≡ Some cause
