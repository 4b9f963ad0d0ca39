-- Laws over the history of a shape.
use Rattle.std.specs.Prelude.{◌≡◌, ℕ, ◌<◌, List, [], ◌∷◌, ◌++◌, false, None, Some}
use Rattle.shape_base.specs.declared.limits.Limits.{Limits}
use Rattle.shape_base.specs.declared.offset.Offset.{Offset}
use Rattle.shape_base.specs.Snapshot.{Snapshot}
use Rattle.shape_base.specs.Log.{IsFront}
use Rattle.shape_json.specs.Page.{page_of}
use Rattle.shape_json.specs.Reading.{HaveOffsets}
use Rattle.shape_json.specs.ShapeHistory.{Reader, ShapeEvent, snapshot_in, log_after, drop_of, last_lsn}
use Rattle.shape_state.specs.declared.state.State.{State}
use Rattle.shape_state.specs.Standing.{Stands, IsLater}

-- An event more that does not drop the shape leaves the log as a front of the log.
abbrev pub LogGrows : Type 0
LogGrows = (r : Reader) (l : Limits) (snapshot : Snapshot) (events : List ShapeEvent) (event : ShapeEvent) → snapshot_in events ≡ Some snapshot → drop_of r l (events ++ event ∷ []) ≡ None
    → IsFront (log_after r.knows snapshot events) (log_after r.knows snapshot (events ++ event ∷ []))

-- A page that ends a closed chunk stays for each longer history that does not drop the shape.
abbrev pub PageSettles : Type 0
PageSettles = (r : Reader) (l : Limits) (snapshot : Snapshot) (events later : List ShapeEvent) (o : Offset) → snapshot_in events ≡ Some snapshot → drop_of r l (events ++ later) ≡ None
    → (page_of l.chunk (log_after r.knows snapshot events) o).up_to_date ≡ false → page_of l.chunk (log_after r.knows snapshot (events ++ later)) o ≡ page_of l.chunk (log_after r.knows snapshot events) o

-- A commit with a greater LSN than the last one's comes after all that the shape has.
abbrev pub ComesLater : Type 0
ComesLater = (r : Reader) (s : State) (events : List ShapeEvent) (lsn : ℕ) → Stands r s events → last_lsn events < lsn → IsLater s.kept lsn

-- Where events do not drop a shape that stands for them, the offsets of its log have 64 bits.
abbrev pub LogIsShort : Type 0
LogIsShort = (r : Reader) (s : State) (events : List ShapeEvent) (snapshot : Snapshot) → Stands r s events → drop_of r s.limits events ≡ None → snapshot_in events ≡ Some snapshot → HaveOffsets (log_after r.knows snapshot events)
