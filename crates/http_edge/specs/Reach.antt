-- What a client has reached of a history.
use Rattle.std.specs.Prelude.{ℕ, max, List, [], ◌∷◌, ◌++◌, drop, Option, None, Some}
use Rattle.shape_base.specs.declared.handle.Handle.{Handle}
use Rattle.shape_base.specs.declared.history.History.{History}
use Rattle.shape_base.specs.Tables.{table_after}
use Rattle.shape_base.specs.declared.entry.Entry.{Entry}
use Rattle.shape_base.specs.Shape.{Map, shape_rows, shown}
use Rattle.shape_base.specs.Log.{point, start_from, later}
use Rattle.http_edge.specs.World.{Kept, World}

abbrev pub point_kept : History → Option Kept → ℕ → ℕ
point_kept h None n = 0
point_kept h (Some s) n = point h s.knows s.step n

-- The steps that the log of a number up to commit n shows.
abbrev pub point_at : World → ℕ → ℕ → ℕ
point_at w number n = point_kept w.history (w.shapes number) n

abbrev pub rows_kept : History → Option Kept → ℕ → Option Map
rows_kept h None k = None
rows_kept h (Some s) k = shape_rows s.knows (table_after h s.knows.definition.table k)

-- The selected rows of a number's shape after the first k steps.
abbrev pub rows_at : World → ℕ → ℕ → Option Map
rows_at w number k = rows_kept w.history (w.shapes number) k

-- the greater of what was reached and a point
abbrev pub farther : Option ℕ → ℕ → ℕ
farther None p = p
farther (Some r) p = max r p

-- The greatest point among the logs of a number up to these commits; none without any.
abbrev pub reach_of : World → ℕ → List ℕ → Option ℕ
reach_of w number [] = None
reach_of w number (n ∷ ns) = Some (farther (reach_of w number ns) (point_at w number n))

-- What a client has reached under its present handle, by the commits shown at the replies that ended up to date and that it took under that handle.
abbrev pub reach_under : World → Option Handle → List ℕ → Option ℕ
reach_under w None ns = None
reach_under w (Some h) ns = reach_of w h.number ns

-- ---- all that a log can come to

abbrev pub whole_kept : History → Option Kept → List Entry
whole_kept h None = []
whole_kept h (Some s) = start_from 1 (shown s.knows s.snapshot) ++ later s.knows (drop s.step h.steps)

-- All entries that the log of a number can ever have. Each of its logs is a front of these.
abbrev pub whole_log : World → ℕ → List Entry
whole_log w number = whole_kept w.history (w.shapes number)
