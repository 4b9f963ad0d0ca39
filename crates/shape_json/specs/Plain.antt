-- Plain entries: those that a body is read back to.
use Rattle.std.specs.Prelude.{◌≡◌, Bool, true, false, ◌&&◌, List, [], ◌∷◌}
use Rattle.std.specs.List.{list_all}
use Rattle.std.specs.Ordering.{nat_cmp, is_lt}
use Rattle.std.specs.Cmp.Lexicographic.{slice_cmp}
use Rattle.shape_base.specs.declared.offset.Offset.{Offset}
use Rattle.shape_base.specs.declared.offset.Offset.TheVariants.{Start, At}
use Rattle.shape_base.specs.declared.entry.Op.{Op}
use Rattle.shape_base.specs.declared.entry.Op.TheVariants.{Insert, Update, Delete}
use Rattle.shape_base.specs.declared.entry.Cell.{Cell}
use Rattle.shape_base.specs.declared.entry.Entry.{Entry}

-- the names rise in byte order, so no two are equal
abbrev pub rise_by_name : List Cell → Bool
rise_by_name [] = true
rise_by_name (c ∷ []) = true
rise_by_name (c ∷ d ∷ cells) = is_lt (slice_cmp nat_cmp c.name d.name) && rise_by_name (d ∷ cells)

abbrev pub is_at : Offset → Bool
is_at Start = false
is_at (At lsn pos) = true

-- a delete has no cells
abbrev pub fit : Op → List Cell → Bool
fit Insert cells = true
fit Update cells = true
fit Delete [] = true
fit Delete (c ∷ cells) = false

-- An entry is plain where its offset is not the start, its cells rise by their names, and a delete has none.
abbrev pub is_plain : Entry → Bool
is_plain e = is_at e.offset && (rise_by_name e.cells && fit e.op e.cells)

abbrev pub ArePlain : List Entry → Type 0
ArePlain es = list_all is_plain es ≡ true
