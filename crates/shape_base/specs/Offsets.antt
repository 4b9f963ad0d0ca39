-- The order of offsets in a log.
use Rattle.std.specs.Prelude.{Bool, true, false, ◌&&◌, ◌||◌, ◌==◌, nat_lt, if◌then◌else◌, List, [], ◌∷◌}
use Rattle.shape_base.specs.declared.offset.Offset.{Offset}
use Rattle.shape_base.specs.declared.offset.Offset.TheVariants.{Start, At}
use Rattle.shape_base.specs.declared.entry.Entry.{Entry}

-- The start is before every other offset; otherwise the LSN decides, and then the place.
abbrev pub is_before : Offset → Offset → Bool
is_before Start Start = false
is_before Start (At b j) = true
is_before (At a i) Start = false
is_before (At a i) (At b j) = nat_lt a b || ((a == b) && nat_lt i j)

-- each entry's offset is after the one before it, and the first is after o
abbrev pub rises_after : Offset → List Entry → Bool
rises_after o [] = true
rises_after o (e ∷ es) = is_before o e.offset && rises_after e.offset es

-- the entries up to the first one that is after the offset, and those from it on
abbrev pub upto : Offset → List Entry → List Entry
upto o [] = []
upto o (e ∷ es) = if is_before o e.offset then [] else e ∷ upto o es

abbrev pub past : Offset → List Entry → List Entry
past o [] = []
past o (e ∷ es) = if is_before o e.offset then e ∷ es else past o es

-- an asked offset as the end of a page without entries
abbrev pub end_from : Offset → Offset
end_from Start = At 0 0
end_from (At lsn pos) = At lsn pos
