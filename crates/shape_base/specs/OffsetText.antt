-- The texts of offsets.
use Rattle.std.specs.Prelude.{ℕ, ◌<◌, ◌^◌, List, ◌∷◌, ◌++◌, codes, decimal}
use Rattle.shape_base.specs.declared.offset.Offset.{Offset}
use Rattle.shape_base.specs.declared.offset.Offset.TheVariants.{Start, At}

-- -1, or the two numbers in decimal, joined by _
abbrev pub offset_text : Offset → List ℕ
offset_text Start = codes "-1"
offset_text (At lsn pos) = decimal lsn ++ 95 ∷ decimal pos

-- its numbers have 64 bits
abbrev pub IsOffset : Offset → Type 0
IsOffset Start = Unit {0}
IsOffset (At lsn pos) = (lsn < 2 ^ 64) × (pos < 2 ^ 64)
