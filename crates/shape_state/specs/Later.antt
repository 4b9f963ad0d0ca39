-- When a commit comes after what a shape has.
use Rattle.std.specs.Prelude.{ℕ, List, map, None, unwrap_or}
use Rattle.std.specs.List.{last_or}
use Rattle.shape_base.specs.declared.offset.Offset.{Offset}
use Rattle.shape_base.specs.declared.offset.Offset.TheVariants.{Start, At}
use Rattle.shape_base.specs.declared.change.Tx.{Tx}

-- the LSN of an offset; 0 of the start
abbrev pub lsn_in : Offset → ℕ
lsn_in Start = 0
lsn_in (At lsn pos) = lsn

-- the LSN of the last commit; 0 where there is none
abbrev pub last_of : List Tx → ℕ
last_of txs = unwrap_or (last_or None (map (λ (tx : Tx). tx.lsn) txs)) 0
