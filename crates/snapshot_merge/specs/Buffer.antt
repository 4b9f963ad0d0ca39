-- Transactions that wait, and their bytes.
use Rattle.std.specs.Prelude.{ℕ, ◌+◌, min, List, [], ◌∷◌}
use Rattle.shape_base.specs.declared.change.Tx.{Tx}

-- the bytes of the kept messages of transactions
abbrev pub bytes_of : List Tx → ℕ
bytes_of [] = 0
bytes_of (tx ∷ txs) = tx.bytes + bytes_of txs

-- a sum that ends at 2^64 - 1
abbrev pub capped : ℕ → ℕ
capped n = min n 18446744073709551615
