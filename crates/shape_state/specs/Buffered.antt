-- Commits that wait for a snapshot.
use Rattle.std.specs.Prelude.{ℕ, List}
use Rattle.shape_base.specs.declared.change.Tx.{Tx}

-- the commits, and how many more take no memory
pub record Buffered : Type 0 where
  pub txs : List Tx
  pub spare : ℕ
