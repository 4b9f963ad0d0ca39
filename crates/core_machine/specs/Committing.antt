-- Commits that come together, and of which numbers an answer can tell after them.
use Rattle.std.specs.Prelude.{◌≡◌, ℕ, false, List}
use Rattle.std.specs.List.{AllByRecursion}
use Rattle.shape_base.specs.declared.change.Tx.{Tx}
use Rattle.shape_base.specs.declared.served.Served.{Served}
use Rattle.shape_base.specs.Transactions.{IsWhole}
use Rattle.core_law.specs.Situation.{Options, Server}
use Rattle.core_law.specs.Steps.{unless_repeat, after_commits}
use Rattle.core_law.specs.Waiting.{IsAsBefore}
use Rattle.core_exchanges.specs.Indexing.{is_among}
use Rattle.core_server.specs.declared.server.Server.{Server as KeptServer}
use Rattle.core_server.specs.Standing.{IsNew}
use Rattle.core_server.specs.Standing as server

-- A commit that a server may take: it is whole, and each of its definitions is of a served table.
pub record IsTakable (tables : List Served) (tx : Tx) : Type 0 where
  pub whole : IsWhole tx
  pub new : AllByRecursion (IsNew tables) tx.defs

abbrev pub AreTakable : List Served → List Tx → Type 0
AreTakable tables txs = AllByRecursion (IsTakable tables) txs

-- nothing that an answer could tell happened to any other number
abbrev pub IsQuietBut : List ℕ → Server → Server → Type 0
IsQuietBut told v w = (n : ℕ) → is_among n told ≡ false → IsAsBefore v w n

-- The server stands for the one after a commit that is no repeat, and among the numbers told are those of before and those of which an answer can tell since.
pub record IsTaken (o : Options) (v : Server) (tx : Tx) (new : KeptServer) (before told : List ℕ) : Type 0 where
  pub stands : server.Stands o (unless_repeat o v tx) new
  pub more : (n : ℕ) → is_among n told ≡ false → is_among n before ≡ false
  pub quiet : IsQuietBut told v (unless_repeat o v tx)

-- The server stands for the one after commits, and the numbers told are all of which an answer can tell.
pub record AreTaken (o : Options) (v : Server) (txs : List Tx) (new : KeptServer) (told : List ℕ) : Type 0 where
  pub stands : server.Stands o (after_commits o v txs) new
  pub quiet : IsQuietBut told v (after_commits o v txs)
