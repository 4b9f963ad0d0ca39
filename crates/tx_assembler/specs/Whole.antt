-- What those who take a transaction of an assembler may rely on.
use Rattle.std.specs.Prelude.{◌≡◌, ℕ, ◌≤◌, false, List, [], ◌∷◌, length}
use Rattle.std.specs.List.{list_any}
use Rattle.shape_base.specs.declared.definition.TableDef.{TableDef}
use Rattle.shape_base.specs.declared.change.Tx.{Tx}
use Rattle.shape_base.specs.Tables.{same_def}
use Rattle.shape_base.specs.Transactions.{IsWhole}
use Rattle.tx_assembler.specs.declared.answer.Fed.{Fed}
use Rattle.tx_assembler.specs.declared.answer.Fed.TheVariants as answers

-- no definition stands twice
abbrev pub AreOnce : List TableDef → Type 0
AreOnce [] = Unit {0}
AreOnce (d ∷ ds) = (list_any (same_def d) ds ≡ false) × AreOnce ds

-- the most bytes of kept change messages in one transaction: 2^26
unfoldable pub most_bytes : ℕ
most_bytes = 67108864

-- It is whole, each definition stands once, and there are no more changes than bytes, which stay within the limit.
pub record IsAssembled (tx : Tx) : Type 0 where
  pub whole : IsWhole tx
  pub once : AreOnce tx.defs
  pub few : length tx.changes ≤ tx.bytes
  pub within : tx.bytes ≤ most_bytes

-- each transaction that is given is such a one
abbrev pub GivesAssembled : Fed → Type 0
GivesAssembled answers.Nothing = Unit {0}
GivesAssembled (answers.Tx tx) = IsAssembled tx
GivesAssembled (answers.Repeat lsn last) = Unit {0}
