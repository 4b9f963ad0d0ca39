-- Of what the definitions of a transaction are.
use Rattle.std.specs.Prelude.{ℕ, ◌<◌, List, length, IfSome}
use Rattle.std.specs.List.{AllByRecursion}
use Rattle.std.specs.FinMap as map
use Rattle.shape_base.specs.declared.definition.TableDef.{TableDef}
use Rattle.shape_base.specs.declared.served.Served.{Served}
use Rattle.relation_cache.specs.declared.relation.Relation.{Relation}
use Rattle.relation_cache.specs.Relations.{ByOid}
use Rattle.tx_assembler.specs.declared.answer.Fed.{Fed}
use Rattle.tx_assembler.specs.declared.answer.Fed.TheVariants as answers
use Rattle.tx_assembler.specs.declared.stage.Stage.{Stage}
use Rattle.tx_assembler.specs.declared.stage.Stage.TheVariants.{Outside, Passing, Taking, Refused}

-- A definition is of a served table, and has fewer than 2^16 columns.
pub record IsServed (tables : List Served) (d : TableDef) : Type 0 where
  pub served : d.table < length tables
  pub few : length d.columns < 65536

-- each definition is such a one
abbrev pub AreServed : List Served → List TableDef → Type 0
AreServed tables defs = AllByRecursion (IsServed tables) defs

-- each transaction that is given has such definitions
abbrev pub GivesServed : List Served → Fed → Type 0
GivesServed tables answers.Nothing = Unit {0}
GivesServed tables (answers.Tx tx) = AreServed tables tx.defs
GivesServed tables (answers.Repeat lsn last) = Unit {0}

-- ---- what an assembler keeps

-- a relation has fewer than 2^16 columns, since its message has their number in 16 bits
abbrev pub IsNarrow : Relation → Type 0
IsNarrow r = length r.columns < 65536

abbrev pub AreNarrow : ByOid → Type 0
AreNarrow relations = (oid : ℕ) → IfSome (map.get relations oid) IsNarrow

-- a transaction so far has such definitions
abbrev pub IsServedStage : List Served → Stage → Type 0
IsServedStage tables Outside = Unit {0}
IsServedStage tables (Passing begin) = Unit {0}
IsServedStage tables (Taking tx) = AreServed tables tx.defs
IsServedStage tables (Refused e) = Unit {0}
