-- How far an assembler has come.
use Rattle.std.specs.Prelude.{ℕ, ◌<◌, List, length}
use Rattle.shape_base.specs.declared.served.Served.{Served}
use Rattle.relation_cache.specs.Relations.{ByOid}
use Rattle.tx_assembler.specs.declared.stage.Stage.{Stage}
use Rattle.tx_assembler.specs.declared.stage.Stage.TheVariants.{Outside, Passing, Taking, Refused}
use Rattle.tx_assembler.specs.Whole.{IsAssembled}
use Rattle.tx_assembler.specs.Served.{AreNarrow, IsServedStage}

pub record Situation : Type 0 where
  pub tables : List Served
  pub relations : ByOid
  pub last : ℕ
  pub stage : Stage

-- a transaction so far is one that may be given
abbrev pub IsWholeStage : Stage → Type 0
IsWholeStage Outside = Unit {0}
IsWholeStage (Passing begin) = Unit {0}
IsWholeStage (Taking tx) = IsAssembled tx
IsWholeStage (Refused e) = Unit {0}

-- what every assembler keeps
pub record IsSound (tables : List Served) (relations : ByOid) (stage : Stage) : Type 0 where
  pub few : length tables < 4294967296
  pub whole : IsWholeStage stage
  pub narrow : AreNarrow relations
  pub served : IsServedStage tables stage
