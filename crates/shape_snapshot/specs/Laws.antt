-- What holds of rows that were taken.
use Rattle.std.specs.Prelude.{◌≡◌, ◌≤◌, true, false, [], length}
use Rattle.std.specs.List.{AllByRecursion}
use Rattle.shape_base.specs.declared.limits.Limits.{Limits}
use Rattle.shape_base.specs.Tables.{Table, lacks_key}
use Rattle.shape_base.specs.Shape.{have_truths}
use Rattle.shape_json.specs.ShapeHistory.{Reader, bytes_of}
use Rattle.shape_snapshot.specs.Refusals.{log_of}
use Rattle.shape_snapshot.specs.Taken.{AreAllTaken}

-- each row is as wide as the definition, has a truth and no null key value, and the texts of the entries keep to the limit
pub record AreGoodRows (r : Reader) (l : Limits) (rows : Table) : Type 0 where
  pub wide : AllByRecursion (λ row. length row ≡ length r.knows.definition.columns) rows
  pub truths : have_truths r.knows rows ≡ true
  pub given : AllByRecursion (λ row. lacks_key r.knows.key row ≡ false) rows
  pub fit : bytes_of (log_of r.knows rows) ≤ l.log

-- Rows that were taken are good.
abbrev pub TakenRowsAreGood : Type 0
TakenRowsAreGood = (r : Reader) (l : Limits) (rows : Table) → AreAllTaken r l [] rows → AreGoodRows r l rows
