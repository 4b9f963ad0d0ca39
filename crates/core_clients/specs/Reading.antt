-- What a program has read of a query's names and values.
use Rattle.std.specs.Prelude.{◌≡◌, true, List, codes}
use Rattle.std.specs.List.{list_all}
use Rattle.http_edge.specs.Parameters.{Pair, AreTexts}
use Rattle.core_clients.specs.declared.query.Values.{Values}
use Rattle.core_clients.specs.QueryForm.{is_known, values_under, alone}

-- these pairs were read, and a value is kept for each name that stands there
pub record AreRead (front : List Pair) (v : Values) : Type 0 where
  pub texts : AreTexts front
  pub known : list_all is_known front ≡ true
  pub table : values_under (codes "table") front ≡ alone v.table
  pub columns : values_under (codes "columns") front ≡ alone v.columns
  pub clause : values_under (codes "where") front ≡ alone v.clause
