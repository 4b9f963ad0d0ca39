-- The laws of queries.
use Rattle.std.specs.Prelude.{◌≡◌, ℕ, List, IfSome}
use Rattle.std.specs.Str.{IsUtf8}
use Rattle.fold_client.specs.declared.client.Query.{Query}
use Rattle.fold_client.specs.Target.{query_form}
use Rattle.core_clients.specs.QueryForm.{IsQueryForm}

-- Bytes are the web form of at most one query.
abbrev pub FormsTell : Type 0
FormsTell = (bytes : List ℕ) (q r : Query) → IsQueryForm bytes q → IsQueryForm bytes r → q ≡ r

-- what a query asks for is UTF-8
pub record HasTexts (q : Query) : Type 0 where
  pub table : IsUtf8 q.table
  pub columns : IfSome q.columns IsUtf8
  pub clause : IfSome q.clause IsUtf8

-- Each query has a web form: the one with which its client's targets begin.
abbrev pub QueriesHaveForms : Type 0
QueriesHaveForms = (q : Query) → HasTexts q → IsQueryForm (query_form q) q
