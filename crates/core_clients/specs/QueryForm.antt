-- The web form of a client's query (URL Standard, section 5).
use Rattle.std.specs.Prelude.{◌≡◌, ℕ, Bool, true, false, List, [], ◌∷◌, map, filter, Option, None, Some, codes}
use Rattle.std.specs.List.{list_any, list_all}
use Rattle.form_urlencoded.specs.Form.{parse}
use Rattle.shape_base.specs.Tables.{same_text}
use Rattle.http_edge.specs.Parameters.{Pair, AreTexts, has_bad_percent}
use Rattle.fold_client.specs.declared.client.Query.{Query}

-- the names that a query may have
abbrev pub query_names : List (List ℕ)
query_names = codes "table" ∷ codes "columns" ∷ codes "where" ∷ []

abbrev pub is_known : Pair → Bool
is_known p = list_any (same_text p.0) query_names

-- the values under a name, in their order
abbrev pub values_under : List ℕ → List Pair → List (List ℕ)
values_under name pairs = map (λ p. p.1) (filter (λ p. same_text p.0 name) pairs)

-- the one value that is there, or none
abbrev pub alone : Option (List ℕ) → List (List ℕ)
alone None = []
alone (Some value) = value ∷ []

-- The names and values of a query: all of them are texts, a query may have each name, the table stands there once, and the columns and the clause at most once.
pub record IsQueryOf (pairs : List Pair) (q : Query) : Type 0 where
  pub texts : AreTexts pairs
  pub known : list_all is_known pairs ≡ true
  pub table : values_under (codes "table") pairs ≡ q.table ∷ []
  pub columns : values_under (codes "columns") pairs ≡ alone q.columns
  pub clause : values_under (codes "where") pairs ≡ alone q.clause

-- The bytes are the web form of a query: each percent sign escapes a byte, and the decoded names and values are those of the query.
pub record IsQueryForm (bytes : List ℕ) (q : Query) : Type 0 where
  pub escapes : has_bad_percent bytes ≡ false
  pub query : IsQueryOf (parse bytes) q
