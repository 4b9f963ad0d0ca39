-- The web form of a query.
use Rattle.std.proofs.Common.{◌≡◌, ℕ, ◌<◌, true, List, [], ◌∷◌, ◌++◌, refl, sym, ap, ◌∙◌, subst, arith, Option, None, Some, IfSome, codes, ltb}
use Rattle.std.specs.List.{list_all}
use Rattle.std.specs.Str.{IsUtf8, IsAscii}
use Rattle.std.proofs.lemmas.Bool.{and_parts}
use Rattle.std.proofs.lemmas.Bool.Decides.{nat_tests}
use Rattle.std.proofs.lemmas.Str.{IsUtf8-from_ascii}
use Rattle.std.proofs.lemmas.Str.Ascii.{IsAscii-nil, IsAscii-cons}
use Rattle.form_urlencoded.specs.Form.{append_pair, extend_pairs, parse}
use Rattle.http_edge.specs.Parameters.{Pair, AreTexts, has_bad_percent}
use Rattle.fold_client.specs.declared.client.Query.{Query}
use Rattle.fold_client.specs.Target.{with_value, query_form}
use Rattle.fold_client.proofs.TargetForms.{parameter, form_escapes, form_parsed}
use Rattle.core_clients.specs.QueryForm.{IsQueryOf}
use Rattle.core_clients.specs.Laws.{HasTexts, QueriesHaveForms}

-- the names and values of a query
abbrev pairs_of : Query → List Pair
pairs_of q = (codes "table", q.table) ∷ (parameter (codes "columns") q.columns ++ (parameter (codes "where") q.clause ++ []))

value_more : (form name : List ℕ) (value : Option (List ℕ)) (ys : List Pair) → extend_pairs (with_value form name value) ys ≡ extend_pairs form (parameter name value ++ ys)
value_more form name None ys = refl
value_more form name (Some value) ys = refl

form_is : (q : Query) → query_form q ≡ extend_pairs [] (pairs_of q)
form_is q =
    let first = append_pair [] (codes "table") q.table in
    value_more (with_value first (codes "columns") q.columns) (codes "where") q.clause [] ∙ value_more first (codes "columns") q.columns (parameter (codes "where") q.clause ++ [])

-- ---- texts

ascii_by : (bs : List ℕ) → list_all (λ b. ltb b 128) bs ≡ true → IsAscii bs
ascii_by [] h = IsAscii-nil
ascii_by (b ∷ bs) h = let p = and_parts (ltb b 128) _ h in let s : b < 128 = grind (arith, nat_tests, p.0) in IsAscii-cons b bs s (ascii_by bs p.1)

word : (bs : List ℕ) → list_all (λ b. ltb b 128) bs ≡ true → IsUtf8 bs
word bs h = IsUtf8-from_ascii bs (ascii_by bs h)

texts_with : (name : List ℕ) (value : Option (List ℕ)) (pairs : List Pair) → IsUtf8 name → IfSome value IsUtf8 → AreTexts pairs → AreTexts (parameter name value ++ pairs)
texts_with name None pairs u v texts = texts
texts_with name (Some value) pairs u v texts = ((u, v), texts)

are_texts : (q : Query) → HasTexts q → AreTexts (pairs_of q)
are_texts q h = ((word (codes "table") refl, h.table), texts_with (codes "columns") q.columns _ (word (codes "columns") refl) h.columns (texts_with (codes "where") q.clause [] (word (codes "where") refl) h.clause tt))

-- ---- the query of these names and values

query_of : (table : List ℕ) (columns clause : Option (List ℕ)) → AreTexts (pairs_of (record { table = table; columns = columns; clause = clause })) → IsQueryOf (pairs_of (record { table = table; columns = columns; clause = clause })) (record { table = table; columns = columns; clause = clause })
query_of table None None texts = record { texts = texts; known = refl; table = refl; columns = refl; clause = refl }
query_of table None (Some w) texts = record { texts = texts; known = refl; table = refl; columns = refl; clause = refl }
query_of table (Some cs) None texts = record { texts = texts; known = refl; table = refl; columns = refl; clause = refl }
query_of table (Some cs) (Some w) texts = record { texts = texts; known = refl; table = refl; columns = refl; clause = refl }

pub queries_have_forms : QueriesHaveForms
queries_have_forms q h =
    let texts = are_texts q h in
    record {
      escapes = ap has_bad_percent (form_is q) ∙ form_escapes (pairs_of q);
      query = subst (λ (ps : List Pair). IsQueryOf ps q) (sym (ap parse (form_is q) ∙ form_parsed (pairs_of q) texts)) (query_of q.table q.columns q.clause texts);
    }
