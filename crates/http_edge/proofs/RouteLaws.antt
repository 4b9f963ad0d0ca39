-- Refusals of the steps of routing, and what the steps read together.
use Rattle.std.proofs.Common.{◌≡◌, ◌⊎◌, ℕ, Bool, true, false, List, [], ◌∷◌, Option, Some, None, IfSome, Result, Ok, Err, refl, sym, ap, subst, ◌∙◌, inl, inr, codes, if◌then◌else◌}
use Rattle.std.proofs.lemmas.Bool.{and_parts}
use Rattle.std.specs.Str.{IsUtf8}
use Rattle.form_urlencoded.specs.Form.{parse}
use Rattle.shape_base.specs.declared.ask.Ask.{Ask}
use Rattle.shape_base.specs.declared.offset.Offset.{Offset}
use Rattle.shape_base.specs.declared.served.Served.{Served}
use Rattle.shape_base.specs.Tables.{same_text}
use Rattle.shape_base.specs.OffsetText.{IsOffset, offset_text}
use Rattle.shape_base.proofs.Lemmas.{Decides-same_text}
use Rattle.where_grammar.specs.Tree.{Tree}
use Rattle.where_grammar.specs.Clause.{canonical_text}
use Rattle.where_parser.specs.declared.parsing.ParseError.{ParseError}
use Rattle.where_parser.specs.declared.parsing.ParseError.TheVariants as parsing
use Rattle.where_parser.specs.Whole.{IsTreeOf, IsSyntaxAt, IsDeepAt}
use Rattle.where_parser.proofs.Lemmas.{tree_answer, syntax_answer, deep_answer}
use Rattle.shape_def.specs.Clauses.{answer_in}
use Rattle.shape_def.specs.Identity.{identity}
use Rattle.http_edge.specs.declared.request.Request.{Request}
use Rattle.http_edge.specs.declared.refusal.Refusal.{Refusal}
use Rattle.http_edge.specs.declared.refusal.Refusal.TheVariants as refusals
use Rattle.http_edge.specs.Parameters.{Pair, path_of, query_of, has_bad_percent, AreTexts, HasBadEscape, value_under, has_repeated}
use Rattle.http_edge.specs.Route.{served_path, table_name, table_from, IsNotServed, IsTooLong, place_in, syntax_place, IsTextOf, IsCanonical, NeedsHandle, IsLiveAtStart, IsAskOf, Routed, RefusesAt, Asks, RequestTried, FormTried, TableTried, ClauseTried, PlaceTried, ParametersTried, IsRouted}
use Rattle.http_edge.specs.Tried.{Never, IsTable, IsRest, of_parse, IsSyntaxRefusal}

-- ---- a refusal of a step is one of the whole

pub request_refused : (request : Request) (Q : Routed → Type 0) (r : Routed) → RequestTried request Never r → RequestTried request Q r
request_refused request Q r (inl h) = inl h
request_refused request Q r (inr (a, inl h)) = inr (a, inl h)
request_refused request Q r (inr (a, inr (b, none))) = absurd none

form_refused : (query : List ℕ) (Q : Routed → Type 0) (r : Routed) → FormTried query Never r → FormTried query Q r
form_refused query Q r (inl h) = inl h
form_refused query Q r (inr (a, inl h)) = inr (a, inl h)
form_refused query Q r (inr (a, inr (b, none))) = absurd none

-- ---- what passes a step

pub request_passed : (request : Request) (Q : Routed → Type 0) (r : Routed) → request.get ≡ true → path_of request.target ≡ served_path → Q r → RequestTried request Q r
request_passed request Q r get path more = inr (λ e. absurd cc, inr (λ h. h path, more))

pub form_passed : (query : List ℕ) (Q : Routed → Type 0) (r : Routed) → (HasBadEscape query → ⊥) → has_repeated (parse query) ≡ false → Q r → FormTried query Q r
form_passed query Q r good once more = inr (good, inr (λ e. absurd cc, more))

served_found : (tables : List Served) (value : Option (List ℕ)) (name : List ℕ) (place : ℕ) → value ≡ Some name → table_from (table_name name) 0 tables ≡ Some place → IsNotServed tables value → ⊥
served_found tables None name place e found h = absurd cc
served_found tables (Some other) name place e found h = let same : other ≡ name = cc in let none : table_from (table_name name) 0 tables ≡ None = subst (λ x. table_from (table_name x) 0 tables ≡ None) same h in absurd cc

pub table_passed : (tables : List Served) (pairs : List Pair) (Q : Routed → Type 0) (r : Routed) (place : ℕ) (table : Served) → IsTable tables pairs place table → Q r → TableTried tables pairs Q r
table_passed tables pairs Q r place table is more = inr (λ e. let h = is.has_name in absurd cc, inr (served_found tables _ is.name place is.has_name is.found, more))

passed_at : (place : Option ℕ) (Q : Routed → Type 0) (r : Routed) → place ≡ None → Q r → RefusesAt place Q r
passed_at (Some place) Q r e more = absurd cc
passed_at None Q r e more = more

pub clause_passed : (clause : Option (List ℕ)) (Q : Routed → Type 0) (r : Routed) → (IsTooLong clause → ⊥) → syntax_place clause ≡ None → Q r → ClauseTried clause Q r
clause_passed clause Q r short is more = inr (short, passed_at (syntax_place clause) Q r is more)

pub place_passed : (pairs : List Pair) (Q : Routed → Type 0) (r : Routed) (offset : Offset) → IsOffset offset × (value_under (codes "offset") pairs ≡ Some (offset_text offset)) → (NeedsHandle pairs → ⊥) → (IsLiveAtStart pairs → ⊥) → Q r → PlaceTried pairs Q r
place_passed pairs Q r offset read needs live more = inr (λ none. none offset read.0 read.1, inr (needs, inr (live, more)))

-- ---- forms

pub no_bad_escape : (query : List ℕ) → has_bad_percent query ≡ false → AreTexts (parse query) → HasBadEscape query → ⊥
no_bad_escape query e texts (inl bad) = absurd cc
no_bad_escape query e texts (inr bad) = bad texts

pub not_texts : (query : List ℕ) (e : Refusal) → (e ≡ refusals.OutOfMemory) ⊎ ((e ≡ refusals.BadEscape) × (AreTexts (parse query) → ⊥)) → (e ≡ refusals.OutOfMemory) ⊎ FormTried query Never (Err e)
not_texts query e (inl memory) = inl memory
not_texts query e (inr bad) = inr (inl (inr bad.1, ap Err bad.0))

utf8_if : (b : Bool) (value : List ℕ) (rest : Option (List ℕ)) → IsUtf8 value → IfSome rest IsUtf8 → IfSome (if b then Some value else rest) IsUtf8
utf8_if true value rest u more = u
utf8_if false value rest u more = more

texts_under : (name : List ℕ) (pairs : List Pair) → AreTexts pairs → IfSome (value_under name pairs) IsUtf8
texts_under name [] texts = tt
texts_under name (p ∷ pairs) texts = utf8_if (same_text p.0 name) p.1 (value_under name pairs) texts.0.1 (texts_under name pairs texts.1)

-- the value under a name is UTF-8
pub value_utf8 : (name : List ℕ) (pairs : List Pair) (value : Option (List ℕ)) → value ≡ value_under name pairs → AreTexts pairs → IfSome value IsUtf8
value_utf8 name pairs value e texts = subst (λ (x : Option (List ℕ)). IfSome x IsUtf8) (sym e) (texts_under name pairs texts)

-- ---- clauses

pub answer_tree : (text : List ℕ) (tree : Tree) → IsTreeOf text tree → answer_in text ≡ Ok tree
unfolding answer_in
answer_tree text tree h = tree_answer text tree h.clause

pub answer_syntax : (text : List ℕ) (place : ℕ) → IsSyntaxAt text place → answer_in text ≡ Err (parsing.Syntax place)
unfolding answer_in
answer_syntax text place h = syntax_answer text place h

pub answer_deep : (text : List ℕ) (place : ℕ) → IsDeepAt text place → answer_in text ≡ Err (parsing.TooDeep place)
unfolding answer_in
answer_deep text place h = deep_answer text place h

pub is_canonical : (text clause : List ℕ) (tree : Tree) → IsTreeOf text tree → clause ≡ canonical_text tree → IsTextOf (answer_in text) clause × (place_in (answer_in text) ≡ None)
is_canonical text clause tree h e = subst (λ (x : Result Tree ParseError). IsTextOf x clause × (place_in x ≡ None)) (sym (answer_tree text tree h)) (e, refl)

pub is_refused : (text : List ℕ) (e : ParseError) → ((place : ℕ) → e ≡ parsing.Syntax place → IsSyntaxAt text place) → ((place : ℕ) → e ≡ parsing.TooDeep place → IsDeepAt text place) → (of_parse e ≡ refusals.OutOfMemory) ⊎ IsSyntaxRefusal (answer_in text) (of_parse e)
is_refused text parsing.OutOfMemory syntax deep = inl refl
is_refused text (parsing.Syntax place) syntax deep = inr (record { place = place; is = refl; at = ap place_in (answer_syntax text place (syntax place refl)) })
is_refused text (parsing.TooDeep place) syntax deep = inr (record { place = place; is = refl; at = ap place_in (answer_deep text place (deep place refl)) })

refused_from : (text : List ℕ) (place : Option ℕ) (r : Refusal) → syntax_place (Some text) ≡ place → IsSyntaxRefusal (answer_in text) r → RefusesAt place Never (Err r)
refused_from text None r e is = let at = is.at in absurd cc
refused_from text (Some place) r e is = ap Err (is.is ∙ ap refusals.WhereSyntax (some_same (sym is.at ∙ e)))
  where
    some_same : {a b : ℕ} → Some a ≡ Some b → a ≡ b
    some_same h = cc

pub clause_stands : (text : List ℕ) (r : Refusal) → (IsTooLong (Some text) → ⊥) → (r ≡ refusals.OutOfMemory) ⊎ IsSyntaxRefusal (answer_in text) r → (r ≡ refusals.OutOfMemory) ⊎ ClauseTried (Some text) Never (Err r)
clause_stands text r short (inl memory) = inl memory
clause_stands text r short (inr is) = inr (inr (short, refused_from text (syntax_place (Some text)) r refl is))

pub clause_read : (pairs : List Pair) (value clause : Option (List ℕ)) → value ≡ value_under (codes "where") pairs → IsCanonical value clause → (IsTooLong value → ⊥) × (syntax_place value ≡ None)
    → IsCanonical (value_under (codes "where") pairs) clause × ((IsTooLong (value_under (codes "where") pairs) → ⊥) × (syntax_place (value_under (codes "where") pairs) ≡ None))
clause_read pairs value clause e read good = subst (λ (x : Option (List ℕ)). IsCanonical x clause × ((IsTooLong x → ⊥) × (syntax_place x ≡ None))) e (read, good)

-- ---- what is asked for

pub is_ask : (tables : List Served) (pairs : List Pair) (place : ℕ) (table : Served) (clause : Option (List ℕ)) (offset : Offset) (ask : Ask) → IsTable tables pairs place table → IsCanonical (value_under (codes "where") pairs) clause
    → IsOffset offset × (value_under (codes "offset") pairs ≡ Some (offset_text offset)) → IsRest pairs ask → (ask.table ≡ place) × (ask.clause ≡ clause) × (ask.offset ≡ offset)
    → ask.identity ≡ identity (record { ns = table.ns; name = table.name; columns = ask.columns; clause = ask.clause }) → IsAskOf tables pairs ask
is_ask tables pairs place table clause offset ask is canonical read rest given told =
    let named = and_parts _ _ is.named in
    record {
      name = is.name;
      has_name = is.has_name;
      table = is.found ∙ ap Some (sym given.0);
      clause = subst (IsCanonical (value_under (codes "where") pairs)) (sym given.1) canonical;
      columns = rest.columns;
      offset = subst (λ (o : Offset). IsOffset o × (value_under (codes "offset") pairs ≡ Some (offset_text o))) (sym given.2) read;
      handle = rest.handle;
      live = rest.live;
      cursor = rest.cursor;
      told = told ∙ (λ i. identity (record { ns = (Decides-same_text table.ns (table_name is.name).0).0 named.0 i; name = (Decides-same_text table.name (table_name is.name).1).0 named.1 i; columns = ask.columns; clause = ask.clause }));
    }

pub asks : (tables : List Served) (pairs : List Pair) (place : ℕ) (table : Served) (clause : Option (List ℕ)) (offset : Offset) (ask : Ask) → IsTable tables pairs place table
    → IsCanonical (value_under (codes "where") pairs) clause → (IsTooLong (value_under (codes "where") pairs) → ⊥) × (syntax_place (value_under (codes "where") pairs) ≡ None)
    → IsOffset offset × (value_under (codes "offset") pairs ≡ Some (offset_text offset)) → (NeedsHandle pairs → ⊥) × (IsLiveAtStart pairs → ⊥) → IsAskOf tables pairs ask → ParametersTried tables pairs (Ok ask)
asks tables pairs place table clause offset ask is canonical good read placed answer =
    table_passed tables pairs (ClauseTried (value_under (codes "where") pairs) (PlaceTried pairs (Asks tables pairs))) (Ok ask) place table is (clause_passed (value_under (codes "where") pairs) (PlaceTried pairs (Asks tables pairs)) (Ok ask) good.0 good.1 (place_passed pairs (Asks tables pairs) (Ok ask) offset read placed.0 placed.1 answer))

pub answers : (tables : List Served) (request : Request) (query : List ℕ) (pairs : List Pair) (r : Routed) → query ≡ query_of request.target → request.get ≡ true → path_of request.target ≡ served_path → pairs ≡ parse query → (HasBadEscape query → ⊥) × (has_repeated (parse query) ≡ false)
    → (r ≡ Err refusals.OutOfMemory) ⊎ ParametersTried tables pairs r → (r ≡ Err refusals.OutOfMemory) ⊎ IsRouted tables request r
answers tables request query pairs r e get path is good (inl memory) = inl memory
answers tables request query pairs r e get path is good (inr stands) =
    inr (request_passed request (FormTried (query_of request.target) (ParametersTried tables (parse (query_of request.target)))) r get path (subst (λ (q : List ℕ). FormTried q (ParametersTried tables (parse q)) r) e (form_passed query (ParametersTried tables (parse query)) r good.0 good.1 (subst (λ (x : List Pair). ParametersTried tables x r) is stands))))

pub form_answer : (tables : List Served) (request : Request) (query : List ℕ) (e : Refusal) → query ≡ query_of request.target → request.get ≡ true → path_of request.target ≡ served_path → (e ≡ refusals.OutOfMemory) ⊎ FormTried query Never (Err e)
    → (◌≡◌ {A = Routed} (Err e) (Err refusals.OutOfMemory)) ⊎ IsRouted tables request (Err e)
form_answer tables request query e same get path (inl memory) = inl (ap Err memory)
form_answer tables request query e same get path (inr stands) =
    inr (request_passed request (FormTried (query_of request.target) (ParametersTried tables (parse (query_of request.target)))) (Err e) get path (subst (λ (q : List ℕ). FormTried q (ParametersTried tables (parse q)) (Err e)) same (form_refused query (ParametersTried tables (parse query)) (Err e) stands)))
