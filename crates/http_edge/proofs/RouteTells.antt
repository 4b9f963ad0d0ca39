-- A request determines its answer.
use Rattle.std.proofs.Common.{◌≡◌, ◌≢◌, inl, inr, ℕ, true, false, List, Option, Some, None, Result, Ok, Err, refl, sym, ap, ◌∙◌, codes, decimal}
use Rattle.std.proofs.lemmas.Fmt.{decimal_injective}
use Rattle.form_urlencoded.specs.Form.{parse}
use Rattle.shape_base.specs.declared.ask.Ask.{Ask}
use Rattle.shape_base.specs.declared.ask.Named.{Named}
use Rattle.shape_base.specs.declared.ask.Named.TheVariants as names
use Rattle.shape_base.specs.declared.served.Served.{Served}
use Rattle.shape_base.specs.OffsetText.{offset_text}
use Rattle.shape_base.specs.Handle.{handle_text}
use Rattle.where_grammar.specs.Tree.{Tree}
use Rattle.where_parser.specs.declared.parsing.ParseError.{ParseError}
use Rattle.shape_def.specs.Clauses.{answer_in}
use Rattle.shape_def.specs.Identity.{identity}
use Rattle.http_edge.specs.declared.request.Request.{Request}
use Rattle.http_edge.specs.declared.refusal.Refusal.{Refusal}
use Rattle.http_edge.specs.declared.refusal.Refusal.TheVariants as refusals
use Rattle.http_edge.specs.Parameters.{Pair, path_of, query_of, HasBadEscape, value_under, has_repeated}
use Rattle.http_edge.specs.Route.{served_path, table_name, IsNotServed, IsTooLong, syntax_place, table_from, IsTextOf, IsCanonical, HasNoOffset, NeedsHandle, IsLiveAtStart, NamedIs, CursorIs, IsAskOf, Routed, Refuses, RefusesAt, Asks, RequestTried, FormTried, TableTried, ClauseTried, PlaceTried, ParametersTried, IsRouted}
use Rattle.http_edge.specs.RouteLaws.{RoutesTell}
use Rattle.http_edge.proofs.TellLaws.{some_same, handle_same, offset_same}

-- what meets it is one
abbrev IsOne : (Routed → Type 0) → Type 0
IsOne P = (a b : Routed) → P a → P b → a ≡ b

one_refused : (fault : Type 0) (refusal : Refusal) (P : Routed → Type 0) → IsOne P → IsOne (Refuses fault refusal P)
one_refused fault refusal P one a b (inl x) (inl y) = x.1 ∙ sym y.1
one_refused fault refusal P one a b (inl x) (inr y) = absurd (y.0 x.0)
one_refused fault refusal P one a b (inr x) (inl y) = absurd (x.0 y.0)
one_refused fault refusal P one a b (inr x) (inr y) = one a b x.1 y.1

one_refused_at : (place : Option ℕ) (P : Routed → Type 0) → IsOne P → IsOne (RefusesAt place P)
one_refused_at (Some place) P one a b x y = x ∙ sym y
one_refused_at None P one a b x y = one a b x y

-- ---- one ask

one_text : (answer : Result Tree ParseError) (c d : List ℕ) → IsTextOf answer c → IsTextOf answer d → c ≡ d
one_text (Ok tree) c d x y = x ∙ sym y
one_text (Err error) c d x y = absurd x

one_clause : (value c d : Option (List ℕ)) → IsCanonical value c → IsCanonical value d → c ≡ d
one_clause None None None x y = refl
one_clause None None (Some d) x y = absurd y
one_clause None (Some c) d x y = absurd x
one_clause (Some text) None d x y = absurd x
one_clause (Some text) (Some c) None x y = absurd y
one_clause (Some text) (Some c) (Some d) x y = ap Some (one_text (answer_in text) c d x y)

one_named : (value : Option (List ℕ)) (n m : Named) → NamedIs value n → NamedIs value m → n ≡ m
one_named value names.Absent names.Absent x y = refl
one_named value names.Absent (names.Known h) x y = let e = y.1 in absurd cc
one_named value names.Absent names.Strange x y = absurd (y.0 x)
one_named value (names.Known h) names.Absent x y = let e = x.1 in absurd cc
one_named value (names.Known h) (names.Known g) x y = ap names.Known (handle_same h g x.0 y.0 (some_same (handle_text h) (handle_text g) (sym x.1 ∙ y.1)))
one_named value (names.Known h) names.Strange x y = absurd (y.1 h x.0 x.1)
one_named value names.Strange names.Absent x y = absurd (x.0 y)
one_named value names.Strange (names.Known g) x y = absurd (x.1 g y.0 y.1)
one_named value names.Strange names.Strange x y = refl

one_cursor : (value : Option (List ℕ)) (n m : ℕ) → CursorIs value n → CursorIs value m → n ≡ m
one_cursor value n m (inl x) (inl y) = decimal_injective n m x.0 y.0 (some_same (decimal n) (decimal m) (sym x.1 ∙ y.1))
one_cursor value n m (inl x) (inr y) = absurd (y.1 n x.0 x.1)
one_cursor value n m (inr x) (inl y) = absurd (x.1 m y.0 y.1)
one_cursor value n m (inr x) (inr y) = x.0 ∙ sym y.0

same_ask : (a b : Ask) → a.table ≡ b.table → a.columns ≡ b.columns → a.clause ≡ b.clause → a.identity ≡ b.identity → a.named ≡ b.named → a.offset ≡ b.offset → a.live ≡ b.live → a.cursor ≡ b.cursor → a ≡ b
same_ask a b t cs c d n o l k i = record { table = t i; columns = cs i; clause = c i; identity = d i; named = n i; offset = o i; live = l i; cursor = k i }

pub one_ask : (tables : List Served) (pairs : List Pair) (a b : Ask) → IsAskOf tables pairs a → IsAskOf tables pairs b → a ≡ b
one_ask tables pairs a b x y =
    let name : x.name ≡ y.name = some_same x.name y.name (sym x.has_name ∙ y.has_name) in
    let table : a.table ≡ b.table = some_same a.table b.table (sym x.table ∙ ap (λ n. table_from (table_name n) 0 tables) name ∙ y.table) in
    let clause : a.clause ≡ b.clause = one_clause (value_under (codes "where") pairs) a.clause b.clause x.clause y.clause in
    let columns : a.columns ≡ b.columns = x.columns ∙ sym y.columns in
    same_ask a b table columns clause
    (x.told ∙ (λ i. identity (record { ns = (table_name (name i)).0; name = (table_name (name i)).1; columns = columns i; clause = clause i })) ∙ sym y.told)
    (one_named (value_under (codes "handle") pairs) a.named b.named x.handle y.handle)
    (offset_same a.offset b.offset x.offset.0 y.offset.0 (some_same (offset_text a.offset) (offset_text b.offset) (sym x.offset.1 ∙ y.offset.1)))
    (x.live ∙ sym y.live)
    (one_cursor (value_under (codes "cursor") pairs) a.cursor b.cursor x.cursor y.cursor)

one_asked : (tables : List Served) (pairs : List Pair) → IsOne (Asks tables pairs)
one_asked tables pairs (Ok a) (Ok b) x y = ap Ok (one_ask tables pairs a b x y)
one_asked tables pairs (Ok a) (Err f) x y = absurd y
one_asked tables pairs (Err e) b x y = absurd x

-- ---- one answer

one_place : (pairs : List Pair) (P : Routed → Type 0) → IsOne P → IsOne (PlaceTried pairs P)
one_place pairs P one =
    let last = one_refused (IsLiveAtStart pairs) refusals.LiveAtStart P one in
    let needed = one_refused (NeedsHandle pairs) refusals.HandleNeeded (Refuses (IsLiveAtStart pairs) refusals.LiveAtStart P) last in
    one_refused (HasNoOffset (value_under (codes "offset") pairs)) refusals.BadOffset (Refuses (NeedsHandle pairs) refusals.HandleNeeded (Refuses (IsLiveAtStart pairs) refusals.LiveAtStart P)) needed

one_tried_clause : (clause : Option (List ℕ)) (P : Routed → Type 0) → IsOne P → IsOne (ClauseTried clause P)
one_tried_clause clause P one = one_refused (IsTooLong clause) refusals.WhereTooLong (RefusesAt (syntax_place clause) P) (one_refused_at (syntax_place clause) P one)

one_table : (tables : List Served) (pairs : List Pair) (P : Routed → Type 0) → IsOne P → IsOne (TableTried tables pairs P)
one_table tables pairs P one =
    one_refused (value_under (codes "table") pairs ≡ None) refusals.MissingTable (Refuses (IsNotServed tables (value_under (codes "table") pairs)) refusals.TableNotServed P)
    (one_refused (IsNotServed tables (value_under (codes "table") pairs)) refusals.TableNotServed P one)

one_form : (query : List ℕ) (P : Routed → Type 0) → IsOne P → IsOne (FormTried query P)
one_form query P one =
    one_refused (HasBadEscape query) refusals.BadEscape (Refuses (has_repeated (parse query) ≡ true) refusals.RepeatedParameter P) (one_refused (has_repeated (parse query) ≡ true) refusals.RepeatedParameter P one)

one_request : (request : Request) (P : Routed → Type 0) → IsOne P → IsOne (RequestTried request P)
one_request request P one =
    one_refused (request.get ≡ false) refusals.MethodRefused (Refuses (path_of request.target ≢ served_path) refusals.PathUnknown P) (one_refused (path_of request.target ≢ served_path) refusals.PathUnknown P one)

one_set : (tables : List Served) (pairs : List Pair) → IsOne (ParametersTried tables pairs)
one_set tables pairs =
    one_table tables pairs (ClauseTried (value_under (codes "where") pairs) (PlaceTried pairs (Asks tables pairs)))
    (one_tried_clause (value_under (codes "where") pairs) (PlaceTried pairs (Asks tables pairs)) (one_place pairs (Asks tables pairs) (one_asked tables pairs)))

one_routed : (tables : List Served) (request : Request) → IsOne (IsRouted tables request)
one_routed tables request =
    let pairs = parse (query_of request.target) in
    one_request request (FormTried (query_of request.target) (ParametersTried tables pairs)) (one_form (query_of request.target) (ParametersTried tables pairs) (one_set tables pairs))

pub routes_tell : RoutesTell
routes_tell tables request a b (inl x) y = inr (inl x)
routes_tell tables request a b (inr x) (inl y) = inr (inr y)
routes_tell tables request a b (inr x) (inr y) = inl (one_routed tables request a b x y)
