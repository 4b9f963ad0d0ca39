-- What the targets of clients ask for.
use Rattle.std.proofs.Common.{◌≡◌, ◌⊎◌, inl, inr, ℕ, ◌<◌, ◌^◌, Bool, true, false, List, Option, None, Some, IfSome, is_some, unwrap_or, Result, Ok, Err, refl, sym, ap, subst, ◌∙◌, codes, decimal, option_map, ◌≢◌}
use Rattle.std.specs.Prelude.{IsSomeAnd}
use Rattle.std.proofs.lemmas.Fmt.{decimal_injective}
use Rattle.form_urlencoded.specs.Form.{parse}
use Rattle.shape_base.specs.declared.ask.Ask.{Ask}
use Rattle.shape_base.specs.declared.handle.Handle.{Handle}
use Rattle.shape_base.specs.declared.served.Served.{Served}
use Rattle.shape_base.specs.Handle.{IsHandle, handle_text}
use Rattle.shape_base.specs.OffsetText.{IsOffset, offset_text}
use Rattle.where_grammar.specs.Tree.{Tree}
use Rattle.where_parser.specs.declared.parsing.ParseError.{ParseError}
use Rattle.shape_def.specs.Clauses.{answer_in}
use Rattle.shape_def.specs.Identity.{identity}
use Rattle.http_edge.specs.declared.refusal.Refusal.{Refusal}
use Rattle.http_edge.specs.declared.refusal.Refusal.TheVariants as refusals
use Rattle.http_edge.specs.Lawful.{Asked, AsksFor}
use Rattle.http_edge.specs.Parameters.{Pair, path_of, query_of, HasBadEscape, value_under, has_repeated}
use Rattle.http_edge.specs.Route.{served_path, IsTooLong, HasNoOffset, NeedsHandle, IsLiveAtStart, table_name, names_of, IsTextOf, IsCanonical, IsNotServed, Routed, Refuses, RefusesAt, ClauseTried, Asks, IsAskOf, PlaceTried, ParametersTried, IsRouted, syntax_place}
use Rattle.http_edge.proofs.Lemmas.{handle_same, offset_same}
use Rattle.fold_client.specs.declared.client.Query.{Query}
use Rattle.fold_client.specs.Client.{Held, nothing_held}
use Rattle.fold_client.specs.Following as following
use Rattle.fold_client.specs.Target.{target_text, left_alone}
use Rattle.fold_client.specs.TargetRead.{HasTarget, IsAskedBy, AsksBack, IsAstray, IsWaitingAtStart, TargetTried}
use Rattle.fold_client.specs.TargetRead as target
use Rattle.fold_client.proofs.TargetForms.{parameters_of, form_of}
use Rattle.fold_client.proofs.TargetLaw.{AreRead, are_read, the_form, target_query, target_is_read_back}
use Rattle.core_law.specs.Situation.{Options, canonical_in, canonical_of, query_identity, placed}
use Rattle.core_law.specs.Laws.{get_of, IsRead, IsFirst}
use Rattle.core_law.proofs.Lists.{some_same}
use Rattle.core_law.proofs.Fields.{HasFields}

-- ---- the query of a client has texts, and what it holds too

pub has_target : (q : Query) (c : Held) → HasTarget q nothing_held → HasFields c → HasTarget q c
has_target q c texts fields = record { table = texts.table; columns = texts.columns; clause = texts.clause; handle = fields.handle; left = fields.left; offset = fields.offset; cursor = fields.cursor }

-- ---- identities

text_is : (answer : Result Tree ParseError) (clause : List ℕ) → IsTextOf answer clause → Some clause ≡ canonical_in answer
text_is (Ok tree) clause is = ap (λ t. Some t) is
text_is (Err error) clause is = absurd is

canonical_is : (value clause : Option (List ℕ)) → IsCanonical value clause → clause ≡ canonical_of value
canonical_is None None is = refl
canonical_is None (Some clause) is = absurd is
canonical_is (Some text) None is = absurd is
canonical_is (Some text) (Some clause) is = text_is (answer_in text) clause is

identity_is : (tables : List Served) (q : Query) (c : Held) (ask : Ask) → IsAskedBy tables q c ask → ask.identity ≡ query_identity q
identity_is tables q c ask is = is.told
    ∙ ap (λ columns. identity (record { ns = (table_name q.table).0; name = (table_name q.table).1; columns = columns; clause = ask.clause })) is.columns
    ∙ ap (λ clause. identity (record { ns = (table_name q.table).0; name = (table_name q.table).1; columns = names_of q.columns; clause = clause })) (canonical_is q.clause ask.clause is.clause)

-- ---- a target that is read

named_same : (h : Option Handle) → target.named_by h ≡ following.named_by h
named_same None = refl
named_same (Some h) = refl

-- what is not refused goes on
past : (fault : Type 0) (refusal : Refusal) (follows : Routed → Type 0) (ask : Ask) → Refuses fault refusal follows (Ok ask) → follows (Ok ask)
past fault refusal follows ask (inl bad) = let e = bad.1 in cc
past fault refusal follows ask (inr more) = more.1

past_at : (place : Option ℕ) (follows : Routed → Type 0) (ask : Ask) → RefusesAt place follows (Ok ask) → follows (Ok ask)
past_at None follows ask more = more
past_at (Some place) follows ask e = cc

asked_by : (tables : List Served) (q : Query) (c : Held) (ask : Ask) → TargetTried tables q c (Ok ask) → IsAskedBy tables q c ask
asked_by tables q c ask tried =
    past (IsWaitingAtStart c) refusals.LiveAtStart (AsksBack tables q c) ask
    (past (IsAstray c) refusals.HandleNeeded (Refuses (IsWaitingAtStart c) refusals.LiveAtStart (AsksBack tables q c)) ask
    (past_at (syntax_place q.clause) (Refuses (IsAstray c) refusals.HandleNeeded (Refuses (IsWaitingAtStart c) refusals.LiveAtStart (AsksBack tables q c))) ask
    (past _ refusals.WhereTooLong (RefusesAt (syntax_place q.clause) (Refuses (IsAstray c) refusals.HandleNeeded (Refuses (IsWaitingAtStart c) refusals.LiveAtStart (AsksBack tables q c)))) ask
    (past (IsNotServed tables (Some q.table)) refusals.TableNotServed (ClauseTried q.clause (Refuses (IsAstray c) refusals.HandleNeeded (Refuses (IsWaitingAtStart c) refusals.LiveAtStart (AsksBack tables q c)))) ask tried))))

read_back : (tables : List Served) (q : Query) (c : Held) (ask : Ask) → HasTarget q c → IsRouted tables (get_of (target_text q c)) (Ok ask) → IsAskedBy tables q c ask
read_back tables q c ask good routed = pick (target_is_read_back tables q c (get_of (target_text q c)) (Ok ask) good refl refl (inr routed))
  where
    pick : (◌≡◌ {A = Routed} (Ok ask) (Err refusals.OutOfMemory)) ⊎ TargetTried tables q c (Ok ask) → IsAskedBy tables q c ask
    pick (inl e) = cc
    pick (inr tried) = asked_by tables q c ask tried

-- a client's target, read, asks for what the client's law wants
asks_of : (tables : List Served) (q : Query) (c : Held) (ask : Ask) → HasTarget q c → IsRouted tables (get_of (target_text q c)) (Ok ask) → following.IsAskOf (query_identity q) c ask
asks_of tables q c ask good routed = let is = read_back tables q c ask good routed in
    record { identity_is = identity_is tables q c ask is; named = is.named ∙ named_same c.handle; offset = is.offset; live = is.live; cursor = is.cursor }

-- ---- two clients with one target

abbrev pub params : Query → Held → List Pair
params q c = parameters_of q c

pub reads : (q : Query) (c : Held) → AreRead q.table (offset_text c.offset) q.columns q.clause (option_map handle_text c.handle) c.cursor (params q c)
reads q c = are_read q.table (offset_text c.offset) q.columns q.clause (option_map handle_text c.handle) (option_map handle_text (left_alone c.handle c.left)) c.cursor

pub query_is : (q : Query) (c : Held) → query_of (target_text q c) ≡ form_of q c
query_is q c = target_query (form_of q c)

pub parsed_is : (q : Query) (c : Held) → HasTarget q c → parse (query_of (target_text q c)) ≡ params q c
parsed_is q c good = ap parse (query_is q c) ∙ (the_form q c good).parsed

handles_same : (a b : Option Handle) → IfSome a IsHandle → IfSome b IsHandle → option_map handle_text a ≡ option_map handle_text b → a ≡ b
handles_same None None h k e = refl
handles_same None (Some b) h k e = cc
handles_same (Some a) None h k e = cc
handles_same (Some a) (Some b) h k e = ap (λ x. Some x) (handle_same a b h k (some_same (handle_text a) (handle_text b) e))

cursors_same : (a b : Option ℕ) → IfSome a (λ n. n < 2 ^ 64) → IfSome b (λ n. n < 2 ^ 64) → option_map decimal a ≡ option_map decimal b → a ≡ b
cursors_same None None h k e = refl
cursors_same None (Some b) h k e = cc
cursors_same (Some a) None h k e = cc
cursors_same (Some a) (Some b) h k e = ap (λ x. Some x) (decimal_injective a b h k (some_same (decimal a) (decimal b) e))

-- what one of them asks, the other does too
same_asks : (q p : Query) (c d : Held) (ask : Ask) → HasTarget q c → HasTarget p d → target_text q c ≡ target_text p d → following.IsAskOf (query_identity q) c ask → following.IsAskOf (query_identity p) d ask
same_asks q p c d ask good fine e is =
    let one : params q c ≡ params p d = sym (parsed_is q c good) ∙ ap (λ text. parse (query_of text)) e ∙ parsed_is p d fine in
    let r = subst (AreRead q.table (offset_text c.offset) q.columns q.clause (option_map handle_text c.handle) c.cursor) one (reads q c) in
    let s = reads p d in
    let table : q.table ≡ p.table = some_same q.table p.table (sym r.table ∙ s.table) in
    let columns : q.columns ≡ p.columns = sym r.columns ∙ s.columns in
    let clause : q.clause ≡ p.clause = sym r.clause ∙ s.clause in
    let handle : c.handle ≡ d.handle = handles_same c.handle d.handle good.handle fine.handle (sym r.handle ∙ s.handle) in
    let offset : c.offset ≡ d.offset = offset_same c.offset d.offset good.offset fine.offset (some_same (offset_text c.offset) (offset_text d.offset) (sym r.offset ∙ s.offset)) in
    let cursor : c.cursor ≡ d.cursor = cursors_same c.cursor d.cursor good.cursor fine.cursor (sym r.cursor ∙ s.cursor) in
    record {
      identity_is = is.identity_is
          ∙ ap (λ t. identity (record { ns = (table_name t).0; name = (table_name t).1; columns = names_of q.columns; clause = canonical_of q.clause })) table
          ∙ ap (λ cs. identity (record { ns = (table_name p.table).0; name = (table_name p.table).1; columns = names_of cs; clause = canonical_of q.clause })) columns
          ∙ ap (λ w. identity (record { ns = (table_name p.table).0; name = (table_name p.table).1; columns = names_of p.columns; clause = canonical_of w })) clause;
      named = is.named ∙ ap following.named_by handle;
      offset = is.offset ∙ offset;
      live = is.live ∙ ap (λ (n : Option ℕ). is_some n) cursor;
      cursor = is.cursor ∙ ap (λ (n : Option ℕ). unwrap_or n 0) cursor;
    }

-- ---- what an exchange asks

-- A client whose target it has asks for the same; and its offset has 64 bits.
pub record ReadsBack (target : Option (List ℕ)) (asked : Asked) : Type 0 where
  pub asks : (q : Query) (c : Held) (ask : Ask) → HasTarget q c → target ≡ Some (target_text q c) → asked ≡ AsksFor ask → following.IsAskOf (query_identity q) c ask
  pub within : (ask : Ask) → asked ≡ AsksFor ask → IsOffset ask.offset

pub reads_nothing : (target : Option (List ℕ)) (asked : Asked) → ((ask : Ask) → asked ≡ AsksFor ask → ⊥) → ReadsBack target asked
reads_nothing target asked none = record { asks = λ q c ask good at e. absurd (none ask e); within = λ ask e. absurd (none ask e) }

-- what a routed request asks for, by its parameters
asked_in : (tables : List Served) (pairs : List Pair) (ask : Ask) → ParametersTried tables pairs (Ok ask) → IsAskOf tables pairs ask
asked_in tables pairs ask tried =
    let asks = Asks tables pairs in
    let live = Refuses (IsLiveAtStart pairs) refusals.LiveAtStart (Asks tables pairs) in
    let handle = Refuses (NeedsHandle pairs) refusals.HandleNeeded (Refuses (IsLiveAtStart pairs) refusals.LiveAtStart (Asks tables pairs)) in
    let clause = value_under (codes "where") pairs in
    let table = value_under (codes "table") pairs in
    past (IsLiveAtStart pairs) refusals.LiveAtStart (Asks tables pairs) ask
    (past (NeedsHandle pairs) refusals.HandleNeeded live ask
    (past (HasNoOffset (value_under (codes "offset") pairs)) refusals.BadOffset handle ask
    (past_at (syntax_place clause) (PlaceTried pairs (Asks tables pairs)) ask
    (past (IsTooLong clause) refusals.WhereTooLong (RefusesAt (syntax_place clause) (PlaceTried pairs (Asks tables pairs))) ask
    (past (IsNotServed tables table) refusals.TableNotServed (ClauseTried clause (PlaceTried pairs (Asks tables pairs))) ask
    (past (table ≡ None) refusals.MissingTable (Refuses (IsNotServed tables table) refusals.TableNotServed (ClauseTried clause (PlaceTried pairs (Asks tables pairs)))) ask tried))))))

routed_within : (tables : List Served) (text : List ℕ) (ask : Ask) → IsRouted tables (get_of text) (Ok ask) → IsOffset ask.offset
routed_within tables text ask routed =
    let query = query_of text in
    let tried = ParametersTried tables (parse query) in
    let once = Refuses (has_repeated (parse query) ≡ true) refusals.RepeatedParameter tried in
    let form = Refuses (HasBadEscape query) refusals.BadEscape once in
    let known = Refuses (path_of text ≢ served_path) refusals.PathUnknown form in
    (asked_in tables (parse query) ask
    (past (has_repeated (parse query) ≡ true) refusals.RepeatedParameter tried ask
    (past (HasBadEscape query) refusals.BadEscape once ask
    (past (path_of text ≢ served_path) refusals.PathUnknown form ask
    (past (◌≡◌ {A = Bool} true false) refusals.MethodRefused known ask routed))))).offset.0

routed_some : (tables : List Served) (target : Option (List ℕ)) (ask : Ask) → IsSomeAnd target (λ text. IsRouted tables (get_of text) (Ok ask)) → IsOffset ask.offset
routed_some tables None ask h = absurd h
routed_some tables (Some text) ask h = routed_within tables text ask h

pub reads_of : (o : Options) (target : Option (List ℕ)) (asked : Asked) → IsRead o target asked → ReadsBack target asked
reads_of o target asked read = record {
  asks = λ q c ask good at e. asks_of o.tables q c ask good (subst (λ t. IsSomeAnd t (λ text. IsRouted o.tables (get_of text) (Ok ask))) at (read ask e));
  within = λ ask e. routed_some o.tables target ask (read ask e);
}

-- what a client asks next
record IsPlaced (asked : Asked) (c : Held) (ask : Ask) : Type 0 where
  first : Ask
  is : asked ≡ AsksFor first
  ask_is : ask ≡ record first { named = following.named_by c.handle; offset = c.offset; live = is_some c.cursor; cursor = unwrap_or c.cursor 0 }

placed_from : (asked : Asked) (c : Held) (ask : Ask) → placed c asked ≡ AsksFor ask → IsPlaced asked c ask
placed_from (Rattle.http_edge.specs.Lawful.Refuses code) c ask e = cc
placed_from (AsksFor first) c ask e = record { first = first; is = refl; ask_is = cc }

-- a client's request asks for its query's part, from where it stands
next_asks : (o : Options) (q : Query) (asked : Asked) (c : Held) (ask : Ask) → IsFirst o q asked → placed c asked ≡ AsksFor ask → following.IsAskOf (query_identity q) c ask
next_asks o q asked c ask first e =
    let p = placed_from asked c ask e in
    let told = identity_is o.tables q nothing_held p.first (read_back o.tables q nothing_held p.first first.texts (first.read p.first p.is)) in
    record { identity_is = ap (λ (a : Ask). a.identity) p.ask_is ∙ told; named = ap (λ (a : Ask). a.named) p.ask_is; offset = ap (λ (a : Ask). a.offset) p.ask_is; live = ap (λ (a : Ask). a.live) p.ask_is; cursor = ap (λ (a : Ask). a.cursor) p.ask_is }

pub reads_next : (o : Options) (q : Query) (asked : Asked) (c : Held) → IsFirst o q asked → HasFields c → ReadsBack (Some (target_text q c)) (placed c asked)
reads_next o q asked c first fields = record {
  asks = λ p d ask good at e. same_asks q p c d ask (has_target q c first.texts fields) good (some_same (target_text q c) (target_text p d) at) (next_asks o q asked c ask first e);
  within = λ ask e. subst IsOffset (sym (next_asks o q asked c ask first e).offset) fields.offset;
}
