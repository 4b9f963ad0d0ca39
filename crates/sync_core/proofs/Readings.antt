-- What heads and queries come to.
use Rattle.std.proofs.Common.{◌≡◌, ◌≢◌, inl, inr, ℕ, ◌+◌, ◌<◌, ◌≤◌, Bool, true, false, if◌then◌else◌, List, [], ◌∷◌, length, codes, refl, sym, ap, subst, arith, Option, None, Some, Ok, Err}
use Rattle.httparse.specs.Grammar.{NeverHasRequest}
use Rattle.shape_base.specs.declared.ask.Ask.{Ask}
use Rattle.shape_base.specs.declared.served.Served.{Served}
use Rattle.http_edge.specs.declared.request.Request.{Request}
use Rattle.http_edge.specs.declared.request.HeadError.{HeadError}
use Rattle.http_edge.specs.declared.error_code.ErrorCode.{ErrorCode}
use Rattle.http_edge.specs.declared.refusal.Refusal.TheVariants as refusals
use Rattle.http_edge.specs.Head.{front, HasMore, Asks, IsHeadAnswer}
use Rattle.form_urlencoded.specs.Form.{parse}
use Rattle.http_edge.specs.Parameters.{Pair, path_of, query_of, HasBadEscape, value_under, has_repeated}
use Rattle.http_edge.specs.declared.refusal.Refusal.{Refusal}
use Rattle.http_edge.specs.Route.{served_path, is_of_name, table_from, IsNotServed, IsTooLong, syntax_place, HasNoOffset, NeedsHandle, IsLiveAtStart, IsAskOf, Routed, RefusesAt, ClauseTried, PlaceTried, ParametersTried, IsRouted, IsRouteAnswer}
use Rattle.http_edge.specs.Route as routes
use Rattle.http_edge.specs.Lawful.{Asked, AsksFor}
use Rattle.http_edge.proofs.Lemmas.{none_behind, more_behind, none_ever}
use Rattle.core_exchanges.specs.declared.exchange.Asked as kept
use Rattle.core_exchanges.specs.declared.exchange.Asked.TheVariants as asks
use Rattle.core_exchanges.specs.Standing.{asked_of}
use Rattle.core_machine.specs.declared.first.First.{First}
use Rattle.core_machine.specs.declared.first.First.TheVariants as firsts
use Rattle.core_machine.specs.Firsts.{first_asked, IsServedFirst}
use Rattle.sync_core.specs.declared.reading.Coming.{Coming}
use Rattle.sync_core.specs.declared.reading.Coming.TheVariants as comings
use Rattle.sync_core.specs.Reading.{asked_as, refused_head, IsOfHead, ReadsHead}
use Rattle.sync_core.specs.Coming.{reading_of, IsRefusedWhole, IsServedAsk, IsServedIn}

-- ---- what was routed

pub routed_by : (tables : List Served) (request : Request) (routed : Routed) → IsRouteAnswer tables request routed → (routed ≡ Err refusals.OutOfMemory → ⊥) → IsRouted tables request routed
routed_by tables request routed (inl out) kept = absurd (kept out)
routed_by tables request routed (inr is) kept = is

-- what is not refused, unless for want of memory, passed each test
past : (fault : Type 0) (refusal : Refusal) (follows : Routed → Type 0) (routed : Routed) → (routed ≡ Err refusal → ⊥) → routes.Refuses fault refusal follows routed → follows routed
past fault refusal follows routed other (inl h) = absurd (other h.1)
past fault refusal follows routed other (inr h) = h.1

past_at : (place : Option ℕ) (follows : Routed → Type 0) (routed : Routed) → ((place : ℕ) → routed ≡ Err (refusals.WhereSyntax place) → ⊥) → RefusesAt place follows routed → follows routed
past_at None follows routed other h = h
past_at (Some place) follows routed other e = absurd (other place e)

module _ (routed : Routed) (only : (refusal : Refusal) → routed ≡ Err refusal → refusal ≡ refusals.OutOfMemory) where
  -- the test is passed
  passed : (fault : Type 0) (refusal : Refusal) (follows : Routed → Type 0) → (refusal ≡ refusals.OutOfMemory → ⊥) → routes.Refuses fault refusal follows routed → follows routed
  passed fault refusal follows apart h = past fault refusal follows routed (λ is. apart (only refusal is)) h

  asked_in : (tables : List Served) (pairs : List Pair) → ParametersTried tables pairs routed → routes.Asks tables pairs routed
  asked_in tables pairs tried =
      let asks = routes.Asks tables pairs in
      let live = routes.Refuses (IsLiveAtStart pairs) refusals.LiveAtStart asks in
      let handle = routes.Refuses (NeedsHandle pairs) refusals.HandleNeeded live in
      let place = PlaceTried pairs asks in
      let clause = value_under (codes "where") pairs in
      let table = value_under (codes "table") pairs in
      passed (IsLiveAtStart pairs) refusals.LiveAtStart asks (λ e. cc)
      (passed (NeedsHandle pairs) refusals.HandleNeeded live (λ e. cc)
      (passed (HasNoOffset (value_under (codes "offset") pairs)) refusals.BadOffset handle (λ e. cc)
      (past_at (syntax_place clause) place routed (λ p is. let e = only (refusals.WhereSyntax p) is in cc)
      (passed (IsTooLong clause) refusals.WhereTooLong (RefusesAt (syntax_place clause) place) (λ e. cc)
      (passed (IsNotServed tables table) refusals.TableNotServed (ClauseTried clause place) (λ e. cc)
      (passed (table ≡ None) refusals.MissingTable (routes.Refuses (IsNotServed tables table) refusals.TableNotServed (ClauseTried clause place)) (λ e. cc) tried))))))

  asks_routed : (tables : List Served) (request : Request) → IsRouted tables request routed → routes.Asks tables (parse (query_of request.target)) routed
  asks_routed tables request is =
      let query = query_of request.target in
      let tried = ParametersTried tables (parse query) in
      let once = routes.Refuses (has_repeated (parse query) ≡ true) refusals.RepeatedParameter tried in
      let form = routes.Refuses (HasBadEscape query) refusals.BadEscape once in
      let known = routes.Refuses (path_of request.target ≢ served_path) refusals.PathUnknown form in
      asked_in tables (parse query)
      (passed (has_repeated (parse query) ≡ true) refusals.RepeatedParameter tried (λ e. cc)
      (passed (HasBadEscape query) refusals.BadEscape once (λ e. cc)
      (passed (path_of request.target ≢ served_path) refusals.PathUnknown form (λ e. cc)
      (passed (request.get ≡ false) refusals.MethodRefused known (λ e. cc) is))))

-- nothing is refused for want of memory
pub never_out : (tables : List Served) (request : Request) → IsRouted tables request (Err refusals.OutOfMemory) → ⊥
never_out tables request is = asks_routed (Err refusals.OutOfMemory) (λ refusal e. cc) tables request is

-- the place of a table is among them
within : (name : Pair) (place : ℕ) (tables : List Served) (found : ℕ) → table_from name place tables ≡ Some found → found < place + length tables
within name place [] found e = cc
within name place (t ∷ tables) found e = pick (is_of_name name t) (λ h. within name (place + 1) tables found h) e
  where
    pick : (b : Bool) → (table_from name (place + 1) tables ≡ Some found → found < (place + 1) + length tables) → (if b then Some place else table_from name (place + 1) tables) ≡ Some found → found < place + length (t ∷ tables)
    pick true more h = let at : place ≡ found = cc in omega (arith, at)
    pick false more h = let less = more h in omega (arith, less)

pub ask_within : (tables : List Served) (request : Request) (ask : Ask) → IsRouted tables request (Ok ask) → ask.table < length tables
ask_within tables request ask is = let a = asks_routed (Ok ask) (λ refusal e. cc) tables request is in let h = within _ 0 tables ask.table a.table in omega (arith, h)

served_by : (tables : List Served) (request : Request) (routed : Routed) → IsRouted tables request routed → (asked : Asked) → asked ≡ asked_as routed → (ask : Ask) → asked ≡ AsksFor ask → ask.table < length tables
served_by tables request (Ok ask) is asked same other e = let eq : ask ≡ other = cc in subst (λ (a : Ask). a.table < length tables) eq (ask_within tables request ask is)
served_by tables request (Err refusal) is asked same other e = cc

pub served_ask : (tables : List Served) (request : Request) (routed : Routed) → IsRouted tables request routed → (asked : kept.Asked) → asked_of asked ≡ asked_as routed → IsServedAsk tables asked
served_ask tables request routed is (asks.Refused code) same = tt
served_ask tables request routed is (asks.AsksFor ask) same = served_by tables request routed is (AsksFor ask) same ask refl

pub served_first : (tables : List Served) (request : Request) (routed : Routed) → IsRouted tables request routed → (first : First) → first_asked first ≡ asked_as routed → IsServedFirst tables first
served_first tables request routed is (firsts.Refused refusal) same = tt
served_first tables request routed is (firsts.AsksFor ask) same = served_by tables request routed is (AsksFor ask) same ask refl

-- ---- heads

-- a whole head behind which nothing stands
pub last_head : (bytes : List ℕ) (request : Request) → Asks (front bytes) request → length bytes ≤ request.length → HasMore bytes → ⊥
last_head bytes request asks last = none_behind bytes asks.request.head asks.request.has (let e = asks.says.length_is in omega (arith, e, last))

-- one behind which more stands
pub more_head : (bytes : List ℕ) (request : Request) → Asks (front bytes) request → request.length < length bytes → HasMore bytes
more_head bytes request asks more = more_behind bytes asks.request.head asks.request.has (let e = asks.says.length_is in omega (arith, e, more))

-- what a refused head comes to, by whether more bytes follow it
pub refused_reads : (tables : List Served) (bytes : List ℕ) (error : HeadError) (code : ErrorCode) (coming : Coming) → IsHeadAnswer bytes (Err error) → IsOfHead tables (Err error) (refused_head code) → IsRefusedWhole bytes code coming → ReadsHead tables bytes (reading_of coming)
refused_reads tables bytes error code coming is reads (inl has) = inl (has.0, ap reading_of has.1)
refused_reads tables bytes error code coming is reads (inr none) = inr (none.0, record { answer = Err error; is = is; reads = subst (IsOfHead tables (Err error)) (sym none.1) reads })

-- a refused head asks for nothing
refused_serves : (tables : List Served) (code : ErrorCode) (coming : Coming) → reading_of coming ≡ refused_head code → IsServedIn tables coming
refused_serves tables code (comings.Request target (asks.Refused other) close) e = tt
refused_serves tables code (comings.Request target (asks.AsksFor ask) close) e = cc
refused_serves tables code comings.Cut e = tt
refused_serves tables code comings.More e = tt

pub whole_serves : (tables : List Served) (bytes : List ℕ) (code : ErrorCode) (coming : Coming) → IsRefusedWhole bytes code coming → IsServedIn tables coming
whole_serves tables bytes code coming (inl has) = subst (IsServedIn tables) (sym has.1) tt
whole_serves tables bytes code coming (inr none) = refused_serves tables code coming none.1

-- bytes that never begin a head
pub never_more : (bytes : List ℕ) → NeverHasRequest (front bytes) → HasMore bytes → ⊥
never_more bytes never = none_ever bytes never
