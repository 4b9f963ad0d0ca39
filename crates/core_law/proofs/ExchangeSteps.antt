-- What each step of exchanges keeps, each run keeps.
use Rattle.std.proofs.Common.{◌≡◌, ℕ, zero, suc, ◌+◌, ◌≤◌, Bool, true, false, List, [], ◌∷◌, ◌++◌, length, map, refl, sym, ◌∙◌, ap, subst, arith, Option, None, Some}
use Rattle.std.specs.Bool.{if◌then◌else◌}
use Rattle.std.specs.List.{slice_get}
use Rattle.std.specs.Option.{option_or}
use Rattle.std.specs.Prelude.{nat_lt, is_none}
use Rattle.std.proofs.lemmas.Bool.Decides.{nat_tests}
use Rattle.shape_base.specs.declared.ask.Ask.{Ask}
use Rattle.shape_base.specs.declared.ask.Named.{Named}
use Rattle.shape_base.specs.declared.ask.Named.TheVariants.{Absent, Known, Strange}
use Rattle.shape_base.specs.declared.cause.Cause.TheVariants.{Deleted, SnapshotFailed}
use Rattle.shape_base.specs.declared.definition.TableDef.{TableDef}
use Rattle.shape_base.specs.declared.handle.Handle.{Handle}
use Rattle.shape_base.specs.Snapshot.{Snapshot}
use Rattle.shape_base.specs.RegistryHistory.{live_under, is_live, is_starting}
use Rattle.shape_json.specs.ShapeHistory.{Reader}
use Rattle.http_edge.specs.declared.error_code.ErrorCode.{ErrorCode}
use Rattle.http_edge.specs.declared.error_code.ErrorCode.TheVariants as codes
use Rattle.http_edge.specs.Lawful.{Asked, Refuses, AsksFor, refusal_to_register}
use Rattle.core_events.specs.declared.out.StepError.{StepError}
use Rattle.core_events.specs.declared.out.StepError.TheVariants as errors
use Rattle.core_events.specs.declared.out.Unfit.TheVariants as unfit
use Rattle.fold_client.specs.Client.{take_reply}
use Rattle.fold_client.specs.Following.{Heard}
use Rattle.core_law.specs.Situation.{Options, Shape, Server, shape_at, Reads, Waits, Owns, HasNone, Exchange, Customer, Situation, known_of, held_of, next_target, next_asked, reader_for}
use Rattle.core_law.specs.Steps.{change_at, heard_at, refused_with, settled_one, settled, with_exchange, refused_at, with_role, registered_for, opened, asked_first, asked_named, asked_for, exchange_at, request, Fault, code_of, owned_by, refusal_of_snapshot, changed_in, snapshot_ends, snapped, dropped, redefined, after_commits}
use Rattle.core_law.specs.Clients.{Out, Cut, Turn, Goes, Stops, is_unfit, finished, never, has_room, waits_at, is_long, requested, sent, send_by, take_heard, is_next, take_exchange, take_by, joined, then_goes, goes_on, watch_heard, watch_exchange, watch_open, watched_by, watch}
use Rattle.core_law.specs.Run as run
use Rattle.core_law.specs.Run.{RequestCame, HeadCut, SnapshotCame, SnapshotEnded, Committed, Remove, Moment, Joined, SendNext, Receive, Watch, is_late_at, rounds, turn_of, next_of, after}
use Rattle.core_law.specs.Reached.{HasTable}
use Rattle.core_law.proofs.Readers.{has_reader}

-- An exchange without a reply that names no handle, and whose table is served and defined, found or registered a number.
abbrev pub HasNumber : Options → Exchange → Type 0
HasNumber o x = (ask : Ask) → x.asked ≡ AsksFor ask → ask.named ≡ Absent → HasTable o ask → x.role ≡ Reads → x.given ≡ None → ⊥

-- an exchange as it comes
pub record Comes (o : Options) (now : ℕ) (x : Exchange) : Type 0 where
  pub moment : x.moment ≡ now
  pub number : HasNumber o x

-- What each step of exchanges keeps: R holds of exchanges and a clock before and after it.
pub record Steps (o : Options) (R : List Exchange → ℕ → List Exchange → ℕ → Type 0) : Type 0 where
  pub stays : (xs : List Exchange) (now : ℕ) → R xs now xs now
  pub joins : (xs ys zs : List Exchange) (a b c : ℕ) → R xs a ys b → R ys b zs c → R xs a zs c
  pub comes : (xs : List Exchange) (now : ℕ) (x : Exchange) → Comes o now x → R xs now (xs ++ x ∷ []) now
  pub answers : (xs : List Exchange) (now : ℕ) (v : Server) (late : Exchange → Bool) → R xs now (map (λ x. settled_one o v late x x.given) xs) now
  pub refuses : (xs : List Exchange) (now : ℕ) (v : Server) (code : ErrorCode) (e : ℕ) → R xs now (change_at (refused_at v code) xs e) now
  pub passes : (xs : List Exchange) (now later : ℕ) → now ≤ later → R xs now xs later

-- ---- what comes

one_ask : (a b : Ask) → AsksFor a ≡ AsksFor b → a ≡ b
one_ask a b e = cc

owns_reads : (n : ℕ) → Owns n ≡ Reads → ⊥
owns_reads n e = cc

waits_reads : (n : ℕ) → Waits n ≡ Reads → ⊥
waits_reads n e = cc

none_reads : HasNone ≡ Reads → ⊥
none_reads e = cc

refuses_asks : (code : ErrorCode) (ask : Ask) → Refuses code ≡ AsksFor ask → ⊥
refuses_asks code ask e = cc

known_absent : (h : Handle) → Known h ≡ Absent → ⊥
known_absent h e = cc

strange_absent : Strange ≡ Absent → ⊥
strange_absent e = cc

pub some_given : (given : Option Heard) (heard : Heard) → option_or given (Some heard) ≡ None → ⊥
some_given None heard e = cc
some_given (Some x) heard e = cc

not_less : (a b : ℕ) → nat_lt b a ≡ false → a ≤ b
not_less a b e = grind (arith, nat_tests, e)

module _ (o : Options) (R : List Exchange → ℕ → List Exchange → ℕ → Type 0) (steps : Steps o R) where
  abbrev Moves : Situation → Situation → Type 0
  Moves s t = R s.exchanges s.clock t.exchanges t.clock

  abbrev Keeps : Situation → Turn → Type 0
  Keeps s t = Moves s (next_of s t)

  same : (s : Situation) → Moves s s
  same s = steps.stays s.exchanges s.clock

  finishes : (s t : Situation) (late : Exchange → Bool) → Moves s t → Keeps s (finished o late s t)
  finishes s t late h = steps.joins s.exchanges t.exchanges (settled o late t).exchanges s.clock t.clock t.clock h (steps.answers t.exchanges t.clock t.server late)

  stops : (s : Situation) (error : StepError) → Keeps s (Stops error)
  stops s error = same s

  joins : (s : Situation) (outs : List Out) (next : Situation) (t : Turn) → Moves s next → Keeps next t → Keeps s (joined outs t)
  joins s outs next (Stops error) h k = same s
  joins s outs next (Goes more last) h k = steps.joins s.exchanges next.exchanges last.exchanges s.clock next.clock last.clock h k

  then_keeps : (s : Situation) (go : Situation → Turn) (t : Turn) → Keeps s t → ((next : Situation) → Keeps next (go next)) → Keeps s (then_goes go t)
  then_keeps s go (Stops error) h k = same s
  then_keeps s go (Goes outs next) h k = joins s outs next (go next) h (k next)

  if_finishes : (s t : Situation) (late : Exchange → Bool) (other : Turn) (b : Bool) → Moves s t → Keeps s other → Keeps s (if b then finished o late s t else other)
  if_finishes s t late other true h k = finishes s t late h
  if_finishes s t late other false h k = k

  -- ---- requests

  registers : (s : Situation) (x : Exchange) (ask : Ask) (reader : Option Reader) → reader_for o s.server.registry ask ≡ reader → refusal_to_register (known_of o s.server) s.server.registry ask ≡ None → x.moment ≡ s.clock → x.asked ≡ AsksFor ask → Moves s (registered_for s x ask reader)
  registers s x ask None reads allowed at asked = steps.comes s.exchanges s.clock x (record { moment = at; number = λ other is first has role none. has_reader o s.server ask (subst (HasTable o) (one_ask other ask (sym is ∙ asked)) has) allowed reads })
  registers s x ask (Some reader) reads allowed at asked = steps.comes s.exchanges s.clock (with_role (Owns (length s.server.shapes + 1)) x) (record { moment = at; number = λ other is first has role none. owns_reads (length s.server.shapes + 1) role })

  opens : (s : Situation) (x : Exchange) (ask : Ask) (code : Option ErrorCode) → refusal_to_register (known_of o s.server) s.server.registry ask ≡ code → x.moment ≡ s.clock → x.asked ≡ AsksFor ask → Moves s (opened o s x ask code)
  opens s x ask (Some code) why at asked = steps.comes s.exchanges s.clock (refused_at s.server code x) (record { moment = at; number = λ other is first has role none. some_given x.given (heard_at s.server x.asked (refused_with code)) none })
  opens s x ask None allowed at asked = registers s x ask (reader_for o s.server.registry ask) refl allowed at asked

  firsts : (s : Situation) (x : Exchange) (ask : Ask) (n : Option ℕ) → x.moment ≡ s.clock → x.asked ≡ AsksFor ask → Moves s (asked_first o s x ask n)
  firsts s x ask (Some n) at asked = steps.comes s.exchanges s.clock (with_role (Waits n) x) (record { moment = at; number = λ other is first has role none. waits_reads n role })
  firsts s x ask None at asked = opens s x ask (refusal_to_register (known_of o s.server) s.server.registry ask) refl at asked

  -- what the ask of an exchange names
  names_as : (x : Exchange) (ask other : Ask) (named : Named) → x.asked ≡ AsksFor ask → ask.named ≡ named → x.asked ≡ AsksFor other → other.named ≡ Absent → named ≡ Absent
  names_as x ask other named asked is again first = sym is ∙ ap (λ (a : Ask). a.named) (one_ask ask other (sym asked ∙ again)) ∙ first

  names : (s : Situation) (x : Exchange) (ask : Ask) (named : Named) → ask.named ≡ named → x.moment ≡ s.clock → x.asked ≡ AsksFor ask → Moves s (asked_named o s x ask named)
  names s x ask Absent is at asked = firsts s x ask (live_under s.server.registry ask.identity) at asked
  names s x ask (Known h) is at asked = steps.comes s.exchanges s.clock x (record { moment = at; number = λ other again first has role none. known_absent h (names_as x ask other (Known h) asked is again first) })
  names s x ask Strange is at asked = steps.comes s.exchanges s.clock x (record { moment = at; number = λ other again first has role none. strange_absent (names_as x ask other Strange asked is again first) })

  asks : (s : Situation) (x : Exchange) (asked : Asked) → x.moment ≡ s.clock → x.asked ≡ asked → Moves s (asked_for o s x asked)
  asks s x (Refuses code) at is = steps.comes s.exchanges s.clock x (record { moment = at; number = λ other again first has role none. refuses_asks code other (sym is ∙ again) })
  asks s x (AsksFor ask) at is = names s x ask ask.named refl at is

  requests : (s : Situation) (outside : Bool) (target : Option (List ℕ)) (asked : Asked) (close : Bool) → Moves s (request o s outside target asked close)
  requests s outside target asked close = asks s (exchange_at outside target asked close s.clock) asked refl refl

  cuts : (s : Situation) (b : Bool) → Keeps s (if b then Goes (Cut (length s.exchanges) ∷ []) (with_exchange s (with_role HasNone (exchange_at true None (Refuses codes.BadHead) false s.clock))) else Stops errors.TooManyExchanges)
  cuts s true = steps.comes s.exchanges s.clock (with_role HasNone (exchange_at true None (Refuses codes.BadHead) false s.clock)) (record { moment = refl; number = λ other is first has role none. none_reads role })
  cuts s false = same s

  -- ---- snapshots

  ends : (s : Situation) (e n : ℕ) (code : ErrorCode) (d : Option TableDef) → Moves s (snapshot_ends s e n code d)
  ends s e n code d = steps.refuses s.exchanges s.clock (redefined (dropped s.server n SnapshotFailed) d) code e

  snaps_to : (s : Situation) (e n : ℕ) (x : Shape) (snap : Snapshot) (r : Option ErrorCode) → Moves s (snapped o s e n x snap r)
  snaps_to s e n x snap (Some code) = ends s e n code (changed_in snap x.reader.knows.definition)
  snaps_to s e n x snap None = same s

  snap_shapes : (s : Situation) (e n : ℕ) (x : Snapshot) (shape : Option Shape) → Keeps s (run.snap_shape o s e n x shape)
  snap_shapes s e n x None = stops s (errors.Unfit unfit.NotASnapshot)
  snap_shapes s e n x (Some shape) = if_finishes s (snapped o s e n shape x (refusal_of_snapshot s.server.commits shape x)) never (is_unfit unfit.NotASnapshot) _ (snaps_to s e n shape x (refusal_of_snapshot s.server.commits shape x)) (stops s (errors.Unfit unfit.NotASnapshot))

  snaps : (s : Situation) (e : ℕ) (x : Snapshot) (n : Option ℕ) → Keeps s (run.snap o s e x n)
  snaps s e x None = stops s (errors.Unfit unfit.NotASnapshot)
  snaps s e x (Some n) = snap_shapes s e n x (shape_at s.server.shapes n)

  fails : (s : Situation) (e : ℕ) (fault : Fault) (n : Option ℕ) → Keeps s (run.fail o s e fault n)
  fails s e fault None = stops s (errors.Unfit unfit.NotASnapshot)
  fails s e fault (Some n) = if_finishes s (snapshot_ends s e n (code_of fault) None) never (is_unfit unfit.NotASnapshot) (is_starting s.server.registry n) (ends s e n (code_of fault) None) (stops s (errors.Unfit unfit.NotASnapshot))

  -- ---- clients

  requested_if : (s : Situation) (c : Customer) (b : Bool) → Moves s (if b then request o s false None (Refuses codes.HeadTooLong) false else request o s false (Some (next_target c)) (next_asked c) false)
  requested_if s c true = requests s false None (Refuses codes.HeadTooLong) false
  requested_if s c false = requests s false (Some (next_target c)) (next_asked c) false

  send_if : (s : Situation) (n : ℕ) (c : Customer) (b : Bool) → Keeps s (if b then sent o s n c else Stops errors.TooManyExchanges)
  send_if s n c true = finishes s (record (requested o s c) { customers = change_at (waits_at (length s.exchanges)) (requested o s c).customers n }) never (requested_if s c (is_long (next_target c)))
  send_if s n c false = same s

  sends : (s : Situation) (n : ℕ) (c : Option Customer) → Keeps s (send_by o s n c)
  sends s n None = stops s (errors.Unfit unfit.NoClient)
  sends s n (Some c) = send_if s n c (has_room s)

  takes_heard : (s : Situation) (n : ℕ) (c : Customer) (h : Option Heard) → Keeps s (take_heard s n c h)
  takes_heard s n c None = same s
  takes_heard s n c (Some x) = same s

  takes_if : (s : Situation) (n : ℕ) (c : Customer) (x : Exchange) (a b : Bool) → Keeps s (if a then is_unfit unfit.NoReply else if b then take_heard s n c x.given else is_unfit unfit.WrongAddress)
  takes_if s n c x true b = same s
  takes_if s n c x false true = takes_heard s n c x.given
  takes_if s n c x false false = same s

  takes_exchange : (s : Situation) (n : ℕ) (c : Customer) (x : Option Exchange) → Keeps s (take_exchange s n c x)
  takes_exchange s n c None = same s
  takes_exchange s n c (Some x) = takes_if s n c x (is_none x.given) (is_next c x.target)

  takes : (s : Situation) (n e : ℕ) (c : Option Customer) → Keeps s (take_by s n e c)
  takes s n e None = same s
  takes s n e (Some c) = takes_exchange s n c (slice_get s.exchanges e)

  abbrev KeepsAll : (Situation → Turn) → Type 0
  KeepsAll go = (next : Situation) → Keeps next (go next)

  watches_if : (go : Situation → Turn) (s : Situation) (n e : ℕ) (c : Customer) (b : Bool) → KeepsAll go → Keeps s (if b then then_goes go (take_by s n e (Some c)) else take_by s n e (Some c))
  watches_if go s n e c true k = then_keeps s go (take_by s n e (Some c)) (takes s n e (Some c)) k
  watches_if go s n e c false k = takes s n e (Some c)

  watches_heard : (go : Situation → Turn) (s : Situation) (n e : ℕ) (c : Customer) (h : Option Heard) → KeepsAll go → Keeps s (watch_heard go s n e c h)
  watches_heard go s n e c None k = same s
  watches_heard go s n e c (Some h) k = watches_if go s n e c (goes_on (take_reply (held_of c) h.given.reply h.body).outcome) k

  watches_exchange : (go : Situation → Turn) (s : Situation) (n e : ℕ) (c : Customer) (x : Option Exchange) → KeepsAll go → Keeps s (watch_exchange go s n e c x)
  watches_exchange go s n e c None k = same s
  watches_exchange go s n e c (Some x) k = watches_heard go s n e c x.given k

  watches_open : (go : Situation → Turn) (s : Situation) (n : ℕ) (c : Customer) (e : Option ℕ) → KeepsAll go → Keeps s (watch_open o go s n c e)
  watches_open go s n c None k = then_keeps s go (send_by o s n (Some c)) (sends s n (Some c)) k
  watches_open go s n c (Some e) k = watches_exchange go s n e c (slice_get s.exchanges e) k

  watched : (go : Situation → Turn) (s : Situation) (n : ℕ) (c : Option Customer) → KeepsAll go → Keeps s (watched_by o go s n c)
  watched go s n None k = same s
  watched go s n (Some c) k = watches_open go s n c c.waiting k

  watches : (rounds n : ℕ) (s : Situation) → Keeps s (watch o rounds n s)
  watches zero n s = same s
  watches (suc rounds) n s = watched (λ next. watch o rounds n next) s n (slice_get s.customers n) (watches rounds n)

  moments : (s : Situation) (now : ℕ) (b : Bool) → nat_lt now s.clock ≡ b → Keeps s (if b then is_unfit unfit.ClockBack else finished o (is_late_at o now) s (record s { clock = now }))
  moments s now true e = same s
  moments s now false e = finishes s (record s { clock = now }) (is_late_at o now) (steps.passes s.exchanges s.clock now (not_less s.clock now e))

  each : (s : Situation) (e : run.Event) → Keeps s (turn_of o s e)
  each s (RequestCame target asked close) = if_finishes s (request o s true target asked close) never (Stops errors.TooManyExchanges) (has_room s) (requests s true target asked close) (stops s errors.TooManyExchanges)
  each s HeadCut = cuts s (has_room s)
  each s (SnapshotCame e x) = snaps s e x (owned_by (slice_get s.exchanges e))
  each s (SnapshotEnded e fault) = fails s e fault (owned_by (slice_get s.exchanges e))
  each s (Committed txs) = finishes s (record s { server = after_commits o s.server txs }) never (same s)
  each s (Remove n) = if_finishes s (record s { server = dropped s.server n Deleted }) never (Goes [] s) (is_live s.server.registry n) (same s) (same s)
  each s (Moment now) = moments s now (nat_lt now s.clock) refl
  each s (Joined query asked) = same s
  each s (SendNext n) = sends s n (slice_get s.customers n)
  each s (Receive n e) = takes s n e (slice_get s.customers n)
  each s (Watch n) = watches rounds n s

  pub after_steps : (s : Situation) (es : List run.Event) → Moves s (after o s es)
  after_steps s [] = same s
  after_steps s (e ∷ es) = steps.joins s.exchanges (next_of s (turn_of o s e)).exchanges (after o s (e ∷ es)).exchanges s.clock (next_of s (turn_of o s e)).clock (after o s (e ∷ es)).clock (each s e) (after_steps (next_of s (turn_of o s e)) es)
