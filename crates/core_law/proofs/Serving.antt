-- What each step of the server keeps, each run keeps.
use Rattle.std.proofs.Common.{◌≡◌, ℕ, zero, suc, Bool, true, false, ◌&&◌, ◌||◌, List, [], ◌∷◌, length, refl, Option, None, Some}
use Rattle.std.specs.Bool.{if◌then◌else◌}
use Rattle.std.specs.List.{slice_get}
use Rattle.std.specs.Option.{option_or}
use Rattle.std.specs.Prelude.{nat_lt, is_none}
use Rattle.std.proofs.lemmas.Bool.{and_parts}
use Rattle.shape_base.specs.declared.ask.Ask.{Ask}
use Rattle.shape_base.specs.declared.ask.Named.{Named}
use Rattle.shape_base.specs.declared.ask.Named.TheVariants.{Absent, Known, Strange}
use Rattle.shape_base.specs.declared.cause.Cause.{Cause}
use Rattle.shape_base.specs.declared.cause.Cause.TheVariants.{Deleted, SnapshotFailed}
use Rattle.shape_base.specs.declared.change.Tx.{Tx}
use Rattle.shape_base.specs.declared.definition.TableDef.{TableDef}
use Rattle.shape_base.specs.Snapshot.{Snapshot}
use Rattle.shape_base.specs.RegistryHistory.{live_under, is_live, is_starting, last_lsn}
use Rattle.shape_json.specs.ShapeHistory.{Reader, snapshot_in}
use Rattle.http_edge.specs.declared.error_code.ErrorCode.{ErrorCode}
use Rattle.http_edge.specs.declared.error_code.ErrorCode.TheVariants as codes
use Rattle.http_edge.specs.Lawful.{Asked, Refuses, AsksFor, refusal_of_limit, refusal_to_register}
use Rattle.core_events.specs.declared.out.StepError.TheVariants as errors
use Rattle.core_events.specs.declared.out.Unfit.TheVariants as unfit
use Rattle.fold_client.specs.Client.{take_reply}
use Rattle.fold_client.specs.Following.{Heard}
use Rattle.core_law.specs.Situation.{Options, Shape, Server, shape_at, HasNone, Exchange, Customer, Situation, at_start, known_of, held_of, next_target, next_asked, reader_for}
use Rattle.core_law.specs.Steps.{with_shape, with_exchange, with_role, registered_for, opened, asked_first, asked_named, asked_for, exchange_at, request, Fault, code_of, owned_by, refusal_of_snapshot, changed_in, snapshot_ends, started, snapped, dropped, redefined, after_commit, unless_repeat, after_commits}
use Rattle.core_law.specs.Clients.{Out, Cut, Turn, Goes, Stops, is_unfit, finished, never, has_room, is_long, sent, send_by, take_heard, is_next, take_exchange, take_by, joined, then_goes, goes_on, watch_heard, watch_exchange, watch_open, watched_by, watch}
use Rattle.core_law.specs.Run as run
use Rattle.core_law.specs.Run.{RequestCame, HeadCut, SnapshotCame, SnapshotEnded, Committed, Remove, Moment, Joined, SendNext, Receive, Watch, is_late_at, rounds, turn_of, next_of, after}
use Rattle.core_law.proofs.ServerSteps.{HasRoom, live_from_starting}

-- each step of a server keeps it
pub record Kept (o : Options) (P : Server → Type 0) : Type 0 where
  pub registers : (v : Server) (ask : Ask) (reader : Reader) → reader_for o v.registry ask ≡ Some reader → live_under v.registry ask.identity ≡ None → HasRoom o.limits.shapes v.registry → P v → P (with_shape v ask reader)
  pub drops : (v : Server) (n : ℕ) (cause : Cause) → is_live v.registry n ≡ true → P v → P (dropped v n cause)
  pub redefines : (v : Server) (d : Option TableDef) → P v → P (redefined v d)
  pub starts : (v : Server) (n : ℕ) (x : Shape) (snap : Snapshot) → shape_at v.shapes n ≡ Some x → is_starting v.registry n ≡ true → is_none (snapshot_in x.events) ≡ true → refusal_of_snapshot v.commits x snap ≡ None → P v → P (started o v n x snap)
  pub commits : (v : Server) (tx : Tx) → nat_lt (last_lsn v.registry) tx.lsn ≡ true → P v → P (after_commit o v tx)

module _ (o : Options) (P : Server → Type 0) (kept : Kept o P) where
  abbrev Keeps : Situation → Turn → Type 0
  Keeps s t = P s.server → P (next_of s t).server

  joins : (s : Situation) (outs : List Out) (next : Situation) (t : Turn) → P s.server → P next.server → Keeps next t → P (next_of s (joined outs t)).server
  joins s outs next (Stops error) before h k = before
  joins s outs next (Goes more last) before h k = k h

  then_keeps : (s : Situation) (go : Situation → Turn) (t : Turn) → Keeps s t → ((next : Situation) → Keeps next (go next)) → Keeps s (then_goes go t)
  then_keeps s go (Stops error) h k before = before
  then_keeps s go (Goes outs next) h k before = joins s outs next (go next) before (h before) (k next)

  if_finishes : (s t : Situation) (late : Exchange → Bool) (other : Turn) (b : Bool) → (b ≡ true → P s.server → P t.server) → Keeps s other → Keeps s (if b then finished o late s t else other)
  if_finishes s t late other true h k = h refl
  if_finishes s t late other false h k = k

  -- ---- requests

  either_none : (a b : Option ErrorCode) → option_or a b ≡ None → b ≡ None
  either_none None b e = e
  either_none (Some code) b e = cc

  no_limit : (a b : Bool) (code : ErrorCode) → (if a || b then Some code else None) ≡ None → (a ≡ false) × (b ≡ false)
  no_limit true b code e = cc
  no_limit false true code e = cc
  no_limit false false code e = (refl, refl)

  has_space : (v : Server) (ask : Ask) → refusal_to_register (known_of o v) v.registry ask ≡ None → HasRoom o.limits.shapes v.registry
  has_space v ask e = let p = no_limit _ _ _ (either_none _ (refusal_of_limit (known_of o v) v.registry) e) in record { room = p.0; few = p.1 }

  registers : (s : Situation) (x : Exchange) (ask : Ask) (reader : Option Reader) → reader_for o s.server.registry ask ≡ reader → live_under s.server.registry ask.identity ≡ None → HasRoom o.limits.shapes s.server.registry → P s.server → P (registered_for s x ask reader).server
  registers s x ask None e free room p = p
  registers s x ask (Some reader) e free room p = kept.registers s.server ask reader e free room p

  opens : (s : Situation) (x : Exchange) (ask : Ask) (code : Option ErrorCode) → refusal_to_register (known_of o s.server) s.server.registry ask ≡ code → live_under s.server.registry ask.identity ≡ None → P s.server → P (opened o s x ask code).server
  opens s x ask (Some code) e free p = p
  opens s x ask None e free p = registers s x ask (reader_for o s.server.registry ask) refl free (has_space s.server ask e) p

  firsts : (s : Situation) (x : Exchange) (ask : Ask) (n : Option ℕ) → live_under s.server.registry ask.identity ≡ n → P s.server → P (asked_first o s x ask n).server
  firsts s x ask (Some n) e p = p
  firsts s x ask None e p = opens s x ask (refusal_to_register (known_of o s.server) s.server.registry ask) refl e p

  names : (s : Situation) (x : Exchange) (ask : Ask) (named : Named) → P s.server → P (asked_named o s x ask named).server
  names s x ask Absent p = firsts s x ask (live_under s.server.registry ask.identity) refl p
  names s x ask (Known h) p = p
  names s x ask Strange p = p

  asks : (s : Situation) (x : Exchange) (asked : Asked) → P s.server → P (asked_for o s x asked).server
  asks s x (Refuses code) p = p
  asks s x (AsksFor ask) p = names s x ask ask.named p

  requests : (s : Situation) (outside : Bool) (target : Option (List ℕ)) (asked : Asked) (close : Bool) → P s.server → P (request o s outside target asked close).server
  requests s outside target asked close p = asks s (exchange_at outside target asked close s.clock) asked p

  cuts : (s : Situation) (b : Bool) → Keeps s (if b then Goes (Cut (length s.exchanges) ∷ []) (with_exchange s (with_role HasNone (exchange_at true None (Refuses codes.BadHead) false s.clock))) else Stops errors.TooManyExchanges)
  cuts s true p = p
  cuts s false p = p

  -- ---- snapshots

  ends : (s : Situation) (e n : ℕ) (code : ErrorCode) (d : Option TableDef) → is_starting s.server.registry n ≡ true → P s.server → P (snapshot_ends s e n code d).server
  ends s e n code d starting p = kept.redefines (dropped s.server n SnapshotFailed) d (kept.drops s.server n SnapshotFailed (live_from_starting s.server.registry n starting) p)

  snaps_to : (s : Situation) (e n : ℕ) (x : Shape) (snap : Snapshot) (r : Option ErrorCode) → refusal_of_snapshot s.server.commits x snap ≡ r → shape_at s.server.shapes n ≡ Some x → is_starting s.server.registry n ≡ true → is_none (snapshot_in x.events) ≡ true → P s.server → P (snapped o s e n x snap r).server
  snaps_to s e n x snap (Some code) is at starting none p = ends s e n code (changed_in snap x.reader.knows.definition) starting p
  snaps_to s e n x snap None is at starting none p = kept.starts s.server n x snap at starting none is p

  snap_shapes : (s : Situation) (e n : ℕ) (snap : Snapshot) (shape : Option Shape) → shape_at s.server.shapes n ≡ shape → Keeps s (run.snap_shape o s e n snap shape)
  snap_shapes s e n snap None at = λ p. p
  snap_shapes s e n snap (Some x) at = if_finishes s (snapped o s e n x snap (refusal_of_snapshot s.server.commits x snap)) never (is_unfit unfit.NotASnapshot) (is_starting s.server.registry n && is_none (snapshot_in x.events))
      (λ is. let q = and_parts (is_starting s.server.registry n) (is_none (snapshot_in x.events)) is in snaps_to s e n x snap (refusal_of_snapshot s.server.commits x snap) refl at q.0 q.1) (λ p. p)

  snaps : (s : Situation) (e : ℕ) (snap : Snapshot) (n : Option ℕ) → Keeps s (run.snap o s e snap n)
  snaps s e snap None = λ p. p
  snaps s e snap (Some n) = snap_shapes s e n snap (shape_at s.server.shapes n) refl

  fails : (s : Situation) (e : ℕ) (fault : Fault) (n : Option ℕ) → Keeps s (run.fail o s e fault n)
  fails s e fault None = λ p. p
  fails s e fault (Some n) = if_finishes s (snapshot_ends s e n (code_of fault) None) never (is_unfit unfit.NotASnapshot) (is_starting s.server.registry n) (λ is. ends s e n (code_of fault) None is) (λ p. p)

  -- ---- commits

  repeat_or : (v : Server) (tx : Tx) (b : Bool) → nat_lt (last_lsn v.registry) tx.lsn ≡ b → P v → P (if b then after_commit o v tx else v)
  repeat_or v tx true rises = kept.commits v tx rises
  repeat_or v tx false rises = λ p. p

  all_commits : (v : Server) (txs : List Tx) → P v → P (after_commits o v txs)
  all_commits v [] p = p
  all_commits v (tx ∷ txs) p = all_commits (unless_repeat o v tx) txs (repeat_or v tx (nat_lt (last_lsn v.registry) tx.lsn) refl p)

  -- ---- clients

  requested_if : (s : Situation) (c : Customer) (b : Bool) → P s.server → P (if b then request o s false None (Refuses codes.HeadTooLong) false else request o s false (Some (next_target c)) (next_asked c) false).server
  requested_if s c true p = requests s false None (Refuses codes.HeadTooLong) false p
  requested_if s c false p = requests s false (Some (next_target c)) (next_asked c) false p

  send_if : (s : Situation) (n : ℕ) (c : Customer) (b : Bool) → Keeps s (if b then sent o s n c else Stops errors.TooManyExchanges)
  send_if s n c true p = requested_if s c (is_long (next_target c)) p
  send_if s n c false p = p

  sends : (s : Situation) (n : ℕ) (c : Option Customer) → Keeps s (send_by o s n c)
  sends s n None p = p
  sends s n (Some c) p = send_if s n c (has_room s) p

  takes_heard : (s : Situation) (n : ℕ) (c : Customer) (h : Option Heard) → Keeps s (take_heard s n c h)
  takes_heard s n c None p = p
  takes_heard s n c (Some x) p = p

  takes_if : (s : Situation) (n : ℕ) (c : Customer) (x : Exchange) (a b : Bool) → Keeps s (if a then is_unfit unfit.NoReply else if b then take_heard s n c x.given else is_unfit unfit.WrongAddress)
  takes_if s n c x true b p = p
  takes_if s n c x false true p = takes_heard s n c x.given p
  takes_if s n c x false false p = p

  takes_exchange : (s : Situation) (n : ℕ) (c : Customer) (x : Option Exchange) → Keeps s (take_exchange s n c x)
  takes_exchange s n c None p = p
  takes_exchange s n c (Some x) p = takes_if s n c x (is_none x.given) (is_next c x.target) p

  takes : (s : Situation) (n e : ℕ) (c : Option Customer) → Keeps s (take_by s n e c)
  takes s n e None p = p
  takes s n e (Some c) p = takes_exchange s n c (slice_get s.exchanges e) p

  abbrev KeepsAll : (Situation → Turn) → Type 0
  KeepsAll go = (next : Situation) → Keeps next (go next)

  watches_if : (go : Situation → Turn) (s : Situation) (n e : ℕ) (c : Customer) (b : Bool) → KeepsAll go → Keeps s (if b then then_goes go (take_by s n e (Some c)) else take_by s n e (Some c))
  watches_if go s n e c true k = then_keeps s go (take_by s n e (Some c)) (takes s n e (Some c)) k
  watches_if go s n e c false k = takes s n e (Some c)

  watches_heard : (go : Situation → Turn) (s : Situation) (n e : ℕ) (c : Customer) (h : Option Heard) → KeepsAll go → Keeps s (watch_heard go s n e c h)
  watches_heard go s n e c None k = λ p. p
  watches_heard go s n e c (Some h) k = watches_if go s n e c (goes_on (take_reply (held_of c) h.given.reply h.body).outcome) k

  watches_exchange : (go : Situation → Turn) (s : Situation) (n e : ℕ) (c : Customer) (x : Option Exchange) → KeepsAll go → Keeps s (watch_exchange go s n e c x)
  watches_exchange go s n e c None k = λ p. p
  watches_exchange go s n e c (Some x) k = watches_heard go s n e c x.given k

  watches_open : (go : Situation → Turn) (s : Situation) (n : ℕ) (c : Customer) (e : Option ℕ) → KeepsAll go → Keeps s (watch_open o go s n c e)
  watches_open go s n c None k = then_keeps s go (send_by o s n (Some c)) (sends s n (Some c)) k
  watches_open go s n c (Some e) k = watches_exchange go s n e c (slice_get s.exchanges e) k

  watched : (go : Situation → Turn) (s : Situation) (n : ℕ) (c : Option Customer) → KeepsAll go → Keeps s (watched_by o go s n c)
  watched go s n None k = λ p. p
  watched go s n (Some c) k = watches_open go s n c c.waiting k

  watches : (times n : ℕ) (s : Situation) → Keeps s (watch o times n s)
  watches zero n s = λ p. p
  watches (suc times) n s = watched (λ next. watch o times n next) s n (slice_get s.customers n) (watches times n)

  moments : (s : Situation) (now : ℕ) (b : Bool) → Keeps s (if b then is_unfit unfit.ClockBack else finished o (is_late_at o now) s (record s { clock = now }))
  moments s now true p = p
  moments s now false p = p

  each : (s : Situation) (e : run.Event) → Keeps s (turn_of o s e)
  each s (RequestCame target asked close) = if_finishes s (request o s true target asked close) never (Stops errors.TooManyExchanges) (has_room s) (λ is. requests s true target asked close) (λ p. p)
  each s HeadCut = cuts s (has_room s)
  each s (SnapshotCame e x) = snaps s e x (owned_by (slice_get s.exchanges e))
  each s (SnapshotEnded e fault) = fails s e fault (owned_by (slice_get s.exchanges e))
  each s (Committed txs) = all_commits s.server txs
  each s (Remove n) = if_finishes s (record s { server = dropped s.server n Deleted }) never (Goes [] s) (is_live s.server.registry n) (λ is. kept.drops s.server n Deleted is) (λ p. p)
  each s (Moment now) = moments s now (nat_lt now s.clock)
  each s (Joined query asked) = λ p. p
  each s (SendNext n) = sends s n (slice_get s.customers n)
  each s (Receive n e) = takes s n e (slice_get s.customers n)
  each s (Watch n) = watches rounds n s

  after_all : (s : Situation) (es : List run.Event) → P s.server → P (after o s es).server
  after_all s [] p = p
  after_all s (e ∷ es) p = after_all (next_of s (turn_of o s e)) es (each s e p)

  pub always : (es : List run.Event) → P at_start.server → P (after o at_start es).server
  always es p = after_all at_start es p
