-- Which turns leave the commits of a server as they are, and what commits add to them.
use Rattle.std.proofs.Common.{◌≡◌, ℕ, zero, suc, ◌+◌, ◌<◌, Bool, true, false, ◌&&◌, List, [], ◌∷◌, ◌++◌, length, append_assoc, refl, sym, ◌∙◌, ap, subst, Option, None, Some}
use Rattle.std.specs.Bool.{if◌then◌else◌}
use Rattle.std.specs.List.{slice_get, last_or, cons_option}
use Rattle.std.specs.Option.{option_map}
use Rattle.std.specs.Prelude.{nat_lt, is_none, unwrap_or}
use Rattle.std.proofs.lemmas.Bool.Decides.{Decides-ltb}
use Rattle.std.proofs.lemmas.List.{append-nil}
use Rattle.std.proofs.lemmas.List.Elements.{filter_map-append}
use Rattle.shape_base.specs.declared.ask.Ask.{Ask}
use Rattle.shape_base.specs.declared.ask.Named.{Named}
use Rattle.shape_base.specs.declared.ask.Named.TheVariants.{Absent, Known, Strange}
use Rattle.shape_base.specs.declared.cause.Cause.{Cause}
use Rattle.shape_base.specs.declared.cause.Cause.TheVariants.{Deleted, SnapshotFailed}
use Rattle.shape_base.specs.declared.change.Tx.{Tx}
use Rattle.shape_base.specs.declared.definition.TableDef.{TableDef}
use Rattle.shape_base.specs.declared.registry_event.RegistryEvent.{RegistryEvent}
use Rattle.shape_base.specs.declared.registry_event.RegistryEvent.TheVariants.{Registered, Ready, Removed, Took, Redefined}
use Rattle.shape_base.specs.Snapshot.{Snapshot}
use Rattle.shape_base.specs.Transactions.{LsnsRise}
use Rattle.shape_base.specs.RegistryHistory.{Taken, transaction_in, transactions, live_under, is_live, is_starting, last_id, last_lsn}
use Rattle.shape_json.specs.ShapeHistory.{Reader, Snapped, Dropped, snapshot_in, drop_of}
use Rattle.http_edge.specs.declared.error_code.ErrorCode.{ErrorCode}
use Rattle.http_edge.specs.declared.error_code.ErrorCode.TheVariants as codes
use Rattle.http_edge.specs.Lawful.{Asked, Refuses, AsksFor, refusal_to_register}
use Rattle.core_events.specs.declared.out.StepError.TheVariants as errors
use Rattle.core_events.specs.declared.out.Unfit.TheVariants as unfit
use Rattle.fold_client.specs.Client.{take_reply}
use Rattle.fold_client.specs.Following.{Heard}
use Rattle.core_law.specs.Situation.{Options, Shape, Server, shape_at, HasNone, Exchange, Customer, Situation, known_of, held_of, next_target, next_asked, reader_for}
use Rattle.core_law.specs.Steps.{change_shape, with_event, with_registry, with_shape_event, redefined, with_commit, definition_by, removed_for, swept_from, after_commit, unless_repeat, after_commits, with_exchange, with_role, registered_for, opened, asked_first, asked_named, asked_for, exchange_at, request, Fault, code_of, owned_by, refusal_of_snapshot, changed_in, snapshot_ends, started_by, started, snapped, dropped}
use Rattle.core_law.specs.Clients.{Out, Cut, Turn, Goes, Stops, is_unfit, finished, never, has_room, is_long, sent, send_by, take_heard, is_next, take_exchange, take_by, joined, then_goes, goes_on, watch_heard, watch_exchange, watch_open, watched_by, watch}
use Rattle.core_law.specs.Run as run
use Rattle.core_law.specs.Run.{RequestCame, HeadCut, SnapshotCame, SnapshotEnded, Committed, Remove, Moment, Joined, SendNext, Receive, Watch, is_late_at, rounds, turn_of, next_of}
use Rattle.core_run.proofs.Readings.{IsQuietEvent}

-- a server has these commits, and the last transaction that its registry took has this LSN
pub record Has (txs : List Tx) (lsn : ℕ) (v : Server) : Type 0 where
  pub commits : v.commits ≡ txs
  pub last : last_lsn v.registry ≡ lsn

-- ---- the last LSN

abbrev lsn_of : List Taken → ℕ
lsn_of ts = unwrap_or (option_map (λ (t : Taken). t.lsn) (last_or None ts)) 0

-- an event of the registry that is no transaction
same_last : (es : List RegistryEvent) (e : RegistryEvent) → transaction_in e ≡ None → last_lsn (es ++ e ∷ []) ≡ last_lsn es
same_last es e none = ap lsn_of (filter_map-append transaction_in es (e ∷ []) ∙ ap (λ (t : Option Taken). transactions es ++ cons_option t []) none ∙ append-nil (transactions es))

last_pushed : {A : Type 0} (d : Option A) (xs : List A) (x : A) → last_or d (xs ++ x ∷ []) ≡ Some x
last_pushed d [] x = refl
last_pushed d (y ∷ ys) x = last_pushed (Some y) ys x

last_taken : (es : List RegistryEvent) (lsn xid : ℕ) → last_lsn (es ++ Took lsn xid ∷ []) ≡ lsn
last_taken es lsn xid = ap lsn_of (filter_map-append transaction_in es (Took lsn xid ∷ [])) ∙ ap (λ (t : Option Taken). unwrap_or (option_map (λ (t : Taken). t.lsn) t) 0) (last_pushed None (transactions es) (record { lsn = lsn; xid = xid }))

-- ---- turns

module _ (txs : List Tx) (lsn : ℕ) where
  -- the registry notes something that is no transaction
  noted : (v : Server) (e : RegistryEvent) → transaction_in e ≡ None → Has txs lsn v → Has txs lsn (with_registry v e)
  noted v e none h = record { commits = h.commits; last = same_last v.registry e none ∙ h.last }

  shaped : (v : Server) (xs : List Shape) → Has txs lsn v → Has txs lsn (record v { shapes = xs })
  shaped v xs h = record { commits = h.commits; last = h.last }

  noted_if : (v : Server) (e : RegistryEvent) (b : Bool) → transaction_in e ≡ None → Has txs lsn v → Has txs lsn (if b then with_registry v e else v)
  noted_if v e true none h = noted v e none h
  noted_if v e false none h = h

  redefines : (v : Server) (d : Option TableDef) → Has txs lsn v → Has txs lsn (redefined v d)
  redefines v None h = h
  redefines v (Some d) h = noted v (Redefined d) refl h

  drops : (v : Server) (n : ℕ) (cause : Cause) → Has txs lsn v → Has txs lsn (dropped v n cause)
  drops v n cause h = let w = with_shape_event v n (Dropped cause) in noted_if w (Removed n cause) (is_live w.registry n) refl (shaped v (change_shape (with_event (Dropped cause)) v.shapes n) h)

  starts_by : (v : Server) (n : ℕ) (cause : Option Cause) → Has txs lsn v → Has txs lsn (started_by v n cause)
  starts_by v n None h = noted v (Ready n) refl h
  starts_by v n (Some cause) h = noted v (Removed n cause) refl h

  starts : (o : Options) (v : Server) (n : ℕ) (x : Shape) (snap : Snapshot) → Has txs lsn v → Has txs lsn (started o v n x snap)
  starts o v n x snap h = starts_by (with_shape_event v n (Snapped snap)) n (drop_of x.reader o.limits (x.events ++ Snapped snap ∷ [])) (shaped v (change_shape (with_event (Snapped snap)) v.shapes n) h)

  abbrev Keeps : Situation → Turn → Type 0
  Keeps s t = Has txs lsn s.server → Has txs lsn (next_of s t).server

  joins : (s : Situation) (outs : List Out) (next : Situation) (t : Turn) → Has txs lsn s.server → Has txs lsn next.server → Keeps next t → Has txs lsn (next_of s (joined outs t)).server
  joins s outs next (Stops error) before h k = before
  joins s outs next (Goes more last) before h k = k h

  then_keeps : (s : Situation) (go : Situation → Turn) (t : Turn) → Keeps s t → ((next : Situation) → Keeps next (go next)) → Keeps s (then_goes go t)
  then_keeps s go (Stops error) h k before = before
  then_keeps s go (Goes outs next) h k before = joins s outs next (go next) before (h before) (k next)

  if_finishes : (o : Options) (s t : Situation) (late : Exchange → Bool) (other : Turn) (b : Bool) → (Has txs lsn s.server → Has txs lsn t.server) → Keeps s other → Keeps s (if b then finished o late s t else other)
  if_finishes o s t late other true h k = h
  if_finishes o s t late other false h k = k

  -- ---- requests

  registers : (o : Options) (s : Situation) (x : Exchange) (ask : Ask) (reader : Option Reader) → Has txs lsn s.server → Has txs lsn (registered_for s x ask reader).server
  registers o s x ask None h = h
  registers o s x ask (Some reader) h =
      let v = s.server in
      record { commits = h.commits; last = same_last v.registry (Registered (length v.shapes + 1) ask.identity ask.table (last_id v.registry)) refl ∙ h.last }

  opens : (o : Options) (s : Situation) (x : Exchange) (ask : Ask) (code : Option ErrorCode) → Has txs lsn s.server → Has txs lsn (opened o s x ask code).server
  opens o s x ask (Some code) h = h
  opens o s x ask None h = registers o s x ask (reader_for o s.server.registry ask) h

  firsts : (o : Options) (s : Situation) (x : Exchange) (ask : Ask) (n : Option ℕ) → Has txs lsn s.server → Has txs lsn (asked_first o s x ask n).server
  firsts o s x ask (Some n) h = h
  firsts o s x ask None h = opens o s x ask (refusal_to_register (known_of o s.server) s.server.registry ask) h

  names : (o : Options) (s : Situation) (x : Exchange) (ask : Ask) (named : Named) → Has txs lsn s.server → Has txs lsn (asked_named o s x ask named).server
  names o s x ask Absent h = firsts o s x ask (live_under s.server.registry ask.identity) h
  names o s x ask (Known handle) h = h
  names o s x ask Strange h = h

  asks : (o : Options) (s : Situation) (x : Exchange) (asked : Asked) → Has txs lsn s.server → Has txs lsn (asked_for o s x asked).server
  asks o s x (Refuses code) h = h
  asks o s x (AsksFor ask) h = names o s x ask ask.named h

  requests : (o : Options) (s : Situation) (outside : Bool) (target : Option (List ℕ)) (asked : Asked) (close : Bool) → Has txs lsn s.server → Has txs lsn (request o s outside target asked close).server
  requests o s outside target asked close h = asks o s (exchange_at outside target asked close s.clock) asked h

  cuts : (s : Situation) (b : Bool) → Keeps s (if b then Goes (Cut (length s.exchanges) ∷ []) (with_exchange s (with_role HasNone (exchange_at true None (Refuses codes.BadHead) false s.clock))) else Stops errors.TooManyExchanges)
  cuts s true h = h
  cuts s false h = h

  -- ---- snapshots

  ends : (s : Situation) (e n : ℕ) (code : ErrorCode) (d : Option TableDef) → Has txs lsn s.server → Has txs lsn (snapshot_ends s e n code d).server
  ends s e n code d h = redefines (dropped s.server n SnapshotFailed) d (drops s.server n SnapshotFailed h)

  snaps_to : (o : Options) (s : Situation) (e n : ℕ) (x : Shape) (snap : Snapshot) (refusal : Option ErrorCode) → Has txs lsn s.server → Has txs lsn (snapped o s e n x snap refusal).server
  snaps_to o s e n x snap (Some code) h = ends s e n code (changed_in snap x.reader.knows.definition) h
  snaps_to o s e n x snap None h = starts o s.server n x snap h

  snap_shapes : (o : Options) (s : Situation) (e n : ℕ) (snap : Snapshot) (shape : Option Shape) → Keeps s (run.snap_shape o s e n snap shape)
  snap_shapes o s e n snap None = λ h. h
  snap_shapes o s e n snap (Some x) = if_finishes o s (snapped o s e n x snap (refusal_of_snapshot s.server.commits x snap)) never (is_unfit unfit.NotASnapshot) (is_starting s.server.registry n && is_none (snapshot_in x.events))
      (snaps_to o s e n x snap (refusal_of_snapshot s.server.commits x snap)) (λ h. h)

  snaps : (o : Options) (s : Situation) (e : ℕ) (snap : Snapshot) (n : Option ℕ) → Keeps s (run.snap o s e snap n)
  snaps o s e snap None = λ h. h
  snaps o s e snap (Some n) = snap_shapes o s e n snap (shape_at s.server.shapes n)

  fails : (o : Options) (s : Situation) (e : ℕ) (fault : Fault) (n : Option ℕ) → Keeps s (run.fail o s e fault n)
  fails o s e fault None = λ h. h
  fails o s e fault (Some n) = if_finishes o s (snapshot_ends s e n (code_of fault) None) never (is_unfit unfit.NotASnapshot) (is_starting s.server.registry n) (ends s e n (code_of fault) None) (λ h. h)

  -- ---- clients

  requested_if : (o : Options) (s : Situation) (c : Customer) (b : Bool) → Has txs lsn s.server
      → Has txs lsn (if b then request o s false None (Refuses codes.HeadTooLong) false else request o s false (Some (next_target c)) (next_asked c) false).server
  requested_if o s c true h = requests o s false None (Refuses codes.HeadTooLong) false h
  requested_if o s c false h = requests o s false (Some (next_target c)) (next_asked c) false h

  send_if : (o : Options) (s : Situation) (n : ℕ) (c : Customer) (b : Bool) → Keeps s (if b then sent o s n c else Stops errors.TooManyExchanges)
  send_if o s n c true h = requested_if o s c (is_long (next_target c)) h
  send_if o s n c false h = h

  sends : (o : Options) (s : Situation) (n : ℕ) (c : Option Customer) → Keeps s (send_by o s n c)
  sends o s n None h = h
  sends o s n (Some c) h = send_if o s n c (has_room s) h

  takes_heard : (s : Situation) (n : ℕ) (c : Customer) (given : Option Heard) → Keeps s (take_heard s n c given)
  takes_heard s n c None h = h
  takes_heard s n c (Some x) h = h

  takes_if : (s : Situation) (n : ℕ) (c : Customer) (x : Exchange) (a b : Bool) → Keeps s (if a then is_unfit unfit.NoReply else if b then take_heard s n c x.given else is_unfit unfit.WrongAddress)
  takes_if s n c x true b h = h
  takes_if s n c x false true h = takes_heard s n c x.given h
  takes_if s n c x false false h = h

  takes_exchange : (s : Situation) (n : ℕ) (c : Customer) (x : Option Exchange) → Keeps s (take_exchange s n c x)
  takes_exchange s n c None h = h
  takes_exchange s n c (Some x) h = takes_if s n c x (is_none x.given) (is_next c x.target) h

  takes : (s : Situation) (n e : ℕ) (c : Option Customer) → Keeps s (take_by s n e c)
  takes s n e None h = h
  takes s n e (Some c) h = takes_exchange s n c (slice_get s.exchanges e) h

  abbrev KeepsAll : (Situation → Turn) → Type 0
  KeepsAll go = (next : Situation) → Keeps next (go next)

  watches_if : (go : Situation → Turn) (s : Situation) (n e : ℕ) (c : Customer) (b : Bool) → KeepsAll go → Keeps s (if b then then_goes go (take_by s n e (Some c)) else take_by s n e (Some c))
  watches_if go s n e c true k = then_keeps s go (take_by s n e (Some c)) (takes s n e (Some c)) k
  watches_if go s n e c false k = takes s n e (Some c)

  watches_heard : (go : Situation → Turn) (s : Situation) (n e : ℕ) (c : Customer) (given : Option Heard) → KeepsAll go → Keeps s (watch_heard go s n e c given)
  watches_heard go s n e c None k = λ h. h
  watches_heard go s n e c (Some x) k = watches_if go s n e c (goes_on (take_reply (held_of c) x.given.reply x.body).outcome) k

  watches_exchange : (go : Situation → Turn) (s : Situation) (n e : ℕ) (c : Customer) (x : Option Exchange) → KeepsAll go → Keeps s (watch_exchange go s n e c x)
  watches_exchange go s n e c None k = λ h. h
  watches_exchange go s n e c (Some x) k = watches_heard go s n e c x.given k

  watches_open : (o : Options) (go : Situation → Turn) (s : Situation) (n : ℕ) (c : Customer) (e : Option ℕ) → KeepsAll go → Keeps s (watch_open o go s n c e)
  watches_open o go s n c None k = then_keeps s go (send_by o s n (Some c)) (sends o s n (Some c)) k
  watches_open o go s n c (Some e) k = watches_exchange go s n e c (slice_get s.exchanges e) k

  watched : (o : Options) (go : Situation → Turn) (s : Situation) (n : ℕ) (c : Option Customer) → KeepsAll go → Keeps s (watched_by o go s n c)
  watched o go s n None k = λ h. h
  watched o go s n (Some c) k = watches_open o go s n c c.waiting k

  watches : (o : Options) (times n : ℕ) (s : Situation) → Keeps s (watch o times n s)
  watches o zero n s = λ h. h
  watches o (suc times) n s = watched o (λ next. watch o times n next) s n (slice_get s.customers n) (watches o times n)

  moments : (o : Options) (s : Situation) (now : ℕ) (b : Bool) → Keeps s (if b then is_unfit unfit.ClockBack else finished o (is_late_at o now) s (record s { clock = now }))
  moments o s now true h = h
  moments o s now false h = h

  -- Where no commits come, those of the server and the last LSN stay.
  pub keeps : (o : Options) (s : Situation) (e : run.Event) → IsQuietEvent e → Keeps s (turn_of o s e)
  keeps o s (RequestCame target asked close) quiet = if_finishes o s (request o s true target asked close) never (Stops errors.TooManyExchanges) (has_room s) (requests o s true target asked close) (λ h. h)
  keeps o s HeadCut quiet = cuts s (has_room s)
  keeps o s (SnapshotCame e x) quiet = snaps o s e x (owned_by (slice_get s.exchanges e))
  keeps o s (SnapshotEnded e fault) quiet = fails o s e fault (owned_by (slice_get s.exchanges e))
  keeps o s (Committed txs) quiet = absurd quiet
  keeps o s (Remove n) quiet = if_finishes o s (record s { server = dropped s.server n Deleted }) never (Goes [] s) (is_live s.server.registry n) (drops s.server n Deleted) (λ h. h)
  keeps o s (Moment now) quiet = moments o s now (nat_lt now s.clock)
  keeps o s (Joined query asked) quiet = λ h. h
  keeps o s (SendNext n) quiet = sends o s n (slice_get s.customers n)
  keeps o s (Receive n e) quiet = takes s n e (slice_get s.customers n)
  keeps o s (Watch n) quiet = watches o rounds n s

  -- ---- a commit

  removes_if : (v : Server) (n : ℕ) (cause : Cause) (d : Option TableDef) (b : Bool) → Has txs lsn v → Has txs lsn (if b then redefined (with_registry v (Removed n cause)) d else v)
  removes_if v n cause d true h = redefines (with_registry v (Removed n cause)) d (noted v (Removed n cause) refl h)
  removes_if v n cause d false h = h

  removes : (v : Server) (tx : Tx) (n : ℕ) (x : Shape) (cause : Option Cause) → Has txs lsn v → Has txs lsn (removed_for v tx n x cause)
  removes v tx n x None h = h
  removes v tx n x (Some cause) h = removes_if v n cause (definition_by x.reader.knows tx cause) (is_live v.registry n) h

  sweeps : (o : Options) (tx : Tx) (n : ℕ) (xs : List Shape) (v : Server) → Has txs lsn v → Has txs lsn (swept_from o tx n xs v)
  sweeps o tx n [] v h = h
  sweeps o tx n (x ∷ xs) v h = let cause = drop_of x.reader o.limits x.events in sweeps o tx (n + 1) xs (removed_for v tx n x cause) (removes v tx n x cause h)

-- ---- commits

commits_one : (o : Options) (txs : List Tx) (lsn : ℕ) (v : Server) (tx : Tx) → Has txs lsn v → Has (txs ++ tx ∷ []) tx.lsn (after_commit o v tx)
commits_one o txs lsn v tx h =
    let next = with_commit o v tx in
    sweeps (txs ++ tx ∷ []) tx.lsn o tx 1 next.shapes next (record { commits = ap (λ (xs : List Tx). xs ++ tx ∷ []) h.commits; last = last_taken v.registry tx.lsn tx.xid })

commits_if : (o : Options) (txs : List Tx) (lsn : ℕ) (v : Server) (tx : Tx) (b : Bool) → b ≡ true → Has txs lsn v → Has (txs ++ tx ∷ []) tx.lsn (if b then after_commit o v tx else v)
commits_if o txs lsn v tx true e h = commits_one o txs lsn v tx h
commits_if o txs lsn v tx false e h = cc

-- the LSN of the last of them, or this one
abbrev pub last_from : ℕ → List Tx → ℕ
last_from lsn [] = lsn
last_from lsn (tx ∷ txs) = last_from tx.lsn txs

-- Commits whose LSNs rise from above the last one are all taken.
pub commits_all : (o : Options) (more txs : List Tx) (lsn : ℕ) (v : Server) → LsnsRise lsn more → Has txs lsn v → Has (txs ++ more) (last_from lsn more) (after_commits o v more)
commits_all o [] txs lsn v rise h = record { commits = h.commits ∙ sym (append-nil txs); last = h.last }
commits_all o (tx ∷ more) txs lsn v rise h =
    let later : nat_lt (last_lsn v.registry) tx.lsn ≡ true = (Decides-ltb (last_lsn v.registry) tx.lsn).1 (subst (λ n. n < tx.lsn) (sym h.last) rise.0) in
    let one = commits_if o txs lsn v tx (nat_lt (last_lsn v.registry) tx.lsn) later h in
    subst (λ (xs : List Tx). Has xs (last_from tx.lsn more) (after_commits o (unless_repeat o v tx) more)) (append_assoc txs (tx ∷ []) more) (commits_all o more (txs ++ tx ∷ []) tx.lsn (unless_repeat o v tx) rise.1 one)

pub last_both : (lsn : ℕ) (xs ys : List Tx) → last_from lsn (xs ++ ys) ≡ last_from (last_from lsn xs) ys
last_both lsn [] ys = refl
last_both lsn (x ∷ xs) ys = last_both x.lsn xs ys

pub rise_behind : (lsn : ℕ) (xs ys : List Tx) → LsnsRise lsn (xs ++ ys) → LsnsRise (last_from lsn xs) ys
rise_behind lsn [] ys h = h
rise_behind lsn (x ∷ xs) ys h = rise_behind x.lsn xs ys h.1
