-- After each event all exchanges that can be answered are answered.
use Rattle.std.proofs.Common.{◌≡◌, ℕ, zero, suc, Bool, true, false, not, ◌&&◌, List, [], ◌∷◌, ◌++◌, length, map, refl, Option, None, Some}
use Rattle.std.specs.Bool.{if◌then◌else◌}
use Rattle.std.specs.List.{slice_get, AllByRecursion}
use Rattle.std.specs.Option.{option_map}
use Rattle.std.specs.Prelude.{nat_lt, is_none}
use Rattle.shape_base.specs.declared.ask.Ask.{Ask}
use Rattle.shape_base.specs.declared.ask.Named.{Named}
use Rattle.shape_base.specs.declared.ask.Named.TheVariants.{Absent, Known, Strange}
use Rattle.shape_base.specs.declared.cause.Cause.TheVariants.{Deleted}
use Rattle.shape_base.specs.declared.entry.Entry.{Entry}
use Rattle.shape_base.specs.declared.handle.Handle.{Handle}
use Rattle.shape_base.specs.Offsets.{is_before, past}
use Rattle.shape_base.specs.Log.{end_of}
use Rattle.shape_base.specs.Snapshot.{Snapshot}
use Rattle.shape_base.specs.RegistryHistory.{was_removed, had_ready, ready_under, live_under, is_live, is_live_handle, is_starting}
use Rattle.shape_json.specs.Page.{page_of}
use Rattle.shape_json.specs.Answer as answers
use Rattle.shape_json.specs.Answer.{Answer, Paged, OffsetAhead, NotYet, Starting, is_empty, answer_ready, answer_first, gone, answer_of}
use Rattle.http_edge.specs.Lawful.{Asked, Refuses, AsksFor}
use Rattle.http_edge.specs.declared.error_code.ErrorCode.TheVariants as codes
use Rattle.core_events.specs.declared.out.StepError.{StepError}
use Rattle.core_events.specs.declared.out.StepError.TheVariants as errors
use Rattle.core_events.specs.declared.out.Unfit.TheVariants as unfit
use Rattle.fold_client.specs.Client.{take_reply}
use Rattle.fold_client.specs.Following.{Heard}
use Rattle.core_law.specs.Situation.{Options, Shape, Server, shape_at, Role, Reads, Waits, Owns, HasNone, Exchange, Customer, Situation, at_start, answers_from, held_of}
use Rattle.core_law.specs.Steps.{Written, refused_with, written_as, written_to, reply_now, heard_at, settled_one, Fault, code_of, owned_by, refusal_of_snapshot, snapshot_ends, snapped, dropped, after_commits, request, with_exchange, with_role, exchange_at}
use Rattle.core_law.specs.Clients.{Out, Turn, Goes, Stops, is_unfit, finished, never, has_room, requested, sent, send_by, take_heard, is_next, take_exchange, take_by, joined, then_goes, goes_on, watch_heard, watch_exchange, watch_open, watched_by, watch}
use Rattle.core_law.specs.Run as run
use Rattle.core_law.specs.Run.{RequestCame, HeadCut, SnapshotCame, SnapshotEnded, Committed, Remove, Moment, Joined, SendNext, Receive, Watch, come, cut, snap_shape, snap, fail, commit, is_late_at, join, rounds, turn_of, next_of, after}
use Rattle.core_law.specs.Laws.{AreSettled, AnsweredAtOnce}

-- ---- what is late gets none before

late_ready : (o : Options) (v : Server) (ask : Ask) (h : Handle) (log : List Entry) (ahead live : Bool)
    → written_as o v ask (if ahead then OffsetAhead (end_of log) else if live && (not true && is_empty (past ask.offset log)) then NotYet else Paged h ask.offset (page_of o.limits.chunk log ask.offset)) ≡ None → ⊥
late_ready o v ask h log true live e = cc
late_ready o v ask h log false true e = cc
late_ready o v ask h log false false e = cc

late_named : (o : Options) (v : Server) (ask : Ask) (h : Handle) (a b : Bool) (rest : Answer) (log : List Entry)
    → written_as o v ask (if a then if b then answer_ready (answers_from o v true) ask h log else Starting h.number else rest) ≡ None
    → written_as o v ask (if a then if b then answer_ready (answers_from o v false) ask h log else Starting h.number else rest) ≡ None
late_named o v ask h true true rest log e = absurd (late_ready o v ask h log (is_before (end_of log) ask.offset) ask.live e)
late_named o v ask h true false rest log e = e
late_named o v ask h false b rest log e = e

late_first : (o : Options) (v : Server) (ask : Ask) (ready live : Option ℕ) → written_as o v ask (answer_first (answers_from o v true) ready live) ≡ None → written_as o v ask (answer_first (answers_from o v false) ready live) ≡ None
late_first o v ask (Some n) live e = e
late_first o v ask None (Some n) e = e
late_first o v ask None None e = e

late_any : (o : Options) (v : Server) (ask : Ask) (named : Named) → written_as o v ask (answers.answer_named (answers_from o v true) ask named) ≡ None → written_as o v ask (answers.answer_named (answers_from o v false) ask named) ≡ None
late_any o v ask Absent e = late_first o v ask (ready_under v.registry ask.identity) (live_under v.registry ask.identity) e
late_any o v ask (Known h) e = late_named o v ask h (is_live_handle o.run v.registry ask.identity h) (had_ready v.registry h.number) (gone (answers_from o v false) ask) ((answers_from o v true).log h.number) e
late_any o v ask Strange e = e

late_asked : (o : Options) (v : Server) (late : Bool) (asked : Asked) → written_to o v late asked ≡ None → written_to o v false asked ≡ None
late_asked o v late (Refuses code) e = e
late_asked o v true (AsksFor ask) e = late_any o v ask ask.named e
late_asked o v false (AsksFor ask) e = e

late_lost : (o : Options) (v : Server) (late : Bool) (asked : Asked) (b : Bool) → (if b then Some (refused_with codes.SnapshotLost) else written_to o v late asked) ≡ None → (if b then Some (refused_with codes.SnapshotLost) else written_to o v false asked) ≡ None
late_lost o v late asked true e = e
late_lost o v late asked false e = late_asked o v late asked e

late_now : (o : Options) (v : Server) (late : Bool) (asked : Asked) (role : Role) → reply_now o v late asked role ≡ None → reply_now o v false asked role ≡ None
late_now o v late asked Reads e = late_asked o v late asked e
late_now o v late asked (Waits n) e = late_lost o v late asked (was_removed v.registry n) e
late_now o v late asked (Owns n) e = late_lost o v late asked (was_removed v.registry n) e
late_now o v late asked HasNone e = e

-- ---- exchanges

abbrev IsSettled : Options → Server → Exchange → Type 0
IsSettled o v x = x.given ≡ None → reply_now o v false x.asked x.role ≡ None

none_from : (v : Server) (asked : Asked) (w : Option Written) → option_map (heard_at v asked) w ≡ None → w ≡ None
none_from v asked None e = refl
none_from v asked (Some w) e = cc

one_settled : (o : Options) (v : Server) (late : Exchange → Bool) (x : Exchange) (given : Option Heard) → x.given ≡ given → IsSettled o v (settled_one o v late x given)
one_settled o v late x (Some h) e none = cc
one_settled o v late x None e none = late_now o v (late x) x.asked x.role (none_from v x.asked (reply_now o v (late x) x.asked x.role) none)

all_settled : (o : Options) (v : Server) (late : Exchange → Bool) (xs : List Exchange) → AllByRecursion (IsSettled o v) (map (λ x. settled_one o v late x x.given) xs)
all_settled o v late [] = tt
all_settled o v late (x ∷ xs) = (one_settled o v late x x.given refl, all_settled o v late xs)

one_more_settled : (o : Options) (v : Server) (xs : List Exchange) (x : Exchange) → AllByRecursion (IsSettled o v) xs → IsSettled o v x → AllByRecursion (IsSettled o v) (xs ++ x ∷ [])
one_more_settled o v [] x h k = (k, tt)
one_more_settled o v (y ∷ ys) x h k = (h.0, one_more_settled o v ys x h.1 k)

abbrev Keeps : Options → Situation → Turn → Type 0
Keeps o s t = AreSettled o s → AreSettled o (next_of s t)

finishes : (o : Options) (s t : Situation) (late : Exchange → Bool) → Keeps o s (finished o late s t)
finishes o s t late h = all_settled o t.server late t.exchanges

joins : (o : Options) (s : Situation) (outs : List Out) (next : Situation) (t : Turn) → AreSettled o s → AreSettled o next → Keeps o next t → AreSettled o (next_of s (joined outs t))
joins o s outs next (Stops error) before h k = before
joins o s outs next (Goes more last) before h k = k h

then_keeps : (o : Options) (s : Situation) (go : Situation → Turn) (t : Turn) → Keeps o s t → ((next : Situation) → Keeps o next (go next)) → Keeps o s (then_goes go t)
then_keeps o s go (Stops error) h k before = before
then_keeps o s go (Goes outs next) h k before = joins o s outs next (go next) before (h before) (k next)

-- ---- turns

if_finishes : (o : Options) (s t : Situation) (late : Exchange → Bool) (other : Turn) (b : Bool) → Keeps o s other → Keeps o s (if b then finished o late s t else other)
if_finishes o s t late other true h = finishes o s t late
if_finishes o s t late other false h = h

stops : (o : Options) (s : Situation) (error : StepError) → Keeps o s (Stops error)
stops o s error h = h

same : (o : Options) (s : Situation) → Keeps o s (Goes [] s)
same o s h = h

cuts : (o : Options) (s : Situation) (b : Bool) → Keeps o s (if b then Goes (Rattle.core_law.specs.Clients.Cut (length s.exchanges) ∷ []) (with_exchange s (with_role HasNone (exchange_at true None (Refuses codes.BadHead) false s.clock))) else Stops errors.TooManyExchanges)
cuts o s true h = one_more_settled o s.server s.exchanges (with_role HasNone (exchange_at true None (Refuses codes.BadHead) false s.clock)) h (λ none. refl)
cuts o s false h = h

snap_shapes : (o : Options) (s : Situation) (e n : ℕ) (x : Snapshot) (shape : Option Shape) → Keeps o s (snap_shape o s e n x shape)
snap_shapes o s e n x None = stops o s (errors.Unfit unfit.NotASnapshot)
snap_shapes o s e n x (Some shape) = if_finishes o s (snapped o s e n shape x (refusal_of_snapshot s.server.commits shape x)) never (is_unfit unfit.NotASnapshot) _ (stops o s (errors.Unfit unfit.NotASnapshot))

snaps : (o : Options) (s : Situation) (e : ℕ) (x : Snapshot) (n : Option ℕ) → Keeps o s (snap o s e x n)
snaps o s e x None = stops o s (errors.Unfit unfit.NotASnapshot)
snaps o s e x (Some n) = snap_shapes o s e n x (shape_at s.server.shapes n)

fails : (o : Options) (s : Situation) (e : ℕ) (fault : Fault) (n : Option ℕ) → Keeps o s (fail o s e fault n)
fails o s e fault None = stops o s (errors.Unfit unfit.NotASnapshot)
fails o s e fault (Some n) = if_finishes o s (snapshot_ends s e n (code_of fault) None) never (is_unfit unfit.NotASnapshot) (is_starting s.server.registry n) (stops o s (errors.Unfit unfit.NotASnapshot))

sends : (o : Options) (s : Situation) (n : ℕ) (c : Option Customer) → Keeps o s (send_by o s n c)
sends o s n None = stops o s (errors.Unfit unfit.NoClient)
sends o s n (Some c) = send_if (has_room s)
  where
    send_if : (b : Bool) → Keeps o s (if b then sent o s n c else Stops errors.TooManyExchanges)
    send_if true h = all_settled o (requested o s c).server never (requested o s c).exchanges
    send_if false h = h

takes_heard : (o : Options) (s : Situation) (n : ℕ) (c : Customer) (h : Option Heard) → Keeps o s (take_heard s n c h)
takes_heard o s n c None h = h
takes_heard o s n c (Some x) h = h

takes_if : (o : Options) (s : Situation) (n : ℕ) (c : Customer) (x : Exchange) (a b : Bool) → Keeps o s (if a then is_unfit unfit.NoReply else if b then take_heard s n c x.given else is_unfit unfit.WrongAddress)
takes_if o s n c x true b = stops o s (errors.Unfit unfit.NoReply)
takes_if o s n c x false true = takes_heard o s n c x.given
takes_if o s n c x false false = stops o s (errors.Unfit unfit.WrongAddress)

takes_exchange : (o : Options) (s : Situation) (n : ℕ) (c : Customer) (x : Option Exchange) → Keeps o s (take_exchange s n c x)
takes_exchange o s n c None = stops o s (errors.Unfit unfit.NoExchange)
takes_exchange o s n c (Some x) = takes_if o s n c x (is_none x.given) (is_next c x.target)

takes : (o : Options) (s : Situation) (n e : ℕ) (c : Option Customer) → Keeps o s (take_by s n e c)
takes o s n e None = stops o s (errors.Unfit unfit.NoClient)
takes o s n e (Some c) = takes_exchange o s n c (slice_get s.exchanges e)

abbrev KeepsAll : Options → (Situation → Turn) → Type 0
KeepsAll o go = (next : Situation) → Keeps o next (go next)

watches_if : (o : Options) (go : Situation → Turn) (s : Situation) (n e : ℕ) (c : Customer) (b : Bool) → KeepsAll o go → Keeps o s (if b then then_goes go (take_by s n e (Some c)) else take_by s n e (Some c))
watches_if o go s n e c true k = then_keeps o s go (take_by s n e (Some c)) (takes o s n e (Some c)) k
watches_if o go s n e c false k = takes o s n e (Some c)

watches_heard : (o : Options) (go : Situation → Turn) (s : Situation) (n e : ℕ) (c : Customer) (h : Option Heard) → KeepsAll o go → Keeps o s (watch_heard go s n e c h)
watches_heard o go s n e c None k = same o s
watches_heard o go s n e c (Some h) k = watches_if o go s n e c (goes_on (take_reply (held_of c) h.given.reply h.body).outcome) k

watches_exchange : (o : Options) (go : Situation → Turn) (s : Situation) (n e : ℕ) (c : Customer) (x : Option Exchange) → KeepsAll o go → Keeps o s (watch_exchange go s n e c x)
watches_exchange o go s n e c None k = same o s
watches_exchange o go s n e c (Some x) k = watches_heard o go s n e c x.given k

watches_open : (o : Options) (go : Situation → Turn) (s : Situation) (n : ℕ) (c : Customer) (e : Option ℕ) → KeepsAll o go → Keeps o s (watch_open o go s n c e)
watches_open o go s n c None k = then_keeps o s go (send_by o s n (Some c)) (sends o s n (Some c)) k
watches_open o go s n c (Some e) k = watches_exchange o go s n e c (slice_get s.exchanges e) k

watched : (o : Options) (go : Situation → Turn) (s : Situation) (n : ℕ) (c : Option Customer) → KeepsAll o go → Keeps o s (watched_by o go s n c)
watched o go s n None k = stops o s (errors.Unfit unfit.NoClient)
watched o go s n (Some c) k = watches_open o go s n c c.waiting k

watches : (o : Options) (rounds n : ℕ) (s : Situation) → Keeps o s (watch o rounds n s)
watches o zero n s = same o s
watches o (suc rounds) n s = watched o (λ next. watch o rounds n next) s n (slice_get s.customers n) (watches o rounds n)

moments : (o : Options) (s : Situation) (now : ℕ) (b : Bool) → Keeps o s (if b then is_unfit unfit.ClockBack else finished o (is_late_at o now) s (record s { clock = now }))
moments o s now true = stops o s (errors.Unfit unfit.ClockBack)
moments o s now false = finishes o s (record s { clock = now }) (is_late_at o now)

each : (o : Options) (s : Situation) (e : run.Event) → Keeps o s (turn_of o s e)
each o s (RequestCame target asked close) = if_finishes o s (request o s true target asked close) never (Stops errors.TooManyExchanges) (has_room s) (stops o s errors.TooManyExchanges)
each o s HeadCut = cuts o s (has_room s)
each o s (SnapshotCame e x) = snaps o s e x (owned_by (slice_get s.exchanges e))
each o s (SnapshotEnded e fault) = fails o s e fault (owned_by (slice_get s.exchanges e))
each o s (Committed txs) = finishes o s (record s { server = after_commits o s.server txs }) never
each o s (Remove n) = if_finishes o s (record s { server = dropped s.server n Deleted }) never (Goes [] s) (is_live s.server.registry n) (same o s)
each o s (Moment now) = moments o s now (nat_lt now s.clock)
each o s (Joined query asked) = λ h. h
each o s (SendNext n) = sends o s n (slice_get s.customers n)
each o s (Receive n e) = takes o s n e (slice_get s.customers n)
each o s (Watch n) = watches o rounds n s

after_all : (o : Options) (s : Situation) (es : List run.Event) → AreSettled o s → AreSettled o (after o s es)
after_all o s [] h = h
after_all o s (e ∷ es) h = after_all o (next_of s (turn_of o s e)) es (each o s e h)

pub answered_at_once : AnsweredAtOnce
answered_at_once o es = after_all o at_start es tt
