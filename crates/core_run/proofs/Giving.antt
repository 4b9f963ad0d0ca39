-- A reply that is put out is that of its exchange, and stays so.
use Rattle.std.proofs.Common.{◌≡◌, ℕ, zero, suc, ◌+◌, Bool, true, false, ◌&&◌, List, [], ◌∷◌, ◌++◌, length, map, refl, sym, subst, arith, Option, None, Some}
use Rattle.std.specs.Bool.{if◌then◌else◌}
use Rattle.std.specs.List.{slice_get, AllByRecursion}
use Rattle.std.specs.Option.{option_or}
use Rattle.std.specs.Prelude.{nat_lt, is_none, IsSomeAnd}
use Rattle.shape_base.specs.declared.ask.Ask.{Ask}
use Rattle.shape_base.specs.declared.ask.Named.{Named}
use Rattle.shape_base.specs.declared.ask.Named.TheVariants.{Absent, Known, Strange}
use Rattle.shape_base.specs.declared.cause.Cause.TheVariants.{Deleted, SnapshotFailed}
use Rattle.shape_base.specs.declared.definition.TableDef.{TableDef}
use Rattle.shape_base.specs.Snapshot.{Snapshot}
use Rattle.shape_base.specs.RegistryHistory.{live_under, is_live, is_starting}
use Rattle.shape_json.specs.ShapeHistory.{Reader, snapshot_in}
use Rattle.http_edge.specs.declared.error_code.ErrorCode.{ErrorCode}
use Rattle.http_edge.specs.declared.error_code.ErrorCode.TheVariants as codes
use Rattle.http_edge.specs.Lawful.{Asked, Refuses, AsksFor, refusal_to_register}
use Rattle.core_events.specs.declared.out.StepError.{StepError}
use Rattle.core_events.specs.declared.out.StepError.TheVariants as errors
use Rattle.core_events.specs.declared.out.Unfit.TheVariants as unfit
use Rattle.fold_client.specs.Client.{Held, Outcome, UpToDate, More, Refetch, ServerRefused, BadReply, ForeignHandle, BadFold, take_reply}
use Rattle.fold_client.specs.Following.{Heard}
use Rattle.core_law.specs.Situation.{Options, Shape, Server, shape_at, HasNone, Exchange, Customer, Situation, known_of, held_of, next_target, next_asked, reader_for}
use Rattle.core_law.specs.Steps.{change_at, settled_one, settled, with_exchange, refused_at, with_role, registered_for, opened, asked_first, asked_named, asked_for, exchange_at, request, Fault, code_of, owned_by, refusal_of_snapshot, changed_in, snapshot_ends, snapped, dropped, redefined, after_commits}
use Rattle.core_law.specs.Clients.{Out, Gives, Cut, Block, Refetched, Refused, Turn, Goes, Stops, is_unfit, new_reply, given_now, finished, never, has_room, waits_at, is_long, requested, sent, send_by, out_of, take_heard, is_next, take_exchange, take_by, joined, then_goes, goes_on, watch_heard, watch_exchange, watch_open, watched_by, watch}
use Rattle.core_law.specs.Run as run
use Rattle.core_law.specs.Run.{RequestCame, HeadCut, SnapshotCame, SnapshotEnded, Committed, Remove, Moment, Joined, SendNext, Receive, Watch, is_late_at, join, rounds, turn_of, next_of, outs_of, after, told}

-- ---- replies among exchanges

-- an exchange asks this, its connection ends so, and it has this reply
pub record IsAnswered (request : Asked × Bool) (heard : Heard) (x : Exchange) : Type 0 where
  pub asked : x.asked ≡ request.0
  pub close : x.close ≡ request.1
  pub given : x.given ≡ Some heard

-- the exchange in a place is such a one
abbrev pub WasGiven : List Exchange → ℕ → Asked × Bool → Heard → Type 0
WasGiven xs e request heard = IsSomeAnd (slice_get xs e) (IsAnswered request heard)

-- a reply that is put out is that of its exchange
abbrev pub IsGivenAmong : List Exchange → Out → Type 0
IsGivenAmong xs (Gives e heard) = (request : Asked × Bool) × WasGiven xs e request heard
IsGivenAmong xs (Cut e) = Unit {0}
IsGivenAmong xs (Block n handle offset rows) = Unit {0}
IsGivenAmong xs (Refetched n) = Unit {0}
IsGivenAmong xs (Refused n status) = Unit {0}

-- the replies of the one list stay in the other
abbrev pub Stay : List Exchange → List Exchange → Type 0
Stay xs ys = (e : ℕ) (request : Asked × Bool) (heard : Heard) → WasGiven xs e request heard → WasGiven ys e request heard

pub stay_same : (xs : List Exchange) → Stay xs xs
stay_same xs e r heard h = h

pub stay_trans : (xs ys zs : List Exchange) → Stay xs ys → Stay ys zs → Stay xs zs
stay_trans xs ys zs a b e r heard h = b e r heard (a e r heard h)

stay_more : (xs : List Exchange) (y : Exchange) → Stay xs (xs ++ y ∷ [])
stay_more [] y e r heard h = absurd h
stay_more (x ∷ xs) y zero r heard h = h
stay_more (x ∷ xs) y (suc e) r heard h = stay_more xs y e r heard h

one_stays : (o : Options) (v : Server) (late : Exchange → Bool) (x : Exchange) (given : Option Heard) (request : Asked × Bool) (heard : Heard) → given ≡ Some heard → IsAnswered request heard x → IsAnswered request heard (settled_one o v late x given)
one_stays o v late x None r heard e h = cc
one_stays o v late x (Some other) r heard e h = h

stay_settled : (o : Options) (v : Server) (late : Exchange → Bool) (xs : List Exchange) → Stay xs (map (λ x. settled_one o v late x x.given) xs)
stay_settled o v late [] e r heard h = absurd h
stay_settled o v late (x ∷ xs) zero r heard h = one_stays o v late x x.given r heard h.given h
stay_settled o v late (x ∷ xs) (suc e) r heard h = stay_settled o v late xs e r heard h

option_stays : (given other : Option Heard) (heard : Heard) → given ≡ Some heard → option_or given other ≡ Some heard
option_stays None other heard e = cc
option_stays (Some x) other heard e = e

stay_refused : (v : Server) (code : ErrorCode) (xs : List Exchange) (i : ℕ) → Stay xs (change_at (refused_at v code) xs i)
stay_refused v code [] i e r heard h = absurd h
stay_refused v code (x ∷ xs) zero zero r heard h = record { asked = h.asked; close = h.close; given = option_stays x.given _ heard h.given }
stay_refused v code (x ∷ xs) zero (suc e) r heard h = h
stay_refused v code (x ∷ xs) (suc i) zero r heard h = h
stay_refused v code (x ∷ xs) (suc i) (suc e) r heard h = stay_refused v code xs i e r heard h

among_later : (xs ys : List Exchange) (out : Out) → Stay xs ys → IsGivenAmong xs out → IsGivenAmong ys out
among_later xs ys (Gives e heard) stay h = (h.0, stay e h.0 heard h.1)
among_later xs ys (Cut e) stay h = tt
among_later xs ys (Block n handle offset rows) stay h = tt
among_later xs ys (Refetched n) stay h = tt
among_later xs ys (Refused n status) stay h = tt

abbrev pub AreGiven : List Exchange → List Out → Type 0
AreGiven xs outs = AllByRecursion (IsGivenAmong xs) outs

all_later : (xs ys : List Exchange) (outs : List Out) → Stay xs ys → AreGiven xs outs → AreGiven ys outs
all_later xs ys [] stay h = tt
all_later xs ys (out ∷ outs) stay h = (among_later xs ys out stay h.0, all_later xs ys outs stay h.1)

all_both : {A : Type 0} (P : A → Type 0) (xs ys : List A) → AllByRecursion P xs → AllByRecursion P ys → AllByRecursion P (xs ++ ys)
all_both P [] ys h k = k
all_both P (x ∷ xs) ys h k = (h.0, all_both P xs ys h.1 k)

-- ---- the replies of one turn

abbrev request_of : Exchange → Asked × Bool
request_of x = (x.asked, x.close)

new_given : (all : List Exchange) (i : ℕ) (outside : Bool) (before now : Option Heard) (request : Asked × Bool) → ((heard : Heard) → now ≡ Some heard → WasGiven all i request heard) → AreGiven all (new_reply i outside before now)
new_given all i false before now r there = tt
new_given all i true (Some h) now r there = tt
new_given all i true None None r there = tt
new_given all i true None (Some heard) r there = ((r, there heard refl), tt)

-- from a place on, these exchanges stand there
abbrev StandFrom : List Exchange → ℕ → List Exchange → Type 0
StandFrom all i ys = (k : ℕ) (request : Asked × Bool) (heard : Heard) → WasGiven ys k request heard → WasGiven all (i + k) request heard

first_there : (all : List Exchange) (i : ℕ) (y : Exchange) (ys : List Exchange) → StandFrom all i (y ∷ ys) → (heard : Heard) → y.given ≡ Some heard → WasGiven all i (request_of y) heard
first_there all i y ys from heard h = let e : i + 0 ≡ i = omega arith in subst (λ n. WasGiven all n (request_of y) heard) e (from 0 (request_of y) heard (record { asked = refl; close = refl; given = h }))

rest_there : (all : List Exchange) (i : ℕ) (y : Exchange) (ys : List Exchange) → StandFrom all i (y ∷ ys) → StandFrom all (i + 1) ys
rest_there all i y ys from k r heard h = let e : i + suc k ≡ (i + 1) + k = omega arith in subst (λ n. WasGiven all n r heard) e (from (suc k) r heard h)

now_given : (all : List Exchange) (i : ℕ) (xs ys : List Exchange) → StandFrom all i ys → AreGiven all (given_now i xs ys)
now_given all i xs [] from = tt
now_given all i [] (y ∷ ys) from = all_both (IsGivenAmong all) (new_reply i y.outside None y.given) (given_now (i + 1) [] ys) (new_given all i y.outside None y.given (request_of y) (first_there all i y ys from)) (now_given all (i + 1) [] ys (rest_there all i y ys from))
now_given all i (x ∷ xs) (y ∷ ys) from = all_both (IsGivenAmong all) (new_reply i y.outside x.given y.given) (given_now (i + 1) xs ys) (new_given all i y.outside x.given y.given (request_of y) (first_there all i y ys from)) (now_given all (i + 1) xs ys (rest_there all i y ys from))

-- the replies that a turn puts out are those of its exchanges, and those before it stay
pub record Tells (s : Situation) (t : Turn) : Type 0 where
  pub stays : Stay s.exchanges (next_of s t).exchanges
  pub gives : AreGiven (next_of s t).exchanges (outs_of t)

finishes : (o : Options) (s t : Situation) (late : Exchange → Bool) → Stay s.exchanges t.exchanges → Tells s (finished o late s t)
finishes o s t late h =
    let next = settled o late t in
    record {
      stays = stay_trans s.exchanges t.exchanges next.exchanges h (stay_settled o t.server late t.exchanges);
      gives = now_given next.exchanges 0 s.exchanges next.exchanges (λ k r heard given. let e : k ≡ 0 + k = omega arith in subst (λ n. WasGiven next.exchanges n r heard) e given);
    }

quiet : (s : Situation) (t : Turn) → (next_of s t).exchanges ≡ s.exchanges → outs_of t ≡ [] → Tells s t
quiet s t same none = record { stays = λ e r heard h. subst (λ (xs : List Exchange). WasGiven xs e r heard) (sym same) h; gives = subst (AreGiven (next_of s t).exchanges) (sym none) tt }

stops : (s : Situation) (error : StepError) → Tells s (Stops error)
stops s error = quiet s (Stops error) refl refl

joins : (s : Situation) (outs : List Out) (next : Situation) (t : Turn) → Tells s (Goes outs next) → Tells next t → Tells s (joined outs t)
joins s outs next (Stops error) h k = stops s error
joins s outs next (Goes more last) h k = record {
  stays = stay_trans s.exchanges next.exchanges last.exchanges h.stays k.stays;
  gives = all_both (IsGivenAmong last.exchanges) outs more (all_later next.exchanges last.exchanges outs k.stays h.gives) k.gives;
}

then_tells : (s : Situation) (go : Situation → Turn) (t : Turn) → Tells s t → ((next : Situation) → Tells next (go next)) → Tells s (then_goes go t)
then_tells s go (Stops error) h k = stops s error
then_tells s go (Goes outs next) h k = joins s outs next (go next) h (k next)

if_finishes : (o : Options) (s t : Situation) (late : Exchange → Bool) (other : Turn) (b : Bool) → Stay s.exchanges t.exchanges → Tells s other → Tells s (if b then finished o late s t else other)
if_finishes o s t late other true h k = finishes o s t late h
if_finishes o s t late other false h k = k

-- ---- requests

registers : (o : Options) (s : Situation) (x : Exchange) (ask : Ask) (reader : Option Reader) → Stay s.exchanges (registered_for s x ask reader).exchanges
registers o s x ask None = stay_more s.exchanges x
registers o s x ask (Some reader) = stay_more s.exchanges _

opens : (o : Options) (s : Situation) (x : Exchange) (ask : Ask) (code : Option ErrorCode) → Stay s.exchanges (opened o s x ask code).exchanges
opens o s x ask (Some code) = stay_more s.exchanges (refused_at s.server code x)
opens o s x ask None = registers o s x ask (reader_for o s.server.registry ask)

firsts : (o : Options) (s : Situation) (x : Exchange) (ask : Ask) (n : Option ℕ) → Stay s.exchanges (asked_first o s x ask n).exchanges
firsts o s x ask (Some n) = stay_more s.exchanges _
firsts o s x ask None = opens o s x ask (refusal_to_register (known_of o s.server) s.server.registry ask)

names : (o : Options) (s : Situation) (x : Exchange) (ask : Ask) (named : Named) → Stay s.exchanges (asked_named o s x ask named).exchanges
names o s x ask Absent = firsts o s x ask (live_under s.server.registry ask.identity)
names o s x ask (Known handle) = stay_more s.exchanges x
names o s x ask Strange = stay_more s.exchanges x

asks : (o : Options) (s : Situation) (x : Exchange) (asked : Asked) → Stay s.exchanges (asked_for o s x asked).exchanges
asks o s x (Refuses code) = stay_more s.exchanges x
asks o s x (AsksFor ask) = names o s x ask ask.named

requests : (o : Options) (s : Situation) (outside : Bool) (target : Option (List ℕ)) (asked : Asked) (close : Bool) → Stay s.exchanges (request o s outside target asked close).exchanges
requests o s outside target asked close = asks o s (exchange_at outside target asked close s.clock) asked

cuts : (s : Situation) (b : Bool) → Tells s (if b then Goes (Cut (length s.exchanges) ∷ []) (with_exchange s (with_role HasNone (exchange_at true None (Refuses codes.BadHead) false s.clock))) else Stops errors.TooManyExchanges)
cuts s true = record { stays = stay_more s.exchanges _; gives = (tt, tt) }
cuts s false = stops s errors.TooManyExchanges

-- ---- snapshots

ends : (s : Situation) (e n : ℕ) (code : ErrorCode) (d : Option TableDef) → Stay s.exchanges (snapshot_ends s e n code d).exchanges
ends s e n code d = stay_refused (redefined (dropped s.server n SnapshotFailed) d) code s.exchanges e

snaps_to : (o : Options) (s : Situation) (e n : ℕ) (x : Shape) (snap : Snapshot) (refusal : Option ErrorCode) → Stay s.exchanges (snapped o s e n x snap refusal).exchanges
snaps_to o s e n x snap (Some code) = ends s e n code (changed_in snap x.reader.knows.definition)
snaps_to o s e n x snap None = stay_same s.exchanges

snap_shapes : (o : Options) (s : Situation) (e n : ℕ) (snap : Snapshot) (shape : Option Shape) → Tells s (run.snap_shape o s e n snap shape)
snap_shapes o s e n snap None = stops s (errors.Unfit unfit.NotASnapshot)
snap_shapes o s e n snap (Some x) = if_finishes o s (snapped o s e n x snap (refusal_of_snapshot s.server.commits x snap)) never (is_unfit unfit.NotASnapshot) (is_starting s.server.registry n && is_none (snapshot_in x.events))
    (snaps_to o s e n x snap (refusal_of_snapshot s.server.commits x snap)) (stops s (errors.Unfit unfit.NotASnapshot))

snaps : (o : Options) (s : Situation) (e : ℕ) (snap : Snapshot) (n : Option ℕ) → Tells s (run.snap o s e snap n)
snaps o s e snap None = stops s (errors.Unfit unfit.NotASnapshot)
snaps o s e snap (Some n) = snap_shapes o s e n snap (shape_at s.server.shapes n)

fails : (o : Options) (s : Situation) (e : ℕ) (fault : Fault) (n : Option ℕ) → Tells s (run.fail o s e fault n)
fails o s e fault None = stops s (errors.Unfit unfit.NotASnapshot)
fails o s e fault (Some n) = if_finishes o s (snapshot_ends s e n (code_of fault) None) never (is_unfit unfit.NotASnapshot) (is_starting s.server.registry n) (ends s e n (code_of fault) None) (stops s (errors.Unfit unfit.NotASnapshot))

-- ---- clients

requested_if : (o : Options) (s : Situation) (c : Customer) (b : Bool) → Stay s.exchanges (if b then request o s false None (Refuses codes.HeadTooLong) false else request o s false (Some (next_target c)) (next_asked c) false).exchanges
requested_if o s c true = requests o s false None (Refuses codes.HeadTooLong) false
requested_if o s c false = requests o s false (Some (next_target c)) (next_asked c) false

send_if : (o : Options) (s : Situation) (n : ℕ) (c : Customer) (b : Bool) → Tells s (if b then sent o s n c else Stops errors.TooManyExchanges)
send_if o s n c true = finishes o s (record (requested o s c) { customers = change_at (waits_at (length s.exchanges)) (requested o s c).customers n }) never (requested_if o s c (is_long (next_target c)))
send_if o s n c false = stops s errors.TooManyExchanges

sends : (o : Options) (s : Situation) (n : ℕ) (c : Option Customer) → Tells s (send_by o s n c)
sends o s n None = stops s (errors.Unfit unfit.NoClient)
sends o s n (Some c) = send_if o s n c (has_room s)

outs_given : (xs : List Exchange) (n : ℕ) (c : Held) (outcome : Outcome) → AreGiven xs (out_of n c outcome)
outs_given xs n c UpToDate = (tt, tt)
outs_given xs n c More = tt
outs_given xs n c Refetch = (tt, tt)
outs_given xs n c (ServerRefused status) = (tt, tt)
outs_given xs n c BadReply = tt
outs_given xs n c (ForeignHandle asked got) = tt
outs_given xs n c (BadFold offset key) = tt

takes_heard : (s : Situation) (n : ℕ) (c : Customer) (given : Option Heard) → Tells s (take_heard s n c given)
takes_heard s n c None = stops s (errors.Unfit unfit.NoReply)
takes_heard s n c (Some x) = let later = take_reply (held_of c) x.given.reply x.body in record { stays = stay_same s.exchanges; gives = outs_given s.exchanges n later.held later.outcome }

takes_if : (s : Situation) (n : ℕ) (c : Customer) (x : Exchange) (a b : Bool) → Tells s (if a then is_unfit unfit.NoReply else if b then take_heard s n c x.given else is_unfit unfit.WrongAddress)
takes_if s n c x true b = stops s (errors.Unfit unfit.NoReply)
takes_if s n c x false true = takes_heard s n c x.given
takes_if s n c x false false = stops s (errors.Unfit unfit.WrongAddress)

takes_exchange : (s : Situation) (n : ℕ) (c : Customer) (x : Option Exchange) → Tells s (take_exchange s n c x)
takes_exchange s n c None = stops s (errors.Unfit unfit.NoExchange)
takes_exchange s n c (Some x) = takes_if s n c x (is_none x.given) (is_next c x.target)

takes : (s : Situation) (n e : ℕ) (c : Option Customer) → Tells s (take_by s n e c)
takes s n e None = stops s (errors.Unfit unfit.NoClient)
takes s n e (Some c) = takes_exchange s n c (slice_get s.exchanges e)

abbrev TellsAll : (Situation → Turn) → Type 0
TellsAll go = (next : Situation) → Tells next (go next)

stays_put : (s : Situation) → Tells s (Goes [] s)
stays_put s = quiet s (Goes [] s) refl refl

watches_if : (go : Situation → Turn) (s : Situation) (n e : ℕ) (c : Customer) (b : Bool) → TellsAll go → Tells s (if b then then_goes go (take_by s n e (Some c)) else take_by s n e (Some c))
watches_if go s n e c true k = then_tells s go (take_by s n e (Some c)) (takes s n e (Some c)) k
watches_if go s n e c false k = takes s n e (Some c)

watches_heard : (go : Situation → Turn) (s : Situation) (n e : ℕ) (c : Customer) (given : Option Heard) → TellsAll go → Tells s (watch_heard go s n e c given)
watches_heard go s n e c None k = stays_put s
watches_heard go s n e c (Some x) k = watches_if go s n e c (goes_on (take_reply (held_of c) x.given.reply x.body).outcome) k

watches_exchange : (go : Situation → Turn) (s : Situation) (n e : ℕ) (c : Customer) (x : Option Exchange) → TellsAll go → Tells s (watch_exchange go s n e c x)
watches_exchange go s n e c None k = stays_put s
watches_exchange go s n e c (Some x) k = watches_heard go s n e c x.given k

watches_open : (o : Options) (go : Situation → Turn) (s : Situation) (n : ℕ) (c : Customer) (e : Option ℕ) → TellsAll go → Tells s (watch_open o go s n c e)
watches_open o go s n c None k = then_tells s go (send_by o s n (Some c)) (sends o s n (Some c)) k
watches_open o go s n c (Some e) k = watches_exchange go s n e c (slice_get s.exchanges e) k

watched : (o : Options) (go : Situation → Turn) (s : Situation) (n : ℕ) (c : Option Customer) → TellsAll go → Tells s (watched_by o go s n c)
watched o go s n None k = stops s (errors.Unfit unfit.NoClient)
watched o go s n (Some c) k = watches_open o go s n c c.waiting k

watches : (o : Options) (times n : ℕ) (s : Situation) → Tells s (watch o times n s)
watches o zero n s = stays_put s
watches o (suc times) n s = watched o (λ next. watch o times n next) s n (slice_get s.customers n) (watches o times n)

moments : (o : Options) (s : Situation) (now : ℕ) (b : Bool) → Tells s (if b then is_unfit unfit.ClockBack else finished o (is_late_at o now) s (record s { clock = now }))
moments o s now true = stops s (errors.Unfit unfit.ClockBack)
moments o s now false = finishes o s (record s { clock = now }) (is_late_at o now) (stay_same s.exchanges)

-- ---- each event

pub each : (o : Options) (s : Situation) (e : run.Event) → Tells s (turn_of o s e)
each o s (RequestCame target asked close) = if_finishes o s (request o s true target asked close) never (Stops errors.TooManyExchanges) (has_room s) (requests o s true target asked close) (stops s errors.TooManyExchanges)
each o s HeadCut = cuts s (has_room s)
each o s (SnapshotCame e x) = snaps o s e x (owned_by (slice_get s.exchanges e))
each o s (SnapshotEnded e fault) = fails o s e fault (owned_by (slice_get s.exchanges e))
each o s (Committed txs) = finishes o s (record s { server = after_commits o s.server txs }) never (stay_same s.exchanges)
each o s (Remove n) = if_finishes o s (record s { server = dropped s.server n Deleted }) never (Goes [] s) (is_live s.server.registry n) (stay_same s.exchanges) (stays_put s)
each o s (Moment now) = moments o s now (nat_lt now s.clock)
each o s (Joined query asked) = quiet s (Goes [] (join s query asked)) refl refl
each o s (SendNext n) = sends o s n (slice_get s.customers n)
each o s (Receive n e) = takes s n e (slice_get s.customers n)
each o s (Watch n) = watches o rounds n s

-- ---- the whole run

-- what was put out, with a situation, is of these exchanges
abbrev pub IsToldAmong : List Exchange → Out × Situation → Type 0
IsToldAmong xs told = IsGivenAmong xs told.0

with_situation : (xs : List Exchange) (t : Situation) (outs : List Out) → AreGiven xs outs → AllByRecursion (IsToldAmong xs) (map {B = Out × Situation} (λ out. (out, t)) outs)
with_situation xs t [] h = tt
with_situation xs t (out ∷ outs) h = (h.0, with_situation xs t outs h.1)

-- the replies that events put out are those of the last exchanges, and those before them stay
record Ran (o : Options) (s : Situation) (es : List run.Event) : Type 0 where
  stays : Stay s.exchanges (after o s es).exchanges
  gives : AllByRecursion (IsToldAmong (after o s es).exchanges) (told o s es)

ran : (o : Options) (s : Situation) (es : List run.Event) → Ran o s es
ran o s [] = record { stays = stay_same s.exchanges; gives = tt }
ran o s (e ∷ es) =
    let next = next_of s (turn_of o s e) in
    let one = each o s e in
    let rest = ran o (next_of s (turn_of o s e)) es in
    let last = (after o (next_of s (turn_of o s e)) es).exchanges in
    record {
      stays = stay_trans s.exchanges next.exchanges last one.stays rest.stays;
      gives = all_both (IsToldAmong last) (map {B = Out × Situation} (λ out. (out, next)) (outs_of (turn_of o s e))) (told o next es) (with_situation last next (outs_of (turn_of o s e)) (all_later next.exchanges last (outs_of (turn_of o s e)) rest.stays one.gives)) rest.gives;
    }

-- Each reply that events put out is that of its exchange.
pub replies_are_given : (o : Options) (s : Situation) (es : List run.Event) → AllByRecursion (IsToldAmong (after o s es).exchanges) (told o s es)
replies_are_given o s es = (ran o s es).gives
