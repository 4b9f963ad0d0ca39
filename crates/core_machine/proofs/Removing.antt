-- What happens to a number, a snapshot that is refused, and the clock.
use Rattle.std.proofs.Common.{◌≡◌, ℕ, zero, suc, Bool, true, false, List, [], ◌∷◌, map, refl, sym, ap, subst, ◌∙◌, Option, None, Some}
use Rattle.std.specs.Prelude.{nat_lt, slice_get}
use Rattle.std.specs.Bool.{if◌then◌else◌}
use Rattle.shape_base.specs.declared.cause.Cause.TheVariants.{Deleted, SnapshotFailed}
use Rattle.shape_base.specs.declared.definition.TableDef.{TableDef}
use Rattle.shape_base.specs.RegistryHistory.{is_live, is_starting}
use Rattle.http_edge.specs.declared.error_code.ErrorCode.{ErrorCode}
use Rattle.core_events.specs.declared.out.Out.{Out}
use Rattle.core_events.specs.declared.out.Unfit.TheVariants as unfit
use Rattle.core_events.specs.declared.out.StepError.TheVariants as errors
use Rattle.core_law.specs.Situation.{Options, Server, Role, Reads, Waits, Owns, HasNone, Exchange, Customer, Situation}
use Rattle.core_law.specs.Steps.{change_at, settled_one, settled, dropped, refused_at, Fault, code_of, owned_in, owned_by, snapshot_ends}
use Rattle.core_law.specs.Clients.{Turn, Goes, Stops, finished, never, is_unfit}
use Rattle.core_law.specs.Run.{Event, SnapshotEnded, Remove, Moment, fail, turn_of, next_of, is_late_at}
use Rattle.core_law.specs.Laws.{IsStart}
use Rattle.core_law.specs.Waiting.{awaited, IsAsBefore}
use Rattle.core_law.specs.Reached.{IsReached, AsksOfTable}
use Rattle.core_law.proofs.Lemmas.{reached_next, roles_are_given, others_wait, replies_say}
use Rattle.core_server.specs.declared.server.Server.{Server as KeptServer}
use Rattle.core_server.specs.Standing as server
use Rattle.core_exchanges.specs.declared.exchanges.Exchanges.{Exchanges}
use Rattle.core_exchanges.specs.Standing as exchanges
use Rattle.core_exchanges.specs.Standing.{ArePlaces}
use Rattle.core_exchanges.specs.Giving.{is_late}
use Rattle.core_clients.specs.Standing as clients
use Rattle.core_machine.specs.declared.answering.Refusal.{Refusal}
use Rattle.core_machine.specs.declared.machine.Machine.{Machine}
use Rattle.core_machine.specs.Firsts.{first_asked, AreServed}
use Rattle.core_machine.specs.Replying.{answered_in, refusal_of}
use Rattle.core_machine.specs.Answering.{AreGivenNumbers, Halfway, settled_at, texts_at}
use Rattle.core_machine.specs.Awaiting.{AnswersAt, IsAwaitingAnswered}
use Rattle.core_machine.specs.Opening.{SparesClients}
use Rattle.core_machine.specs.Faults.{if_starting, under_way}
use Rattle.core_machine.specs.Standing.{lasts_of, AreSaid, AreOfTables, Stands}
use Rattle.core_machine.specs.Turns.{GoesOn}
use Rattle.core_machine.proofs.Requests.{refused_as}
use Rattle.core_machine.proofs.Changing.{awaiting_settles, moment_settles}
use Rattle.core_machine.proofs.Quiet.{quiet_then, quiet_dropped, quiet_redefined}
use Rattle.core_machine.proofs.Short.{short_logs}
use Rattle.core_machine.proofs.Lasts.{lasts_dropped, lasts_redefined}
use Rattle.core_machine.proofs.Turning.{Around, Settling, said_refused, said_changed, settles, goes}

pub change_same : (f : Exchange → Exchange) (xs : List Exchange) (i : ℕ) → ((x : Exchange) → f x ≡ x) → xs ≡ change_at f xs i
change_same f [] i h = refl
change_same f (x ∷ xs) zero h = ap (λ y. y ∷ xs) (sym (h x))
change_same f (x ∷ xs) (suc i) h = ap (λ ys. x ∷ ys) (change_same f xs i h)

roles_settled : (o : Options) (v : Server) (late : Exchange → Bool) (xs : List Exchange) → AreGivenNumbers v (map (λ (x : Exchange). settled_one o v late x x.given) xs) → AreGivenNumbers v xs
roles_settled o v late [] h = tt
roles_settled o v late (x ∷ xs) h = (subst (Rattle.core_law.specs.Reached.WasGiven v) (role_same x x.given) h.0, roles_settled o v late xs h.1)
  where
    role_same : (x : Exchange) (g : Option Rattle.fold_client.specs.Following.Heard) → (settled_one o v late x g).role ≡ x.role
    role_same x None = refl
    role_same x (Some h) = refl

-- what the clients were stays, and the clock
pub spared : (o : Options) (customers : List Customer) (clock : ℕ) (m m' : Machine) → Around o customers clock m → SparesClients m m' → Around o customers clock m'
spared o customers clock m m' a spares = record {
  clients = subst (λ c. clients.Stands c customers) (sym spares.clients) a.clients;
  asks = ap (λ a. map first_asked a.items) spares.asks ∙ a.asks;
  served = subst (λ a. AreServed o.tables a.items) (sym spares.asks) a.served;
  clock_is = spares.clock ∙ a.clock_is;
  hold = spares.hold ∙ a.hold;
  defined = a.defined;
}

pub around : (o : Options) (s : Situation) (m m' : Machine) → Stands o s m → SparesClients m m' → Around o s.customers s.clock m'
around o s m m' h spares = spared o s.customers s.clock m m' (record { clients = h.clients; asks = h.asks; served = h.served; clock_is = h.clock; hold = h.hold; defined = h.defined }) spares

-- ---- an event after which each exchange is tried that something may have happened to

-- the situation after an event
abbrev pub next_by : Options → Situation → Event → Situation
next_by o s e = next_of s (turn_of o s e)

module _ (o : Options) (s t : Situation) (e : Event) (late : Exchange → Bool) (turn : turn_of o s e ≡ finished o late s t) (start : IsStart o) (reached : IsReached o s) (back : (v : Server) → AreGivenNumbers v t.exchanges → AreGivenNumbers v s.exchanges) where
  abbrev next : Situation
  next = next_by o s e

  pub server_next : next.server ≡ t.server
  server_next = ap (λ u. (next_of s u).server) turn

  pub reached_settled : IsReached o (settled o late t)
  reached_settled = subst (IsReached o) (ap (next_of s) turn) (reached_next o s e reached)

  roles_next : AreGivenNumbers next.server s.exchanges
  roles_next = subst (λ (v : Server). AreGivenNumbers v s.exchanges) (sym server_next) (back t.server (roles_settled o t.server late t.exchanges (roles_are_given o (settled o late t) reached_settled)))

  pub halfway_next : (v : KeptServer) (u : Exchanges) → server.Stands o t.server v → exchanges.Stands u s.exchanges → Halfway o next s.exchanges v u
  halfway_next v u stands there = record {
    start = start;
    reached = reached_next o s e reached;
    server = subst (λ (w : Server). server.Stands o w v) (sym server_next) stands;
    exchanges = there;
    roles = roles_next;
  }

  -- where those in some places were answered as the definitions settle all, it goes on
  pub goes_by : (m : Machine) (now : List Out) (overdue : Bool) (r : Option Refusal) (places : List ℕ) → Settling o s t late (answered_in o t.server overdue r) places s.exchanges → AreSaid t.exchanges → AreOfTables o t.exchanges → Around o t.customers t.clock m → server.Stands o t.server m.server
      → exchanges.Stands m.exchanges (settled_at (answered_in o next.server overdue r) places s.exchanges) → now ≡ texts_at (answered_in o next.server overdue r) places s.exchanges → m.lasts.items ≡ lasts_of t.server → GoesOn o (turn_of o s e) now m
  goes_by m now overdue r places settling said tables around_ stands there outs lasts =
      let settled_ = settles o s t late (answered_in o t.server overdue r) places s.exchanges settling in
      subst (λ (u : Turn). GoesOn o u now m) (sym turn)
      (goes replies_say o s t late m now start reached_settled (short_logs o t.server m.server stands) said tables around_ stands
      (subst (λ (ys : List Exchange). exchanges.Stands m.exchanges ys) (sym settled_.same) (subst (λ (v : Server). exchanges.Stands m.exchanges (settled_at (answered_in o v overdue r) places s.exchanges)) server_next there))
      (outs ∙ ap (λ (v : Server). texts_at (answered_in o v overdue r) places s.exchanges) server_next ∙ settled_.texts)
      lasts)

-- ---- something happens to a number, and no exchange is refused

module _ (o : Options) (s : Situation) (ev : Event) (n : ℕ) (w : Server) where
  abbrev pub with_server : Situation
  with_server = record s { server = w }

  pub happened : (m m' : Machine) (now : List Out) → turn_of o s ev ≡ finished o never s with_server → ((k : ℕ) → (n ≡ k → ⊥) → IsAsBefore s.server w k) → Stands o s m → server.Stands o w m'.server → SparesClients m m' → m'.lasts.items ≡ lasts_of w
      → IsAwaitingAnswered o (next_by o s ev) s.exchanges m' n None now → GoesOn o (turn_of o s ev) now m'
  happened m m' now turn quiet h stands spares lasts aw = goes_by o s with_server ev never turn h.start h.reached (λ v is. is) m' now false None aw.places
      (awaiting_settles others_wait o s with_server ev n 0 None aw.places h.start h.reached h.of_tables (server_next o s with_server ev never turn h.start h.reached (λ v is. is)) (change_same (refused_as w None) s.exchanges 0 (λ x. refl)) aw.await (λ none. cc) quiet)
      h.said h.of_tables (around o s m m' h spares) stands aw.halfway.exchanges aw.outs_are lasts

-- ---- a number that is dropped

module _ (o : Options) (s : Situation) (n : ℕ) (live : is_live s.server.registry n ≡ true) where
  abbrev pub without : Situation
  without = record s { server = dropped s.server n Deleted }

  pub removes : turn_of o s (Remove n) ≡ finished o never s without
  removes = ap (λ b. if b then finished o never s without else Goes [] s) live

  pub removed : (m m' : Machine) (now : List Out) → Stands o s m → server.Stands o without.server m'.server → SparesClients m m' → m'.lasts ≡ m.lasts
      → IsAwaitingAnswered o (next_by o s (Remove n)) s.exchanges m' n None now → GoesOn o (turn_of o s (Remove n)) now m'
  removed m m' now h stands spares lasts aw = happened o s (Remove n) n without.server m m' now removes (λ k other. quiet_dropped s.server n k Deleted other) h stands spares
      (ap (λ l. l.items) lasts ∙ h.lasts ∙ sym (lasts_dropped s.server n Deleted)) aw

-- ---- the clock

module _ (o : Options) (s : Situation) (now : ℕ) (later : nat_lt now s.clock ≡ false) where
  abbrev pub at_moment : Situation
  at_moment = record s { clock = now }

  pub moves : turn_of o s (Moment now) ≡ finished o (is_late_at o now) s at_moment
  moves = ap (λ b. if b then is_unfit unfit.ClockBack else finished o (is_late_at o now) s at_moment) later

  -- the machine, whose clock shows that
  abbrev pub shows : Machine → Machine
  shows m = record m { clock = now }

  pub moved : (m m' : Machine) (outs : List Out) (places : List ℕ) → Stands o s m → ArePlaces (is_late o now) s.exchanges places → m'.server ≡ m.server → SparesClients (shows m) m' → m'.lasts ≡ m.lasts
      → AnswersAt (shows m) m' places true None outs → GoesOn o (turn_of o s (Moment now)) outs m'
  moved m m' outs places h are same spares lasts answers =
      let next_is = server_next o s at_moment (Moment now) (is_late_at o now) moves h.start h.reached (λ v is. is) in
      let half = halfway_next o s at_moment (Moment now) (is_late_at o now) moves h.start h.reached (λ v is. is) m.server m.exchanges h.server h.exchanges in
      let answered = answers o (next_by o s (Moment now)) s.exchanges half in
      goes_by o s at_moment (Moment now) (is_late_at o now) moves h.start h.reached (λ v is. is) m' outs true None places
      (moment_settles others_wait o s now (Moment now) places h.start h.reached h.of_tables next_is are) h.said h.of_tables
      (spared o s.customers now (shows m) m' (record { clients = h.clients; asks = h.asks; served = h.served; clock_is = refl; hold = h.hold; defined = h.defined }) spares)
      (subst (server.Stands o s.server) (sym same) h.server) answered.halfway.exchanges answered.outs (ap (λ l. l.items) lasts ∙ h.lasts)

-- ---- a snapshot that ends

pub roles_unchanged : (f : Exchange → Exchange) (v : Server) (xs : List Exchange) (i : ℕ) → ((x : Exchange) → (f x).role ≡ x.role) → AreGivenNumbers v (change_at f xs i) → AreGivenNumbers v xs
roles_unchanged f v [] i same h = tt
roles_unchanged f v (x ∷ xs) zero same h = (subst (Rattle.core_law.specs.Reached.WasGiven v) (same x) h.0, h.1)
roles_unchanged f v (x ∷ xs) (suc i) same h = (h.0, roles_unchanged f v xs i same h.1)

pub tables_changed : (o : Options) (f : Exchange → Exchange) (xs : List Exchange) (i : ℕ) → ((x : Exchange) → (f x).asked ≡ x.asked) → AreOfTables o xs → AreOfTables o (change_at f xs i)
tables_changed o f [] i same h = tt
tables_changed o f (x ∷ xs) zero same h = (subst (AsksOfTable o) (sym (same x)) h.0, h.1)
tables_changed o f (x ∷ xs) (suc i) same h = (h.0, tables_changed o f xs i same h.1)

pub owner_role : (x : Option Exchange) (n : ℕ) → owned_by x ≡ Some n → (y : Exchange) → x ≡ Some y → awaited y.asked y.role ≡ Some n
owner_role None n h y e = cc
owner_role (Some x) n h y e = let same : x ≡ y = cc in subst (λ (z : Exchange). awaited z.asked z.role ≡ Some n) same (pick x.role h)
  where
    pick : (role : Role) → owned_in role ≡ Some n → awaited x.asked role ≡ Some n
    pick Reads k = cc
    pick (Waits m) k = cc
    pick (Owns m) k = k
    pick HasNone k = cc

module _ (o : Options) (s : Situation) (ev : Event) (e n : ℕ) (code : ErrorCode) (d : Option TableDef) where
  abbrev pub refused_to : Situation
  refused_to = snapshot_ends s e n code d

  pub roles_refused : (v : Server) → AreGivenNumbers v refused_to.exchanges → AreGivenNumbers v s.exchanges
  roles_refused v h = roles_unchanged (refused_at refused_to.server code) v s.exchanges e (λ x. refl) h

  quiet_refused : (k : ℕ) → (n ≡ k → ⊥) → IsAsBefore s.server refused_to.server k
  quiet_refused k other = quiet_then s.server (dropped s.server n SnapshotFailed) refused_to.server k (quiet_dropped s.server n k SnapshotFailed other) (quiet_redefined (dropped s.server n SnapshotFailed) d k)

  pub refused_on : (m m' : Machine) (now : List Out) → owned_by (slice_get s.exchanges e) ≡ Some n → turn_of o s ev ≡ finished o never s refused_to → Stands o s m → server.Stands o refused_to.server m'.server → SparesClients m m' → m'.lasts ≡ m.lasts
      → IsAwaitingAnswered o (next_by o s ev) s.exchanges m' n (refusal_of e (Some code)) now → GoesOn o (turn_of o s ev) now m'
  refused_on m m' now owned turn h stands spares lasts aw =
      let reached = reached_settled o s refused_to ev never turn h.start h.reached roles_refused in
      let short = short_logs o refused_to.server m'.server stands in
      goes_by o s refused_to ev never turn h.start h.reached roles_refused m' now false (refusal_of e (Some code)) aw.places
      (awaiting_settles others_wait o s refused_to ev n e (Some code) aw.places h.start h.reached h.of_tables (server_next o s refused_to ev never turn h.start h.reached roles_refused) refl aw.await (λ some. owner_role (slice_get s.exchanges e) n owned) quiet_refused)
      (said_changed (refused_at refused_to.server code) s.exchanges e (λ x is. said_refused replies_say o (settled o never refused_to) h.start reached short code x is) h.said)
      (tables_changed o (refused_at refused_to.server code) s.exchanges e (λ x. refl) h.of_tables)
      (around o s m m' h spares) stands aw.halfway.exchanges aw.outs_are
      (ap (λ l. l.items) lasts ∙ h.lasts ∙ sym (lasts_redefined (dropped s.server n SnapshotFailed) d ∙ lasts_dropped s.server n SnapshotFailed))

module _ (o : Options) (s : Situation) (e n : ℕ) (fault : Fault) (owned : owned_by (slice_get s.exchanges e) ≡ Some n) (starting : is_starting s.server.registry n ≡ true) where
  abbrev pub ended : Situation
  ended = snapshot_ends s e n (code_of fault) None

  pub ends : turn_of o s (SnapshotEnded e fault) ≡ finished o never s ended
  ends = ap (fail o s e fault) owned ∙ ap (λ b. if b then finished o never s ended else is_unfit unfit.NotASnapshot) starting

-- the number under way is owned, and starting
pub under_way_is : {P : Type 0} (s : Situation) (e n : ℕ) → Some n ≡ under_way s e → (owned_by (slice_get s.exchanges e) ≡ Some n → is_starting s.server.registry n ≡ true → P) → P
under_way_is {P} s e n is go = pick (owned_by (slice_get s.exchanges e)) refl is
  where
    inner : (m : ℕ) (b : Bool) → is_starting s.server.registry m ≡ b → owned_by (slice_get s.exchanges e) ≡ Some m → Some n ≡ (if b then Some m else None) → P
    inner m true st at k = let same : m ≡ n = cc in subst (λ j. owned_by (slice_get s.exchanges e) ≡ Some j → is_starting s.server.registry j ≡ true → P) (sym same) go at st
    inner m false st at k = cc

    pick : (a : Option ℕ) → owned_by (slice_get s.exchanges e) ≡ a → Some n ≡ if_starting s a → P
    pick None at k = cc
    pick (Some m) at k = inner m (is_starting s.server.registry m) refl at k

-- where none is, the event does not fit
pub none_under_way : (o : Options) (s : Situation) (e : ℕ) (fault : Fault) → None ≡ under_way s e → turn_of o s (SnapshotEnded e fault) ≡ Stops (errors.Unfit unfit.NotASnapshot)
none_under_way o s e fault is = pick (owned_by (slice_get s.exchanges e)) is
  where
    inner : (m : ℕ) (b : Bool) → None ≡ (if b then Some m else None) → (if b then finished o never s (snapshot_ends s e m (code_of fault) None) else is_unfit unfit.NotASnapshot) ≡ Stops (errors.Unfit unfit.NotASnapshot)
    inner m true k = cc
    inner m false k = refl

    pick : (a : Option ℕ) → None ≡ if_starting s a → fail o s e fault a ≡ Stops (errors.Unfit unfit.NotASnapshot)
    pick None k = refl
    pick (Some m) k = inner m (is_starting s.server.registry m) k
