-- The situation after a request from outside, and after a client's.
use Rattle.std.proofs.Common.{◌≡◌, ◌<◌, ℕ, Bool, true, false, List, [], ◌∷◌, ◌++◌, length, map, refl, sym, ap, subst, ◌∙◌, Option, None, Some}
use Rattle.std.specs.Prelude.{slice_get}
use Rattle.std.specs.Bool.{if◌then◌else◌}
use Rattle.http_edge.specs.declared.error_code.ErrorCode.{ErrorCode}
use Rattle.http_edge.specs.declared.error_code.ErrorCode.TheVariants as codes
use Rattle.http_edge.specs.Lawful.{Asked, Refuses}
use Rattle.core_events.specs.declared.out.Out.{Out}
use Rattle.core_events.specs.declared.out.StepError.TheVariants as errors
use Rattle.core_law.specs.Situation.{Options, Server, Exchange, Customer, Situation, next_target, next_asked}
use Rattle.core_law.specs.Steps.{change_at, exchange_at, with_role, settled, request}
use Rattle.core_law.specs.Clients.{Turn, Stops, finished, never, has_room, waits_at, is_long, requested, sent, send_by}
use Rattle.core_law.specs.Run.{RequestCame, SendNext, turn_of, next_of}
use Rattle.core_law.specs.Reached.{IsReached, HaveShortLogs, AsksOfTable}
use Rattle.core_law.proofs.Lemmas.{reached_next, replies_say}
use Rattle.core_exchanges.specs.declared.exchange.Asked as kept
use Rattle.core_exchanges.specs.declared.exchange.Asked.TheVariants as asks
use Rattle.core_exchanges.specs.Standing.{asked_of}
use Rattle.core_clients.specs.Standing as clients
use Rattle.core_machine.specs.declared.machine.Machine.{Machine}
use Rattle.core_machine.specs.Firsts.{first_asked, AreServed}
use Rattle.core_machine.specs.Opening.{IsServed, opening_of, IsRequested, SparesClients}
use Rattle.core_machine.specs.Standing.{AreSaid, AreOfTables, Stands}
use Rattle.core_machine.specs.Turns.{GoesOn}
use Rattle.core_machine.proofs.Exchanging.{all_more}
use Rattle.core_machine.proofs.Short.{short_logs}
use Rattle.core_machine.proofs.Receiving.{asked_in, map_kept}
use Rattle.core_machine.proofs.Requests.{refused_as, request_is, comes}
use Rattle.core_machine.proofs.Turning.{Around, IsSaid, said_more, said_refused, goes}
use Rattle.core_machine.proofs.Removing.{around}

-- what is asked for is of a table that is served and defined
pub of_table : (o : Options) (s : Situation) (m : Machine) (asked : kept.Asked) → Stands o s m → IsServed m asked → AsksOfTable o (asked_of asked)
of_table o s m (asks.Refused code) h served = tt
of_table o s m (asks.AsksFor ask) h served =
    let here = subst (λ tables. ask.table < length tables) h.server.tables served in
    record { served = here; defined = subst (λ n. ask.table < n) (sym h.defined) here }

refused_asked : (o : Options) (v : Server) (code : Option ErrorCode) (x : Exchange) → AsksOfTable o x.asked → AsksOfTable o (refused_as v code x).asked
refused_asked o v None x h = h
refused_asked o v (Some code) x h = h

module _ (o : Options) (s : Situation) (m : Machine) (h : Stands o s m) (asked : Asked) (outside : Bool) (target : Option (List ℕ)) (close : Bool) where
  abbrev t : Situation
  t = request o s outside target asked close

  abbrev x : Exchange
  x = with_role (opening_of o s.server asked).role (exchange_at outside target asked close s.clock)

  same_server : t.server ≡ (opening_of o s.server asked).server
  same_server = ap (λ (u : Situation). u.server) (request_is o s outside target asked close)

  same_exchanges : t.exchanges ≡ s.exchanges ++ refused_as t.server (opening_of o s.server asked).refusal x ∷ []
  same_exchanges = ap (λ (u : Situation). u.exchanges) (request_is o s outside target asked close) ∙ ap (λ (v : Server). s.exchanges ++ refused_as v (opening_of o s.server asked).refusal x ∷ []) (sym same_server)

  pub same_customers : t.customers ≡ s.customers
  same_customers = ap (λ (u : Situation). u.customers) (request_is o s outside target asked close)

  pub same_clock : t.clock ≡ s.clock
  same_clock = ap (λ (u : Situation). u.clock) (request_is o s outside target asked close)

  said_code : (z : Situation) → z.server ≡ t.server → IsReached o z → HaveShortLogs t.server → (code : Option ErrorCode) → IsSaid (refused_as t.server code x)
  said_code z is reached short None = tt
  said_code z is reached short (Some code) = subst (λ (v : Server). IsSaid (refused_as v (Some code) x)) is (said_refused replies_say o z h.start reached (subst HaveShortLogs (sym is) short) code x tt)

  pub said_now : (z : Situation) → z.server ≡ t.server → IsReached o z → HaveShortLogs t.server → AreSaid t.exchanges
  said_now z is reached short = subst AreSaid (sym same_exchanges) (said_more s.exchanges (refused_as t.server (opening_of o s.server asked).refusal x) h.said (said_code z is reached short (opening_of o s.server asked).refusal))

  pub tables_now : AsksOfTable o asked → AreOfTables o t.exchanges
  tables_now is = subst (AreOfTables o) (sym same_exchanges) (all_more o s.exchanges (refused_as t.server (opening_of o s.server asked).refusal x) h.of_tables (refused_asked o t.server (opening_of o s.server asked).refusal x is))

-- ---- from outside

pub came_in : (o : Options) (s : Situation) (m m' : Machine) (target : Option (List ℕ)) (asked : Asked) (close : Bool) (i : ℕ) (now : List Out) → Stands o s m → AsksOfTable o asked → has_room s ≡ true → IsRequested o s (request o s true target asked close) m m' [] now i → SparesClients m m'
    → GoesOn o (turn_of o s (RequestCame target asked close)) now m'
came_in o s m m' target asked close i now h of room r spares =
    let t = request o s true target asked close in
    let turn = comes o s target asked close room in
    let reached : IsReached o (settled o never t) = subst (IsReached o) (ap (next_of s) turn) (reached_next o s (RequestCame target asked close) h.reached) in
    let short = short_logs o t.server m'.server r.server in
    subst (λ (u : Turn). GoesOn o u now m') (sym turn)
    (goes replies_say o s t never m' now h.start reached short (said_now o s m h asked true target close (settled o never t) refl reached short) (tables_now o s m h asked true target close of)
    (subst (λ (clock : ℕ). Around o t.customers clock m') (sym (same_clock o s m h asked true target close)) (subst (λ (cs : List Customer). Around o cs s.clock m') (sym (same_customers o s m h asked true target close)) (around o s m m' h spares)))
    r.server r.exchanges r.outs r.lasts)

-- ---- a client's

module _ (o : Options) (s : Situation) (m : Machine) (h : Stands o s m) (n : ℕ) (c : Customer) (at : slice_get s.customers n ≡ Some c) (room : has_room s ≡ true) (target : Option (List ℕ)) (asked : Asked)
    (is : requested o s c ≡ request o s false target asked false) where
  abbrev u : Situation
  u = request o s false target asked false

  abbrev after_it : Situation
  after_it = record u { customers = change_at (waits_at (length s.exchanges)) u.customers n }

  sends : turn_of o s (SendNext n) ≡ finished o never s after_it
  sends = ap (send_by o s n) at ∙ ap (λ b. if b then sent o s n c else Stops errors.TooManyExchanges) room ∙ ap (λ (z : Situation). finished o never s (record z { customers = change_at (waits_at (length s.exchanges)) z.customers n })) is

  pub sent_on : (m' : Machine) (i : ℕ) (now : List Out) → AsksOfTable o asked → IsRequested o s u m m' [] now i → clients.Stands m'.clients (change_at (waits_at i) s.customers n) → m'.asks ≡ m.asks → m'.clock ≡ m.clock → m'.hold ≡ m.hold
      → GoesOn o (turn_of o s (SendNext n)) now m'
  sent_on m' i now of r clients_ asks clock hold =
      let reached : IsReached o (settled o never after_it) = subst (IsReached o) (ap (next_of s) sends) (reached_next o s (SendNext n) h.reached) in
      let same = same_customers o s m h asked false target false in
      let short = short_logs o u.server m'.server r.server in
      subst (λ (z : Turn). GoesOn o z now m') (sym sends)
      (goes replies_say o s after_it never m' now h.start reached short (said_now o s m h asked false target false (settled o never after_it) refl reached short) (tables_now o s m h asked false target false of)
      (record {
        clients = subst (λ cs. clients.Stands m'.clients (change_at (waits_at (length s.exchanges)) cs n)) (sym same) (subst (λ k. clients.Stands m'.clients (change_at (waits_at k) s.customers n)) r.index_is clients_);
        asks = ap (λ a. map first_asked a.items) asks ∙ h.asks ∙ sym (map_kept (waits_at (length s.exchanges)) s.customers n (λ d. refl)) ∙ ap (λ (cs : List Customer). map asked_in (change_at (waits_at (length s.exchanges)) cs n)) (sym same);
        served = subst (λ a. AreServed o.tables a.items) (sym asks) h.served;
        clock_is = clock ∙ h.clock ∙ sym (same_clock o s m h asked false target false);
        hold = hold ∙ h.hold;
        defined = h.defined;
      })
      r.server r.exchanges r.outs r.lasts)

-- what a client asks for, by the length of its target
pub long_is : (o : Options) (s : Situation) (c : Customer) → is_long (next_target c) ≡ true → requested o s c ≡ request o s false None (Refuses codes.HeadTooLong) false
long_is o s c e = ap (λ b. if b then request o s false None (Refuses codes.HeadTooLong) false else request o s false (Some (next_target c)) (next_asked c) false) e

pub short_is : (o : Options) (s : Situation) (c : Customer) → is_long (next_target c) ≡ false → requested o s c ≡ request o s false (Some (next_target c)) (next_asked c) false
short_is o s c e = ap (λ b. if b then request o s false None (Refuses codes.HeadTooLong) false else request o s false (Some (next_target c)) (next_asked c) false) e

pub either_way : (b : Bool) {P : Type 0} → (b ≡ true → P) → (b ≡ false → P) → P
either_way true first second = first refl
either_way false first second = second refl
