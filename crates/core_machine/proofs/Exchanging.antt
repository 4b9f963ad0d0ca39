-- An exchange that a request makes, and one whose head was cut off.
use Rattle.std.proofs.Common.{◌≡◌, ℕ, Bool, true, false, List, [], ◌∷◌, ◌++◌, length, map, refl, sym, ap, subst, ◌∙◌, Option, None, Some}
use Rattle.std.specs.Prelude.{slice_get, nat_lt}
use Rattle.std.specs.Bool.{if◌then◌else◌}
use Rattle.std.proofs.lemmas.List.{append-nil}
use Rattle.http_edge.specs.declared.error_code.ErrorCode.{ErrorCode}
use Rattle.http_edge.specs.declared.error_code.ErrorCode.TheVariants as codes
use Rattle.http_edge.specs.Lawful.{Asked, Refuses}
use Rattle.fold_client.specs.Following.{Heard}
use Rattle.core_events.specs.declared.out.Out.{Out}
use Rattle.core_events.specs.declared.out.Out.TheVariants as outs
use Rattle.core_events.specs.declared.out.StepError.TheVariants as errors
use Rattle.core_law.specs.Situation.{Options, Server, HasNone, Exchange, Situation}
use Rattle.core_law.specs.Steps.{with_exchange, with_role, exchange_at, refused_at, settled_one, settled, request}
use Rattle.core_law.specs.Clients.{Turn, Goes, Stops, finished, never, exchange_limit, has_room}
use Rattle.core_exchanges.proofs.Standings.{same_length}
use Rattle.core_law.specs.Clients as law
use Rattle.core_law.specs.Run.{RequestCame, HeadCut, turn_of, next_of}
use Rattle.core_law.specs.Laws.{IsStart}
use Rattle.core_law.specs.Reached.{IsReached, WasGiven, AsksOfTable}
use Rattle.core_law.proofs.Lemmas.{reached_next, roles_are_given, others_wait}
use Rattle.core_server.specs.declared.server.Server.{Server as KeptServer}
use Rattle.core_server.specs.Standing as server
use Rattle.core_exchanges.specs.declared.exchanges.Exchanges.{Exchanges}
use Rattle.core_exchanges.specs.Standing as exchanges
use Rattle.core_machine.specs.declared.machine.Machine.{Machine}
use Rattle.core_machine.specs.Replying.{answered_in, refusal_of}
use Rattle.core_machine.specs.Answering.{AreGivenNumbers, Halfway, Answered, text_at}
use Rattle.core_machine.specs.Opening.{Opening, opening_of, IsRequested, SparesClients}
use Rattle.core_machine.specs.Standing.{lasts_of, AreOfTables, Stands}
use Rattle.core_machine.specs.Turns.{GoesOn}
use Rattle.core_machine.proofs.Requests.{refused_as, request_is, comes, server_is, opening_settles}
use Rattle.core_machine.proofs.Turning.{settles, said_more}

-- ---- roles

role_settled : (o : Options) (v : Server) (late : Exchange → Bool) (x : Exchange) (g : Option Heard) → (settled_one o v late x g).role ≡ x.role
role_settled o v late x None = refl
role_settled o v late x (Some h) = refl

pub roles_back : (o : Options) (v : Server) (xs : List Exchange) → AreGivenNumbers v (map (λ (x : Exchange). settled_one o v never x x.given) xs) → AreGivenNumbers v xs
roles_back o v [] h = tt
roles_back o v (x ∷ xs) h = (subst (WasGiven v) (role_settled o v never x x.given) h.0, roles_back o v xs h.1)

roles_swap : (v : Server) (xs : List Exchange) (x y : Exchange) → x.role ≡ y.role → AreGivenNumbers v (xs ++ x ∷ []) → AreGivenNumbers v (xs ++ y ∷ [])
roles_swap v [] x y e h = (subst (WasGiven v) e h.0, tt)
roles_swap v (z ∷ xs) x y e h = (h.0, roles_swap v xs x y e h.1)

refused_role : (v : Server) (code : Option ErrorCode) (x : Exchange) → (refused_as v code x).role ≡ x.role
refused_role v None x = refl
refused_role v (Some code) x = refl

pub all_more : (o : Options) (xs : List Exchange) (x : Exchange) → AreOfTables o xs → AsksOfTable o x.asked → AreOfTables o (xs ++ x ∷ [])
all_more o [] x h k = (k, tt)
all_more o (y ∷ xs) x h k = (h.0, all_more o xs x h.1 k)

-- ---- a request

module _ (o : Options) (s : Situation) (start : IsStart o) (reached : IsReached o s) (tables : AreOfTables o s.exchanges) (asked : Asked) (room : has_room s ≡ true) where
  abbrev op : Opening
  op = opening_of o s.server asked

  -- a situation to which events lead, with the server after the request
  abbrev pub came : Situation
  came = next_of s (turn_of o s (RequestCame None asked false))

  pub came_server : came.server ≡ op.server
  came_server = server_is o s None asked false room

  came_is : came ≡ settled o never (request o s true None asked false)
  came_is = ap (next_of s) (comes o s None asked false room)

  came_exchanges : came.exchanges ≡ map (λ (x : Exchange). settled_one o op.server never x x.given) (s.exchanges ++ refused_as op.server op.refusal (with_role op.role (exchange_at true None asked false s.clock)) ∷ [])
  came_exchanges = ap (λ (t : Situation). t.exchanges) came_is ∙ ap (λ (t : Situation). (settled o never t).exchanges) (request_is o s true None asked false)

  roles_new : (x : Exchange) → x.role ≡ op.role → AreGivenNumbers op.server (s.exchanges ++ x ∷ [])
  roles_new x same = roles_swap op.server s.exchanges (refused_as op.server op.refusal (with_role op.role (exchange_at true None asked false s.clock))) x (refused_role op.server op.refusal (with_role op.role (exchange_at true None asked false s.clock)) ∙ sym same)
      (roles_back o op.server (s.exchanges ++ refused_as op.server op.refusal (with_role op.role (exchange_at true None asked false s.clock)) ∷ [])
      (subst (AreGivenNumbers op.server) came_exchanges (subst (λ (v : Server). AreGivenNumbers v came.exchanges) came_server (roles_are_given o came (reached_next o s (RequestCame None asked false) reached)))))

  pub halfway_new : (x : Exchange) (v : KeptServer) (t : Exchanges) → x.role ≡ op.role → server.Stands o op.server v → exchanges.Stands t (s.exchanges ++ x ∷ []) → Halfway o came (s.exchanges ++ x ∷ []) v t
  halfway_new x v t role stands there = record {
    start = start;
    reached = reached_next o s (RequestCame None asked false) reached;
    server = subst (λ (w : Server). server.Stands o w v) (sym came_server) stands;
    exchanges = there;
    roles = subst (λ (w : Server). AreGivenNumbers w (s.exchanges ++ x ∷ [])) (sym came_server) (roles_new x role);
  }

  module _ (outside : Bool) (target : Option (List ℕ)) (close : Bool) where
    abbrev t : Situation
    t = request o s outside target asked close

    abbrev pub new_exchange : Exchange
    new_exchange = with_role op.role (exchange_at outside target asked close s.clock)

    server_same : t.server ≡ op.server
    server_same = ap (λ (u : Situation). u.server) (request_is o s outside target asked close)

    exchanges_same : t.exchanges ≡ s.exchanges ++ refused_as t.server op.refusal new_exchange ∷ []
    exchanges_same = ap (λ (u : Situation). u.exchanges) (request_is o s outside target asked close) ∙ ap (λ (v : Server). s.exchanges ++ refused_as v op.refusal new_exchange ∷ []) (sym server_same)

    pub requested : (old m : Machine) (before now : List Out) (i : ℕ) → i ≡ length s.exchanges → server.Stands o op.server m.server → m.lasts.items ≡ lasts_of op.server
        → Answered o came (Rattle.core_law.specs.Steps.change_at (answered_in o came.server false (refusal_of i op.refusal) i) (s.exchanges ++ new_exchange ∷ []) i) m.server m.exchanges before now (text_at (answered_in o came.server false (refusal_of i op.refusal)) i (slice_get (s.exchanges ++ new_exchange ∷ []) i))
        → IsRequested o s t old m before now i
    requested old m before now i is stands lasts answered =
        let same : came.server ≡ t.server = came_server ∙ sym server_same in
        let a = subst (λ (v : Server). Answered o came (Rattle.core_law.specs.Steps.change_at (answered_in o v false (refusal_of i op.refusal) i) (s.exchanges ++ new_exchange ∷ []) i) m.server m.exchanges before now (text_at (answered_in o v false (refusal_of i op.refusal)) i (slice_get (s.exchanges ++ new_exchange ∷ []) i))) same answered in
        let b = subst (λ (k : ℕ). Answered o came (Rattle.core_law.specs.Steps.change_at (answered_in o t.server false (refusal_of k op.refusal) k) (s.exchanges ++ new_exchange ∷ []) k) m.server m.exchanges before now (text_at (answered_in o t.server false (refusal_of k op.refusal)) k (slice_get (s.exchanges ++ new_exchange ∷ []) k))) is a in
        let settled_ = settles o s t never (answered_in o t.server false (refusal_of (length s.exchanges) op.refusal)) (length s.exchanges ∷ []) (s.exchanges ++ new_exchange ∷ [])
        (opening_settles others_wait o s t new_exchange asked start reached tables room refl server_same exchanges_same) in
        record {
          index_is = is;
          server = subst (λ (v : Server). server.Stands o v m.server) (sym server_same) stands;
          exchanges = subst (λ (ys : List Exchange). exchanges.Stands m.exchanges ys) (sym settled_.same) b.halfway.exchanges;
          outs = b.outs ∙ ap (λ ts. before ++ ts) (sym (append-nil (text_at (answered_in o t.server false (refusal_of (length s.exchanges) op.refusal)) (length s.exchanges) (slice_get (s.exchanges ++ new_exchange ∷ []) (length s.exchanges)))) ∙ settled_.texts);
          lasts = lasts ∙ ap lasts_of (sym server_same);
        }

-- there is room in the exchanges exactly where there is in the situation
pub space_room : (t : Exchanges) (s : Situation) → exchanges.Stands t s.exchanges → exchanges.has_space t ≡ has_room s
space_room t s h = ap (λ n. nat_lt n exchange_limit) (same_length t.items.items s.exchanges h.each)

-- ---- a head that was cut off

abbrev pub cut_exchange : Situation → Exchange
cut_exchange s = with_role HasNone (exchange_at true None (Refuses codes.BadHead) false s.clock)

pub cuts : (o : Options) (s : Situation) (m m' : Machine) (i : ℕ) (now : List Out) → Stands o s m → has_room s ≡ true → i ≡ length s.exchanges → exchanges.Stands m'.exchanges (s.exchanges ++ cut_exchange s ∷ []) → now ≡ outs.Cut i ∷ [] → m'.server ≡ m.server → SparesClients m m' → m'.lasts ≡ m.lasts
    → GoesOn o (turn_of o s HeadCut) now m'
cuts o s m m' i now h room is there texts server_ spares lasts =
    let turn : turn_of o s HeadCut ≡ Goes (law.Cut (length s.exchanges) ∷ []) (with_exchange s (cut_exchange s)) = ap (λ b. if b then Goes (law.Cut (length s.exchanges) ∷ []) (with_exchange s (cut_exchange s)) else Stops errors.TooManyExchanges) room in
    subst (λ (t : Turn). GoesOn o t now m') (sym turn) (
      subst (λ (ts : List Out). Rattle.core_machine.specs.Turns.AreOuts (with_exchange s (cut_exchange s)).exchanges (law.Cut (length s.exchanges) ∷ []) ts) (sym texts) (ap outs.Cut is, tt),
      record {
        start = h.start;
        reached = subst (IsReached o) (ap (next_of s) turn) (reached_next o s HeadCut h.reached);
        server = subst (λ v. server.Stands o s.server v) (sym server_) h.server;
        exchanges = there;
        clients = subst (λ c. Rattle.core_clients.specs.Standing.Stands c s.customers) (sym spares.clients) h.clients;
        asks = ap (λ a. map Rattle.core_machine.specs.Firsts.first_asked a.items) spares.asks ∙ h.asks;
        served = subst (λ a. Rattle.core_machine.specs.Firsts.AreServed o.tables a.items) (sym spares.asks) h.served;
        clock = spares.clock ∙ h.clock;
        hold = spares.hold ∙ h.hold;
        lasts = ap (λ l. l.items) lasts ∙ h.lasts;
        said = said_more s.exchanges (cut_exchange s) h.said tt;
        of_tables = all_more o s.exchanges (cut_exchange s) h.of_tables tt;
        defined = h.defined;
      },
    )
