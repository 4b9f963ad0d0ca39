-- A client that joins, and one that takes a reply.
use Rattle.std.proofs.Common.{◌≡◌, ℕ, zero, suc, Bool, true, false, List, [], ◌∷◌, ◌++◌, map, refl, sym, ap, subst, ◌∙◌, Option, None, Some}
use Rattle.std.specs.Prelude.{slice_get, is_none, IfSome, IfOk, Result, Ok, Err}
use Rattle.std.specs.Bool.{if◌then◌else◌}
use Rattle.std.specs.Option.{option_map}
use Rattle.std.specs.List.{AllByRecursion}
use Rattle.std.proofs.lemmas.Option.{slice_get-map}
use Rattle.shape_base.specs.declared.ask.Ask.{Ask}
use Rattle.shape_base.specs.declared.served.Served.{Served}
use Rattle.shape_base.specs.declared.reply.Reply.{Reply}
use Rattle.shape_base.specs.declared.registry_event.RegistryEvent.{RegistryEvent}
use Rattle.shape_base.specs.RegistryHistory.{had_ready}
use Rattle.shape_registry.specs.declared.found.Found.TheVariants as found
use Rattle.shape_registry.specs.ByHistory.{found_under}
use Rattle.http_edge.specs.Lawful.{Asked, Refuses, AsksFor}
use Rattle.fold_client.specs.declared.client.Query.{Query}
use Rattle.fold_client.specs.Client.{Says}
use Rattle.fold_client.specs.Following.{Heard}
use Rattle.core_events.specs.declared.out.Out.{Out}
use Rattle.core_events.specs.declared.out.Unfit.TheVariants as unfit
use Rattle.core_law.specs.Situation.{Options, Exchange, Customer, Situation, held_of, next_target, next_asked, placed}
use Rattle.core_law.specs.Steps.{change_at}
use Rattle.core_law.specs.Clients.{Gives, Cut, Block, Refetched, Refused, Turn, Goes, Stops, is_next, took_one, out_of, took_heard, take_heard, take_exchange, take_by, goes_on}
use Rattle.core_law.specs.Clients as law
use Rattle.core_law.specs.Run.{Joined, Receive, next_of, join}
use Rattle.core_law.specs.Reached.{IsReached}
use Rattle.core_law.proofs.Lemmas.{reached_next}
use Rattle.core_exchanges.specs.Standing as exchanges
use Rattle.core_exchanges.specs.Standing.{StandsFor, AreGiven, IsHeard}
use Rattle.core_clients.specs.declared.follower.Received.{Received}
use Rattle.core_clients.specs.Outs.{IsOfClient, AreOfClient}
use Rattle.core_clients.specs.Standing as clients
use Rattle.core_clients.specs.Placing.{placed_ask}
use Rattle.core_clients.specs.Taking.{IsReceived, IsReceivedBy, after_of}
use Rattle.core_clients.specs.Taking as taking
use Rattle.core_machine.specs.declared.first.First.{First}
use Rattle.core_machine.specs.declared.machine.Machine.{Machine}
use Rattle.core_machine.specs.Firsts.{first_asked, IsServedFirst, AreServed}
use Rattle.core_machine.specs.Customers.{is_target, TookIt, Receipt}
use Rattle.core_machine.specs.Standing.{AreSaid, Stands, IsSituated}
use Rattle.core_machine.specs.Turns.{IsOut, AreOuts, GoesOn}
use Rattle.core_machine.proofs.Answers.{all_at}
use Rattle.core_machine.proofs.Turning.{situated}

-- ---- small facts

pub if_ok_to : {A E : Type 0} (r : Result A E) (P Q : A → Type 0) → ((x : A) → P x → Q x) → IfOk r P → IfOk r Q
if_ok_to (Ok x) P Q step h = step x h
if_ok_to (Err e) P Q step h = tt

-- what is found where nothing is live under the identity
pub unregistered_is : (es : List RegistryEvent) (a : Option ℕ) → found.Unregistered ≡ found_under es a → a ≡ None
unregistered_is es None e = refl
unregistered_is es (Some n) e = pick (had_ready es n) e
  where
    pick : (b : Bool) → found.Unregistered ≡ (if b then found.Ready n else found.Starting n) → Some n ≡ None
    pick true e = cc
    pick false e = cc

pub some_there : {A : Type 0} {x y : A} → ◌≡◌ {A = Option A} (Some x) (Some y) → x ≡ y
some_there e = cc

map_more : {A B : Type 0} (f : A → B) (xs : List A) (x : A) → map f (xs ++ x ∷ []) ≡ map f xs ++ f x ∷ []
map_more f [] x = refl
map_more f (y ∷ xs) x = ap (λ zs. f y ∷ zs) (map_more f xs x)

all_more : {A : Type 0} (P : A → Type 0) (xs : List A) (x : A) → AllByRecursion P xs → P x → AllByRecursion P (xs ++ x ∷ [])
all_more P [] x h k = (k, tt)
all_more P (y ∷ xs) x h k = (h.0, all_more P xs x h.1 k)

abbrev pub asked_in : Customer → Asked
asked_in c = c.asked

pub map_kept : (f : Customer → Customer) (cs : List Customer) (n : ℕ) → ((c : Customer) → (f c).asked ≡ c.asked) → map asked_in (change_at f cs n) ≡ map asked_in cs
map_kept f [] n h = refl
map_kept f (c ∷ cs) zero h = ap (λ a. a ∷ map asked_in cs) (h c)
map_kept f (c ∷ cs) (suc n) h = ap (λ zs. c.asked ∷ zs) (map_kept f cs n h)

-- ---- a client that joins

pub joins : (o : Options) (s : Situation) (m m' : Machine) (query : Query) (first : First) → Stands o s m → IsServedFirst m.server.tables first → m'.server ≡ m.server → m'.exchanges ≡ m.exchanges → clients.Stands m'.clients (join s query (first_asked first)).customers
    → m'.asks.items ≡ m.asks.items ++ first ∷ [] → m'.clock ≡ m.clock → m'.hold ≡ m.hold → m'.lasts ≡ m.lasts → Stands o (join s query (first_asked first)) m'
joins o s m m' query first h served server exchanges_ clients_ asks clock hold lasts = record {
  start = h.start;
  reached = reached_next o s (Joined query (first_asked first)) h.reached;
  server = subst (λ v. Rattle.core_server.specs.Standing.Stands o s.server v) (sym server) h.server;
  exchanges = subst (λ t. exchanges.Stands t s.exchanges) (sym exchanges_) h.exchanges;
  clients = clients_;
  asks = ap (map first_asked) asks ∙ map_more first_asked m.asks.items first ∙ ap (λ zs. zs ++ first_asked first ∷ []) h.asks ∙ sym (map_more asked_in s.customers (record { query = query; asked = first_asked first; waiting = None; took = [] }));
  served = subst (AreServed o.tables) (sym asks) (all_more (IsServedFirst o.tables) m.asks.items first h.served (subst (λ (ts : List Served). IsServedFirst ts first) h.server.tables served));
  clock = clock ∙ h.clock;
  hold = hold ∙ h.hold;
  lasts = ap (λ l. l.items) lasts ∙ h.lasts;
  said = h.said;
  of_tables = h.of_tables;
  defined = h.defined;
}

-- ---- what a client asks for next

pub first_there : {P : Type 0} (o : Options) (s : Situation) (m : Machine) (n : ℕ) (first : First) → Stands o s m → slice_get m.asks.items n ≡ Some first
    → ((c : Customer) → slice_get s.customers n ≡ Some c → c.asked ≡ first_asked first → P) → P
first_there {P} o s m n first h at go = pick (slice_get s.customers n) refl
    (sym (slice_get-map first_asked m.asks.items n ∙ ap (option_map first_asked) at) ∙ ap (λ (zs : List Asked). slice_get zs n) h.asks ∙ slice_get-map asked_in s.customers n)
  where
    pick : (a : Option Customer) → slice_get s.customers n ≡ a → Some (first_asked first) ≡ option_map asked_in (slice_get s.customers n) → P
    pick None is e = let k : ◌≡◌ {A = Option Asked} (Some (first_asked first)) None = e ∙ ap (option_map asked_in) is in cc
    pick (Some c) is e = let k : ◌≡◌ {A = Option Asked} (Some (first_asked first)) (Some c.asked) = e ∙ ap (option_map asked_in) is in go c is cc

pub nobody_there : (o : Options) (s : Situation) (m : Machine) (n : ℕ) → Stands o s m → slice_get m.asks.items n ≡ None → slice_get s.customers n ≡ None
nobody_there o s m n h at = pick (slice_get s.customers n) refl (sym (slice_get-map first_asked m.asks.items n ∙ ap (option_map first_asked) at) ∙ ap (λ (zs : List Asked). slice_get zs n) h.asks ∙ slice_get-map asked_in s.customers n)
  where
    pick : (a : Option Customer) → slice_get s.customers n ≡ a → None ≡ option_map asked_in (slice_get s.customers n) → slice_get s.customers n ≡ None
    pick None is e = is
    pick (Some c) is e = let k : ◌≡◌ {A = Option Asked} None (Some c.asked) = e ∙ ap (option_map asked_in) is in cc

pub asks_next : (c : Customer) (ask : Ask) → c.asked ≡ AsksFor ask → AsksFor (placed_ask (held_of c) ask) ≡ next_asked c
asks_next c ask e = sym (ap (placed (held_of c)) e)

pub refuses_next : (c : Customer) (code : Rattle.http_edge.specs.declared.error_code.ErrorCode.ErrorCode) → c.asked ≡ Refuses code → Refuses code ≡ next_asked c
refuses_next c code e = sym (ap (placed (held_of c)) e)

pub served_there : (o : Options) (s : Situation) (m : Machine) (n : ℕ) (first : First) → Stands o s m → slice_get m.asks.items n ≡ Some first → IsServedFirst m.server.tables first
served_there o s m n first h at = subst (λ (ts : List Served). IsServedFirst ts first) (sym h.server.tables) (all_at (IsServedFirst o.tables) m.asks.items n first at h.served)

-- ---- a client that takes a reply

client_out : (xs : List Exchange) (a : law.Out) (b : Out) → IsOfClient a b → IsOut xs a b
client_out xs (Gives i h) b is = absurd is
client_out xs (Cut i) b is = absurd is
client_out xs (Block n handle offset rows) b is = is
client_out xs (Refetched n) b is = is
client_out xs (Refused n status) b is = is

pub client_outs : (xs : List Exchange) (as_ : List law.Out) (bs : List Out) → AreOfClient as_ bs → AreOuts xs as_ bs
client_outs xs [] [] h = tt
client_outs xs [] (b ∷ bs) h = absurd h
client_outs xs (a ∷ as_) [] h = absurd h
client_outs xs (a ∷ as_) (b ∷ bs) h = (client_out xs a b h.0, client_outs xs as_ bs h.1)

target_next : (c : Customer) (target : Option (List ℕ)) → is_target target (next_target c) ≡ is_next c target
target_next c None = refl
target_next c (Some text) = refl

-- the reply is heard: what was given to the exchange
pub heard_there : {P : Type 0} (reply : Reply) (asked : Asked) (g : Option Heard) → AreGiven (Some reply) asked g → ((h : Heard) → g ≡ Some h → h.given.reply ≡ reply → P) → P
heard_there reply asked None h go = absurd h
heard_there reply asked (Some k) h go = go k refl h.reply_is

module _ (o : Options) (s : Situation) (n e : ℕ) (c : Customer) (x : Exchange) (h : Heard) (at : slice_get s.customers n ≡ Some c) (there : slice_get s.exchanges e ≡ Some x) (given : x.given ≡ Some h) (next : is_next c x.target ≡ true) where
  takes : take_by s n e (Some c) ≡ took_heard s n c h
  takes = ap (take_exchange s n c) there ∙ ap (λ b. if b then law.is_unfit unfit.NoReply else if is_next c x.target then take_heard s n c x.given else law.is_unfit unfit.WrongAddress) (ap is_none given)
      ∙ ap (λ b. if b then take_heard s n c x.given else law.is_unfit unfit.WrongAddress) next ∙ ap (take_heard s n c) given

  took : (m m' : Machine) (received : Received) → Stands o s m → IsReceived n (after_of c h) received → clients.Stands m'.clients (change_at (took_one h) s.customers n) → m'.server ≡ m.server → m'.exchanges ≡ m.exchanges → m'.asks ≡ m.asks → m'.clock ≡ m.clock → m'.hold ≡ m.hold → m'.lasts ≡ m.lasts
      → GoesOn o (take_by s n e (Some c)) received.outs m'
  took m m' received st is clients_ server exchanges_ asks clock hold lasts = subst (λ (t : Turn). GoesOn o t received.outs m') (sym takes) (
    client_outs s.exchanges (out_of n (after_of c h).held (after_of c h).outcome) received.outs is.outs,
    record {
      start = st.start;
      reached = subst (IsReached o) (ap (next_of s) (ap (take_by s n e) at ∙ takes)) (reached_next o s (Receive n e) st.reached);
      server = subst (λ v. Rattle.core_server.specs.Standing.Stands o s.server v) (sym server) st.server;
      exchanges = subst (λ t. exchanges.Stands t s.exchanges) (sym exchanges_) st.exchanges;
      clients = clients_;
      asks = ap (λ a. map first_asked a.items) asks ∙ st.asks ∙ sym (map_kept (took_one h) s.customers n (λ d. refl));
      served = subst (λ a. AreServed o.tables a.items) (sym asks) st.served;
      clock = clock ∙ st.clock;
      hold = hold ∙ st.hold;
      lasts = ap (λ l. l.items) lasts ∙ st.lasts;
      said = st.said;
      of_tables = st.of_tables;
      defined = st.defined;
    },
  )

  pub took_it : (m m' : Machine) (received : Received) → Stands o s m → IsReceived n (after_of c h) received → clients.Stands m'.clients (change_at (took_one h) s.customers n) → m'.server ≡ m.server → m'.exchanges ≡ m.exchanges → m'.asks ≡ m.asks → m'.clock ≡ m.clock → m'.hold ≡ m.hold → m'.lasts ≡ m.lasts
      → TookIt o s n e c x (Some h) received m'
  took_it m m' received st is clients_ server exchanges_ asks clock hold lasts = (took m m' received st is clients_ server exchanges_ asks clock hold lasts, is.goes)

pub is_next_from : (c : Customer) (target : Option (List ℕ)) (next : List ℕ) → next ≡ next_target c → is_target target next ≡ true → is_next c target ≡ true
is_next_from c target next same e = sym (ap (is_target target) same ∙ target_next c target) ∙ e

-- what a client that is there has asked
pub customer_there : {P : Type 0} (s : Situation) (n : ℕ) (target : List ℕ) → Some target ≡ option_map next_target (slice_get s.customers n) → ((c : Customer) → slice_get s.customers n ≡ Some c → target ≡ next_target c → P) → P
customer_there {P} s n target e go = pick (slice_get s.customers n) refl e
  where
    pick : (a : Option Customer) → slice_get s.customers n ≡ a → Some target ≡ option_map next_target (slice_get s.customers n) → P
    pick None is k = let z : ◌≡◌ {A = Option (List ℕ)} (Some target) None = k ∙ ap (option_map next_target) is in cc
    pick (Some c) is k = let z : ◌≡◌ {A = Option (List ℕ)} (Some target) (Some (next_target c)) = k ∙ ap (option_map next_target) is in go c is cc

pub said_at : (xs : List Exchange) (i : ℕ) (x : Exchange) (h : Heard) → AreSaid xs → slice_get xs i ≡ Some x → x.given ≡ Some h → Says h.given.reply.body h.body
said_at xs i x h said at given = subst (λ (g : Option Heard). IfSome g (λ (k : Heard). Says k.given.reply.body k.body)) given (all_at (λ (y : Exchange). IfSome y.given (λ (k : Heard). Says k.given.reply.body k.body)) xs i x at said)

pub heard_as : (reply : Reply) (h : Heard) → h.given.reply ≡ reply → Says h.given.reply.body h.body → taking.IsHeard reply h
heard_as reply h same says = record { reply_is = same; says = subst (λ (r : Reply). Says r.body h.body) same says }

-- a machine whose client took a reply stands for some situation
took_situated : (o : Options) (s : Situation) (n e : ℕ) (c : Customer) (x : Exchange) (h : Option Heard) (received : Received) (m : Machine) → TookIt o s n e c x h received m → IsSituated m
took_situated o s n e c x None received m h = absurd h
took_situated o s n e c x (Some k) received m h = situated o (take_by s n e (Some c)) received.outs m h.0

pub receipt_situated : (o : Options) (s : Situation) (n e : ℕ) (a : Option Customer) (b : Option Exchange) (received : Received) (m : Machine) → Receipt o s n e a b received m → IsSituated m
receipt_situated o s n e None b received m h = absurd h
receipt_situated o s n e (Some c) None received m h = absurd h
receipt_situated o s n e (Some c) (Some x) received m h = took_situated o s n e c x x.given received m h
