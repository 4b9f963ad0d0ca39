-- A machine that answered its exchanges stands for the next situation.
use Rattle.std.proofs.Common.{◌≡◌, ℕ, zero, suc, Bool, true, false, List, [], ◌∷◌, ◌++◌, length, map, refl, sym, ap, subst, ◌∙◌, Option, None, Some}
use Rattle.std.specs.Prelude.{slice_get, IfSome}
use Rattle.std.specs.Bool.{if◌then◌else◌}
use Rattle.std.specs.Option.{option_map, option_or}
use Rattle.std.specs.Ordering.{nat_cmp}
use Rattle.std.specs.List.{AllByRecursion}
use Rattle.std.specs.List.Sorted.{IsStrictlySortedBy}
use Rattle.http_edge.specs.declared.error_code.ErrorCode.{ErrorCode}
use Rattle.http_edge.specs.Lawful.{Asked, Refuses}
use Rattle.fold_client.specs.Client.{Says}
use Rattle.fold_client.specs.Following.{Heard}
use Rattle.core_events.specs.declared.out.Out.{Out}
use Rattle.core_law.specs.Situation.{Options, Server, Reads, Role, Exchange, Customer, Situation}
use Rattle.core_law.specs.Steps.{Written, change_at, refused_with, heard_at, reply_now, settled_one, settled, refused_at}
use Rattle.core_law.specs.Clients.{given_now, finished, Turn, Goes, Stops}
use Rattle.core_law.specs.Laws.{IsStart}
use Rattle.core_law.specs.Reached.{IsReached, HaveShortLogs, AsksOfTable, RepliesSay}
use Rattle.core_exchanges.specs.Indexing.{is_among}
use Rattle.core_server.specs.Standing as server
use Rattle.core_exchanges.specs.Standing as exchanges
use Rattle.core_clients.specs.Standing as clients
use Rattle.core_machine.specs.declared.machine.Machine.{Machine}
use Rattle.core_machine.specs.Firsts.{first_asked, AreServed}
use Rattle.core_machine.specs.Answering.{settled_at, texts_at, texts_now}
use Rattle.core_machine.specs.Standing.{lasts_of, AreSaid, AreOfTables, IsSituated}
use Rattle.core_machine.specs.Turns.{AreOuts, GoesOn}
use Rattle.core_machine.proofs.Finishing.{all_outs, AreInside, texts_are, settled_is}

-- ---- what bodies say

abbrev pub IsSaid : Exchange → Type 0
IsSaid x = IfSome x.given (λ (h : Heard). Says h.given.reply.body h.body)

module _ (say : RepliesSay) (o : Options) (s : Situation) (start : IsStart o) (reached : IsReached o s) (short : HaveShortLogs s.server) where
  said_option : (late : Bool) (asked : Asked) (role : Role) (w : Option Written) → reply_now o s.server late asked role ≡ w → IfSome (option_map (heard_at s.server asked) w) (λ (h : Heard). Says h.given.reply.body h.body)
  said_option late asked role None e = tt
  said_option late asked role (Some w) e = say o s late asked role w start reached short e

  said_one : (late : Exchange → Bool) (x : Exchange) (g : Option Heard) → x.given ≡ g → IsSaid x → IsSaid (settled_one o s.server late x g)
  said_one late x (Some h) e is = is
  said_one late x None e is = said_option (late x) x.asked x.role (reply_now o s.server (late x) x.asked x.role) refl

  pub said_settled : (late : Exchange → Bool) (xs : List Exchange) → AreSaid xs → AreSaid (map (λ (x : Exchange). settled_one o s.server late x x.given) xs)
  said_settled late [] h = tt
  said_settled late (x ∷ xs) h = (said_one late x x.given refl h.0, said_settled late xs h.1)

  pub said_refusal : (code : ErrorCode) → Says (refused_with code).reply.body (refused_with code).body
  said_refusal code = say o s false (Refuses code) Reads (refused_with code) start reached short refl

  said_or : (code : ErrorCode) (asked : Asked) (g : Option Heard) → IfSome g (λ (h : Heard). Says h.given.reply.body h.body) → IfSome (option_or g (Some (heard_at s.server asked (refused_with code)))) (λ (h : Heard). Says h.given.reply.body h.body)
  said_or code asked None h = said_refusal code
  said_or code asked (Some g) h = h

  pub said_refused : (code : ErrorCode) (x : Exchange) → IsSaid x → IsSaid (refused_at s.server code x)
  said_refused code x is = said_or code x.asked x.given is

pub said_changed : (f : Exchange → Exchange) (xs : List Exchange) (i : ℕ) → ((x : Exchange) → IsSaid x → IsSaid (f x)) → AreSaid xs → AreSaid (change_at f xs i)
said_changed f [] i keeps h = tt
said_changed f (x ∷ xs) zero keeps h = (keeps x h.0, h.1)
said_changed f (x ∷ xs) (suc i) keeps h = (h.0, said_changed f xs i keeps h.1)

pub said_more : (xs : List Exchange) (x : Exchange) → AreSaid xs → IsSaid x → AreSaid (xs ++ x ∷ [])
said_more [] x h is = (is, tt)
said_more (y ∷ xs) x h is = (h.0, said_more xs x h.1 is)

-- ---- the next situation

-- What was answered: the places, each exchange as the definitions settle it, and the texts.
pub record Settling (o : Options) (s t : Situation) (late : Exchange → Bool) (f : ℕ → Exchange → Exchange) (places : List ℕ) (xs : List Exchange) : Type 0 where
  pub sorted : IsStrictlySortedBy nat_cmp places
  pub among : AllByRecursion (λ (p : ℕ). is_among p places ≡ true) places
  pub inside : AreInside xs places
  pub agree : (q : ℕ) → option_map (λ (x : Exchange). settled_one o t.server late x x.given) (slice_get t.exchanges q) ≡ (if is_among q places then option_map (f q) (slice_get xs q) else slice_get xs q)
  pub before : texts_now 0 xs (settled_at f places xs) ≡ texts_now 0 s.exchanges (settled_at f places xs)

-- what of the machine stands already
pub record Around (o : Options) (customers : List Customer) (clock : ℕ) (m : Machine) : Type 0 where
  pub clients : clients.Stands m.clients customers
  pub asks : map first_asked m.asks.items ≡ map (λ (c : Customer). c.asked) customers
  pub served : AreServed o.tables m.asks.items
  pub clock_is : m.clock ≡ clock
  pub hold : m.hold ≡ o.limits.hold
  pub defined : length o.catalog ≡ length o.tables

settled_asked : (o : Options) (v : Server) (late : Exchange → Bool) (x : Exchange) (g : Option Heard) → (settled_one o v late x g).asked ≡ x.asked
settled_asked o v late x None = refl
settled_asked o v late x (Some h) = refl

of_tables_settled : (o : Options) (v : Server) (late : Exchange → Bool) (xs : List Exchange) → AreOfTables o xs → AreOfTables o (map (λ (x : Exchange). settled_one o v late x x.given) xs)
of_tables_settled o v late [] h = tt
of_tables_settled o v late (x ∷ xs) h = (subst (AsksOfTable o) (sym (settled_asked o v late x x.given)) h.0, of_tables_settled o v late xs h.1)

pub record Settles (o : Options) (s t : Situation) (late : Exchange → Bool) (f : ℕ → Exchange → Exchange) (places : List ℕ) (xs : List Exchange) : Type 0 where
  pub same : (settled o late t).exchanges ≡ settled_at f places xs
  pub texts : texts_at f places xs ≡ texts_now 0 s.exchanges (settled o late t).exchanges

pub settles : (o : Options) (s t : Situation) (late : Exchange → Bool) (f : ℕ → Exchange → Exchange) (places : List ℕ) (xs : List Exchange) → Settling o s t late f places xs → Settles o s t late f places xs
settles o s t late f places xs settling =
    let same = settled_is o t.server late f places xs t.exchanges settling.sorted settling.agree in record {
      same = same;
      texts = texts_are f places xs settling.sorted settling.among settling.inside ∙ settling.before ∙ ap (texts_now 0 s.exchanges) (sym same);
    }

pub goes : (say : RepliesSay) (o : Options) (s t : Situation) (late : Exchange → Bool) (m : Machine) (outs : List Out) → IsStart o → IsReached o (settled o late t) → HaveShortLogs t.server → AreSaid t.exchanges → AreOfTables o t.exchanges → Around o t.customers t.clock m
    → server.Stands o t.server m.server → exchanges.Stands m.exchanges (settled o late t).exchanges → outs ≡ texts_now 0 s.exchanges (settled o late t).exchanges → m.lasts.items ≡ lasts_of t.server → GoesOn o (finished o late s t) outs m
goes say o s t late m outs start reached short said of_tables around server exchanges texts lasts =
    let next = settled o late t in (
      subst (AreOuts next.exchanges (given_now 0 s.exchanges next.exchanges)) (sym texts) (all_outs s.exchanges next.exchanges),
      record {
        start = start;
        reached = reached;
        server = server;
        exchanges = exchanges;
        clients = around.clients;
        asks = around.asks;
        served = around.served;
        clock = around.clock_is;
        hold = around.hold;
        lasts = lasts;
        said = said_settled say o next start reached short late t.exchanges said;
        of_tables = of_tables_settled o t.server late t.exchanges of_tables;
        defined = around.defined;
      },
    )

-- what goes on stands for some situation
pub situated : (o : Options) (t : Turn) (outs : List Out) (m : Machine) → GoesOn o t outs m → IsSituated m
situated o (Goes expected next) outs m h = record { options = o; situation = next; stands = h.1 }
situated o (Stops error) outs m h = absurd h
