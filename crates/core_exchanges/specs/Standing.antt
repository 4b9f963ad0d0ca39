-- Which exchanges of the definitions the exchanges of a program stand for.
use Rattle.std.specs.Prelude.{◌≡◌, ℕ, Bool, false, ◌&&◌, nat_lt, List, [], ◌∷◌, length, Option, None, Some, is_none, slice_get}
use Rattle.std.specs.List.Sorted.{IsStrictlySortedBy}
use Rattle.std.specs.Ordering.{nat_cmp}
use Rattle.shape_base.specs.declared.reply.Reply.{Reply}
use Rattle.http_edge.specs.Lawful as lawful
use Rattle.fold_client.specs.Following.{Heard}
use Rattle.core_law.specs.Situation as law
use Rattle.core_law.specs.Waiting.{awaited}
use Rattle.core_law.specs.Clients.{exchange_limit}
use Rattle.core_exchanges.specs.declared.exchange.Asked.{Asked}
use Rattle.core_exchanges.specs.declared.exchange.Asked.TheVariants as asks
use Rattle.core_exchanges.specs.declared.exchange.Role.{Role}
use Rattle.core_exchanges.specs.declared.exchange.Role.TheVariants as roles
use Rattle.core_exchanges.specs.declared.exchange.Exchange.{Exchange}
use Rattle.core_exchanges.specs.declared.exchanges.Exchanges.{Exchanges}
use Rattle.core_exchanges.specs.Indexing.{is_among, is_number, is_open_in, awaits_in}

abbrev pub asked_of : Asked → lawful.Asked
asked_of (asks.Refused code) = lawful.Refuses code
asked_of (asks.AsksFor ask) = lawful.AsksFor ask

abbrev pub role_of : Role → law.Role
role_of roles.Reads = law.Reads
role_of (roles.Waits n) = law.Waits n
role_of (roles.Owns n) = law.Owns n
role_of roles.HasNone = law.HasNone

-- the reply that was given, to what was asked
pub record IsHeard (reply : Reply) (asked : lawful.Asked) (h : Heard) : Type 0 where
  pub reply_is : h.given.reply ≡ reply
  pub asked_is : h.asked ≡ asked

-- both were given it, or neither
abbrev pub AreGiven : Option Reply → lawful.Asked → Option Heard → Type 0
AreGiven None asked None = Unit {0}
AreGiven None asked (Some h) = ⊥
AreGiven (Some reply) asked None = ⊥
AreGiven (Some reply) asked (Some h) = IsHeard reply asked h

-- an exchange has what the other has; of what was heard it has the reply
pub record StandsFor (e : Exchange) (x : law.Exchange) : Type 0 where
  pub outside : e.outside ≡ x.outside
  pub target : e.target ≡ x.target
  pub asked : asked_of e.asked ≡ x.asked
  pub close : e.close ≡ x.close
  pub moment : e.moment ≡ x.moment
  pub role : role_of e.role ≡ x.role
  pub given : AreGiven e.given x.asked x.given

-- each in its place
abbrev pub EachStands : List Exchange → List law.Exchange → Type 0
EachStands [] [] = Unit {0}
EachStands [] (x ∷ xs) = ⊥
EachStands (e ∷ es) [] = ⊥
EachStands (e ∷ es) (x ∷ xs) = StandsFor e x × EachStands es xs

-- one stands for the other, or both are absent
abbrev pub StandsThere : Option Exchange → Option law.Exchange → Type 0
StandsThere None None = Unit {0}
StandsThere None (Some x) = ⊥
StandsThere (Some e) None = ⊥
StandsThere (Some e) (Some x) = StandsFor e x

-- ---- those without a reply

abbrev pub is_open : law.Exchange → Bool
is_open x = is_none x.given

-- it has no reply, and awaits the number
abbrev pub awaits : ℕ → law.Exchange → Bool
awaits n x = is_open x && is_number n (awaited x.asked x.role)

-- what passes a test is there
abbrev pub is_there : (law.Exchange → Bool) → Option law.Exchange → Bool
is_there test None = false
is_there test (Some x) = test x

abbrev pub passes_at : (law.Exchange → Bool) → List law.Exchange → ℕ → Bool
passes_at test xs place = is_there test (slice_get xs place)

-- The places of exactly those that pass a test, rising.
pub record ArePlaces (test : law.Exchange → Bool) (xs : List law.Exchange) (places : List ℕ) : Type 0 where
  pub rising : IsStrictlySortedBy nat_cmp places
  pub exact : (place : ℕ) → is_among place places ≡ passes_at test xs place

-- The exchanges stand for these: there are as many, each stands for the one in its place, and those without a reply are found by their places and by the number that they await.
pub record Stands (t : Exchanges) (xs : List law.Exchange) : Type 0 where
  pub each : EachStands t.items.items xs
  pub unanswered : (place : ℕ) → is_open_in t.indexes place ≡ passes_at is_open xs place
  pub awaiting : (n place : ℕ) → awaits_in t.indexes n place ≡ passes_at (awaits n) xs place

-- there is room for one more
abbrev pub has_space : Exchanges → Bool
has_space t = nat_lt (length t.items.items) exchange_limit
