-- Clients and customers, each in its place.
use Rattle.std.specs.Prelude.{slice_get, slice_set}
use Rattle.std.proofs.lemmas.Bool.Decides.{nat_tests}
use Rattle.std.proofs.Common.{◌≡◌, false, nat_lt, ℕ, zero, suc, ◌≤◌, List, [], ◌∷◌, ◌++◌, length, refl, sym, ap, ◌∙◌, subst, Option, None, Some, arith}
use Rattle.std.specs.Option.{option_map, option_and_then}
use Rattle.http_edge.specs.Lawful.{Asked}
use Rattle.fold_client.specs.declared.client.Query.{Query}
use Rattle.fold_client.specs.Client.{nothing_held}
use Rattle.fold_client.specs.Taking.{held_by}
use Rattle.fold_client.specs.Target.{target_text}
use Rattle.core_law.specs.Situation.{Customer, next_target}
use Rattle.core_law.specs.Clients.{waits_at}
use Rattle.core_law.specs.Steps.{change_at}
use Rattle.fold_client.specs.Following.{Heard, Following, follow, followed}
use Rattle.core_clients.specs.declared.follower.Follower.{Follower}
use Rattle.core_clients.specs.Standing.{StandsFor, EachStands}
use Rattle.core_clients.specs.Taking.{IsSpared, EachSpared}

-- ---- replies taken

pub followed_last : (f : Following) (xs : List Heard) (x : Heard) → followed f (xs ++ x ∷ []) ≡ follow (followed f xs) x
followed_last f [] x = refl
followed_last f (y ∷ xs) x = followed_last (follow f y) xs x

-- ---- places

pub same_length : (fs : List Follower) (cs : List Customer) → EachStands fs cs → length fs ≡ length cs
same_length [] [] h = refl
same_length [] (c ∷ cs) h = absurd h
same_length (f ∷ fs) [] h = absurd h
same_length (f ∷ fs) (c ∷ cs) h = ap suc (same_length fs cs h.1)

-- one stands for the other, or both are absent
abbrev pub StandsThere : Option Follower → Option Customer → Type 0
StandsThere None None = Unit {0}
StandsThere None (Some c) = ⊥
StandsThere (Some f) None = ⊥
StandsThere (Some f) (Some c) = StandsFor f c

pub stands_there : (fs : List Follower) (cs : List Customer) (n : ℕ) → EachStands fs cs → StandsThere (slice_get fs n) (slice_get cs n)
stands_there [] [] n h = tt
stands_there [] (c ∷ cs) n h = absurd h
stands_there (f ∷ fs) [] n h = absurd h
stands_there (f ∷ fs) (c ∷ cs) zero h = h.0
stands_there (f ∷ fs) (c ∷ cs) (suc n) h = stands_there fs cs n h.1

pub stands_push : (fs : List Follower) (cs : List Customer) (f : Follower) (c : Customer) → EachStands fs cs → StandsFor f c → EachStands (fs ++ f ∷ []) (cs ++ c ∷ [])
stands_push [] [] f c h k = (k, tt)
stands_push [] (d ∷ cs) f c h k = absurd h
stands_push (g ∷ fs) [] f c h k = absurd h
stands_push (g ∷ fs) (d ∷ cs) f c h k = (h.0, stands_push fs cs f c h.1 k)

-- no customer is past the end
pub changed_past : (g : Customer → Customer) (cs : List Customer) (n : ℕ) → length cs ≤ n → change_at g cs n ≡ cs
changed_past g [] n h = refl
changed_past g (c ∷ cs) zero h = absurd (omega arith)
changed_past g (c ∷ cs) (suc n) h = ap (λ x. c ∷ x) (changed_past g cs n (omega arith))

pub none_past : (cs : List Customer) (n : ℕ) → length cs ≤ n → slice_get cs n ≡ None
none_past [] n h = refl
none_past (c ∷ cs) zero h = absurd (omega arith)
none_past (c ∷ cs) (suc n) h = none_past cs n (omega arith)

-- ---- the client in a place

there : (f : Follower) (c : Customer) (x : Option Follower) (y : Option Customer) → x ≡ Some f → y ≡ Some c → StandsThere x y → StandsFor f c
there f c x y is at h = subst (λ (o : Option Customer). StandsThere (Some f) o) at (subst (λ (o : Option Follower). StandsThere o y) is h)

pub stands_at : (fs : List Follower) (cs : List Customer) (n : ℕ) (f : Follower) (c : Customer) → EachStands fs cs → slice_get fs n ≡ Some f → slice_get cs n ≡ Some c → StandsFor f c
stands_at fs cs n f c h is at = there f c (slice_get fs n) (slice_get cs n) is at (stands_there fs cs n h)

pub stands_changed : (g : Customer → Customer) (f : Follower) (fs : List Follower) (cs : List Customer) (n : ℕ) → EachStands fs cs → ((c : Customer) → slice_get cs n ≡ Some c → StandsFor f (g c)) → EachStands (slice_set fs n f) (change_at g cs n)
stands_changed g f [] [] n h k = tt
stands_changed g f [] (c ∷ cs) n h k = absurd h
stands_changed g f (x ∷ fs) [] n h k = absurd h
stands_changed g f (x ∷ fs) (c ∷ cs) zero h k = (k c refl, h.1)
stands_changed g f (x ∷ fs) (c ∷ cs) (suc n) h k = (h.0, stands_changed g f fs cs n h.1 k)

pub each_spared : (heard : Heard) (f : Follower) (fs : List Follower) (cs : List Customer) (n : ℕ) → EachStands fs cs → ((c : Customer) → slice_get cs n ≡ Some c → IsSpared heard f c) → EachSpared heard (slice_set fs n f) cs n
each_spared heard f [] [] n h k = tt
each_spared heard f [] (c ∷ cs) n h k = absurd h
each_spared heard f (x ∷ fs) [] n h k = absurd h
each_spared heard f (x ∷ fs) (c ∷ cs) zero h k = (k c refl, h.1)
each_spared heard f (x ∷ fs) (c ∷ cs) (suc n) h k = (h.0, each_spared heard f fs cs n h.1 k)

-- where no client has the number, nothing changes
pub stands_past : (g : Customer → Customer) (fs : List Follower) (cs : List Customer) (n : ℕ) → EachStands fs cs → length fs ≤ n → EachStands fs (change_at g cs n)
stands_past g fs cs n h past = let e = same_length fs cs h in subst (EachStands fs) (sym (changed_past g cs n (omega arith))) h

pub no_customer : (fs : List Follower) (cs : List Customer) (n : ℕ) → EachStands fs cs → length fs ≤ n → slice_get cs n ≡ None
no_customer fs cs n h past = let e = same_length fs cs h in none_past cs n (omega arith)

of_there : {A : Type 0} (g : Customer → A) (x : A) (f : Follower) (o : Option Customer) → StandsThere (Some f) o → ((c : Customer) → StandsFor f c → x ≡ g c) → Some x ≡ option_map g o
of_there g x f None h k = absurd h
of_there g x f (Some c) h k = ap Some (k c h)

-- what is asked of the customer in a place is asked of the client there
pub of_customer : {A : Type 0} (g : Customer → A) (x : A) (fs : List Follower) (cs : List Customer) (n : ℕ) (f : Follower) → EachStands fs cs → slice_get fs n ≡ Some f → ((c : Customer) → StandsFor f c → x ≡ g c) → Some x ≡ option_map g (slice_get cs n)
of_customer g x fs cs n f h is k = of_there g x f (slice_get cs n) (subst (λ (o : Option Follower). StandsThere o (slice_get cs n)) is (stands_there fs cs n h)) k

-- a read past the end
pub past_end : (n m : ℕ) → false ≡ nat_lt n m → m ≤ n
past_end n m h = grind (arith, nat_tests)

-- ---- a new client, and one that waits

pub new_stands : (f : Follower) (query : Query) (asked : Asked) → f.client.query ≡ query → held_by f.client ≡ nothing_held → f.waiting ≡ None → StandsFor f (record { query = query; asked = asked; waiting = None; took = [] })
new_stands f query asked q held waiting = record { query = q; held = held; waiting = waiting }

pub waiting_stands : (e : ℕ) (f : Follower) (c : Customer) → StandsFor f c → StandsFor (record { client = f.client; waiting = Some e }) (waits_at e c)
waiting_stands e f c h = record { query = h.query; held = h.held; waiting = refl }

pub same_target : (f : Follower) (c : Customer) → StandsFor f c → target_text f.client.query (held_by f.client) ≡ next_target c
same_target f c h = ap (λ (q : Query). target_text q (held_by f.client)) h.query ∙ ap (target_text c.query) h.held

-- the open exchange of the client in a place
open_there : (f : Follower) (o : Option Customer) → StandsThere (Some f) o → f.waiting ≡ option_and_then (λ (c : Customer). c.waiting) o
open_there f None h = absurd h
open_there f (Some c) h = h.waiting

pub open_at : (fs : List Follower) (cs : List Customer) (n : ℕ) (f : Follower) → EachStands fs cs → slice_get fs n ≡ Some f → f.waiting ≡ option_and_then (λ (c : Customer). c.waiting) (slice_get cs n)
open_at fs cs n f h is = open_there f (slice_get cs n) (subst (λ (o : Option Follower). StandsThere o (slice_get cs n)) is (stands_there fs cs n h))
