-- What holds of each situation that events lead to.
use Rattle.std.proofs.Common.{◌≡◌, ℕ, Bool, true, false, ◌&&◌, ◌||◌, ◌==◌, List, [], ◌∷◌, refl, sym, subst}
use Rattle.std.specs.List.{list_any, AllByRecursion}
use Rattle.shape_base.specs.declared.registry_event.RegistryEvent.{RegistryEvent}
use Rattle.shape_base.specs.Tables.{same_text}
use Rattle.shape_base.specs.RegistryHistory.{Registration, registrations, was_registered, was_registered_under}
use Rattle.http_edge.specs.Lawful.{Asked}
use Rattle.core_law.specs.Situation.{Options, Server, Role, Reads, Waits, Owns, HasNone, Exchange, Situation, at_start}
use Rattle.core_law.specs.Run.{after}
use Rattle.core_law.specs.Laws.{IsStart}
use Rattle.core_law.specs.Reached.{IsReached, WasGiven, RolesAreGiven}
use Rattle.core_law.proofs.Server.{Sound}
use Rattle.core_law.proofs.Replies.{HasRole}
use Rattle.core_law.proofs.Turns.{all_to}
use Rattle.core_law.proofs.Whole.{sound_after, roles_after}

pub reached_sound : (o : Options) (s : Situation) → IsStart o → IsReached o s → Sound o s.server
reached_sound o s start r = subst (λ (t : Situation). Sound o t.server) (sym r.is) (sound_after o r.events start)

-- ---- roles

any_if : (identity : List ℕ) (n : ℕ) (x : Registration) (xs : List Registration) (a b : Bool) → ((a && b) || list_any (λ (r : Registration). (r.number == n) && same_text r.identity identity) xs) ≡ true
    → (list_any (λ (r : Registration). (r.number == n) && same_text r.identity identity) xs ≡ true → list_any (λ (r : Registration). r.number == n) xs ≡ true) → (a || list_any (λ (r : Registration). r.number == n) xs) ≡ true
any_if identity n x xs true b h more = refl
any_if identity n x xs false b h more = more h

any_number : (identity : List ℕ) (n : ℕ) (xs : List Registration) → list_any (λ (r : Registration). (r.number == n) && same_text r.identity identity) xs ≡ true → list_any (λ (r : Registration). r.number == n) xs ≡ true
any_number identity n [] h = h
any_number identity n (x ∷ xs) h = any_if identity n x xs (x.number == n) (same_text x.identity identity) h (any_number identity n xs)

-- a number that was registered under an identity was registered
pub was_under : (es : List RegistryEvent) (identity : List ℕ) (n : ℕ) → was_registered_under es identity n ≡ true → was_registered es n ≡ true
was_under es identity n h = any_number identity n (registrations es) h

role_given : (v : Server) (asked : Asked) (role : Role) → HasRole v asked role → WasGiven v role
role_given v asked Reads has = tt
role_given v asked (Waits n) has = was_under v.registry has.ask.identity n has.under
role_given v asked (Owns n) has = was_under v.registry has.ask.identity n has.under
role_given v asked HasNone has = tt

pub roles_are_given : RolesAreGiven
roles_are_given o s r = subst (λ (t : Situation). AllByRecursion (λ (x : Exchange). WasGiven t.server x.role) t.exchanges) (sym r.is)
    (all_to (λ (x : Exchange). HasRole (after o at_start r.events).server x.asked x.role) (λ (x : Exchange). WasGiven (after o at_start r.events).server x.role) (after o at_start r.events).exchanges
    (λ x has. role_given (after o at_start r.events).server x.asked x.role has) (roles_after o r.events))
