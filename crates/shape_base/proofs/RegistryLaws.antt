-- A registry's history with more after it.
use Rattle.std.proofs.Common.{◌≡◌, ℕ, Option, Bool, ◌&&◌, ◌||◌, ◌==◌, List, [], ◌∷◌, ◌++◌, sym, ◌∙◌, ap, subst, append_assoc}
use Rattle.std.specs.List.{list_any, filter_map}
use Rattle.std.proofs.lemmas.List.{append-nil}
use Rattle.std.proofs.lemmas.List.Elements.{filter_map-append}
use Rattle.std.proofs.lemmas.List.Folds.{list_any-append}
use Rattle.shape_base.specs.declared.registry_event.RegistryEvent.{RegistryEvent}
use Rattle.shape_base.specs.Tables.{same_text}
use Rattle.shape_base.specs.RegistryHistory.{registration_in, removal_in, ready_in, was_registered, was_registered_under, was_removed, had_ready, MayFollow, MayAllFollow, IsLegal}

-- what holds of a part of the events holds of it in either piece
any_of_both : {A : Type 0} (part : RegistryEvent → Option A) (test : A → Bool) (es more : List RegistryEvent) → list_any test (filter_map part (es ++ more)) ≡ (list_any test (filter_map part es) || list_any test (filter_map part more))
any_of_both part test es more = ap (list_any test) (filter_map-append part es more) ∙ list_any-append test (filter_map part es) (filter_map part more)

pub was_registered-append : (es more : List RegistryEvent) (number : ℕ) → was_registered (es ++ more) number ≡ (was_registered es number || was_registered more number)
was_registered-append es more number = any_of_both registration_in (λ r. r.number == number) es more

pub was_registered_under-append : (es more : List RegistryEvent) (identity : List ℕ) (number : ℕ) → was_registered_under (es ++ more) identity number ≡ (was_registered_under es identity number || was_registered_under more identity number)
was_registered_under-append es more identity number = any_of_both registration_in (λ r. (r.number == number) && same_text r.identity identity) es more

pub was_removed-append : (es more : List RegistryEvent) (number : ℕ) → was_removed (es ++ more) number ≡ (was_removed es number || was_removed more number)
was_removed-append es more number = any_of_both removal_in (λ r. r.number == number) es more

pub had_ready-append : (es more : List RegistryEvent) (number : ℕ) → had_ready (es ++ more) number ≡ (had_ready es number || had_ready more number)
had_ready-append es more number = any_of_both ready_in (λ n. n == number) es more

-- a legal history, and one event more that may follow it
all_and_next : (limit : ℕ) (before es : List RegistryEvent) (e : RegistryEvent) → MayAllFollow limit before es → MayFollow limit (before ++ es) e → MayAllFollow limit before (es ++ e ∷ [])
all_and_next limit before [] e h next = (subst (λ es. MayFollow limit es e) (append-nil before) next, tt)
all_and_next limit before (x ∷ es) e h next = (h.0, all_and_next limit (before ++ x ∷ []) es e h.1 (subst (λ es. MayFollow limit es e) (sym (append_assoc before (x ∷ []) es)) next))

pub legal_next : (limit : ℕ) (es : List RegistryEvent) (e : RegistryEvent) → IsLegal limit es → MayFollow limit es e → IsLegal limit (es ++ e ∷ [])
legal_next limit es e h next = all_and_next limit [] es e h next

-- the front of a legal history is legal
front_all : (limit : ℕ) (before es more : List RegistryEvent) → MayAllFollow limit before (es ++ more) → MayAllFollow limit before es
front_all limit before [] more h = tt
front_all limit before (e ∷ es) more h = (h.0, front_all limit (before ++ e ∷ []) es more h.1)

pub legal_front : (limit : ℕ) (es more : List RegistryEvent) → IsLegal limit (es ++ more) → IsLegal limit es
legal_front limit es more h = front_all limit [] es more h

-- in a legal history each event may follow those before it
each_follows : (limit : ℕ) (before es : List RegistryEvent) (e : RegistryEvent) (more : List RegistryEvent) → MayAllFollow limit before (es ++ e ∷ more) → MayFollow limit (before ++ es) e
each_follows limit before [] e more h = subst (λ es. MayFollow limit es e) (sym (append-nil before)) h.0
each_follows limit before (x ∷ es) e more h = subst (λ es. MayFollow limit es e) (append_assoc before (x ∷ []) es) (each_follows limit (before ++ x ∷ []) es e more h.1)

pub legal_follows : (limit : ℕ) (es : List RegistryEvent) (e : RegistryEvent) (more : List RegistryEvent) → IsLegal limit (es ++ e ∷ more) → MayFollow limit es e
legal_follows limit es e more h = each_follows limit [] es e more h
