-- Exchanges of a program and of the definitions, each in its place.
use Rattle.std.specs.Prelude.{slice_get, slice_set, is_none}
use Rattle.std.proofs.lemmas.Bool.Decides.{nat_tests}
use Rattle.std.proofs.Common.{◌≡◌, Bool, false, cond, ◌==◌, ℕ, zero, suc, ◌≤◌, List, [], ◌∷◌, ◌++◌, length, refl, ap, subst, Option, None, Some, arith}
use Rattle.std.specs.Option.{option_or}
use Rattle.fold_client.specs.Following.{Heard}
use Rattle.core_law.specs.Situation as law
use Rattle.core_law.specs.Steps.{change_at}
use Rattle.core_exchanges.specs.declared.exchange.Exchange.{Exchange}
use Rattle.core_exchanges.specs.Standing.{StandsFor, EachStands, StandsThere, is_open, awaits, passes_at}
use Rattle.core_exchanges.specs.Giving.{given_to}

-- ---- places

pub same_length : (es : List Exchange) (xs : List law.Exchange) → EachStands es xs → length es ≡ length xs
same_length [] [] h = refl
same_length [] (x ∷ xs) h = absurd h
same_length (e ∷ es) [] h = absurd h
same_length (e ∷ es) (x ∷ xs) h = ap suc (same_length es xs h.1)

pub stands_there : (es : List Exchange) (xs : List law.Exchange) (n : ℕ) → EachStands es xs → StandsThere (slice_get es n) (slice_get xs n)
stands_there [] [] n h = tt
stands_there [] (x ∷ xs) n h = absurd h
stands_there (e ∷ es) [] n h = absurd h
stands_there (e ∷ es) (x ∷ xs) zero h = h.0
stands_there (e ∷ es) (x ∷ xs) (suc n) h = stands_there es xs n h.1

pub stands_push : (es : List Exchange) (xs : List law.Exchange) (e : Exchange) (x : law.Exchange) → EachStands es xs → StandsFor e x → EachStands (es ++ e ∷ []) (xs ++ x ∷ [])
stands_push [] [] e x h k = (k, tt)
stands_push [] (y ∷ xs) e x h k = absurd h
stands_push (d ∷ es) [] e x h k = absurd h
stands_push (d ∷ es) (y ∷ xs) e x h k = (h.0, stands_push es xs e x h.1 k)

pub changed_past : (g : law.Exchange → law.Exchange) (xs : List law.Exchange) (n : ℕ) → length xs ≤ n → change_at g xs n ≡ xs
changed_past g [] n h = refl
changed_past g (x ∷ xs) zero h = absurd (omega arith)
changed_past g (x ∷ xs) (suc n) h = ap (λ ys. x ∷ ys) (changed_past g xs n (omega arith))

there : (e : Exchange) (x : law.Exchange) (a : Option Exchange) (b : Option law.Exchange) → a ≡ Some e → b ≡ Some x → StandsThere a b → StandsFor e x
there e x a b is at h = subst (λ (o : Option law.Exchange). StandsThere (Some e) o) at (subst (λ (o : Option Exchange). StandsThere o b) is h)

pub stands_at : (es : List Exchange) (xs : List law.Exchange) (n : ℕ) (e : Exchange) (x : law.Exchange) → EachStands es xs → slice_get es n ≡ Some e → slice_get xs n ≡ Some x → StandsFor e x
stands_at es xs n e x h is at = there e x (slice_get es n) (slice_get xs n) is at (stands_there es xs n h)

pub stands_changed : (g : law.Exchange → law.Exchange) (e : Exchange) (es : List Exchange) (xs : List law.Exchange) (n : ℕ) → EachStands es xs → ((x : law.Exchange) → slice_get xs n ≡ Some x → StandsFor e (g x)) → EachStands (slice_set es n e) (change_at g xs n)
stands_changed g e [] [] n h k = tt
stands_changed g e [] (x ∷ xs) n h k = absurd h
stands_changed g e (d ∷ es) [] n h k = absurd h
stands_changed g e (d ∷ es) (x ∷ xs) zero h k = (k x refl, h.1)
stands_changed g e (d ∷ es) (x ∷ xs) (suc n) h k = (h.0, stands_changed g e es xs n h.1 k)

-- ---- those that pass a test

same_suc : (n p : ℕ) → (suc n == suc p) ≡ (n == p)
same_suc n p = grind (arith, nat_tests)

apart : (p : ℕ) → (0 == suc p) ≡ false
apart p = grind (arith, nat_tests)

apart_from : (n : ℕ) → (suc n == 0) ≡ false
apart_from n = grind (arith, nat_tests)

pub passes_past : (test : law.Exchange → Bool) (xs : List law.Exchange) (p : ℕ) → length xs ≤ p → passes_at test xs p ≡ false
passes_past test [] p h = refl
passes_past test (x ∷ xs) zero h = absurd (omega arith)
passes_past test (x ∷ xs) (suc p) h = passes_past test xs p (omega arith)

pub passes_push : (test : law.Exchange → Bool) (xs : List law.Exchange) (x : law.Exchange) (p : ℕ) → passes_at test (xs ++ x ∷ []) p ≡ cond (length xs == p) (test x) (passes_at test xs p)
passes_push test [] x zero = refl
passes_push test [] x (suc p) = rw (apart p) refl
passes_push test (y ∷ xs) x zero = rw (apart_from (length xs)) refl
passes_push test (y ∷ xs) x (suc p) = rw (same_suc (length xs) p) (passes_push test xs x p)

-- where all that are changed fail the test, the one in the place fails it, and each other passes it as before
pub passes_changed : (test : law.Exchange → Bool) (g : law.Exchange → law.Exchange) → ((x : law.Exchange) → test (g x) ≡ false) → (xs : List law.Exchange) (n p : ℕ) → passes_at test (change_at g xs n) p ≡ cond (n == p) false (passes_at test xs p)
passes_changed test g none [] zero zero = refl
passes_changed test g none [] zero (suc p) = rw (apart p) refl
passes_changed test g none [] (suc n) zero = rw (apart_from n) refl
passes_changed test g none [] (suc n) (suc p) = rw (same_suc n p) (passes_changed test g none [] n p)
passes_changed test g none (x ∷ xs) zero zero = none x
passes_changed test g none (x ∷ xs) zero (suc p) = rw (apart p) refl
passes_changed test g none (x ∷ xs) (suc n) zero = rw (apart_from n) refl
passes_changed test g none (x ∷ xs) (suc n) (suc p) = rw (same_suc n p) (passes_changed test g none xs n p)

-- ---- one that is given a reply

closed : (o : Option Heard) (h : Heard) → is_none (option_or o (Some h)) ≡ false
closed None h = refl
closed (Some k) h = refl

pub given_is_closed : (heard : law.Exchange → Heard) (x : law.Exchange) → is_open (given_to heard x) ≡ false
given_is_closed heard x = closed x.given (heard x)

pub given_awaits_nothing : (heard : law.Exchange → Heard) (n : ℕ) (x : law.Exchange) → awaits n (given_to heard x) ≡ false
given_awaits_nothing heard n x = rw (given_is_closed heard x) refl
