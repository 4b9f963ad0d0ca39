-- What a number finds in a state after each event.
use Rattle.std.proofs.Common.{◌≡◌, ◌≢◌, ℕ, ◌-◌, ◌^◌, Bool, true, false, not, cond, ◌||◌, ◌==◌, List, [], ◌∷◌, Option, None, Some, refl, sym, ◌∙◌, ap, subst}
use Rattle.std.specs.Prelude.{filter, find, length, nat_le, is_some, if◌then◌else◌}
use Rattle.std.specs.Option.{option_map, option_or}
use Rattle.std.specs.Ordering.{nat_cmp}
use Rattle.std.specs.BTreeMap.{BTreeMap, is_at, get}
use Rattle.std.proofs.lemmas.List.Folds.{find-append}
use Rattle.std.proofs.lemmas.Bool.Decides.{Decides-eqb}
use Rattle.shape_base.specs.declared.cause.Cause.{Cause}
use Rattle.shape_base.specs.declared.registry_event.RegistryEvent.TheVariants as events
use Rattle.shape_base.specs.RegistryHistory.{LiveHandle, RegistryState}
use Rattle.shape_registry.specs.declared.refusal.Refusal.{Refusal}
use Rattle.shape_registry.specs.declared.refusal.Refusal.TheVariants as refusals
use Rattle.shape_registry.specs.State.{live_at, live_as, refusal_new, refusal_in, with_ready, after}
use Rattle.shape_registry.proofs.Linked.{at_is, same_at}
use Rattle.shape_registry.proofs.Growing.{find_of_map}

-- ---- a number that is not refused

pub not_refused : (s : RegistryState) (identity : List ℕ) → refusal_in s identity ≡ None → (live_as s identity ≡ None) × (s.given ≢ 2 ^ 64 - 1)
not_refused s identity h = pick (live_as s identity) h
  where
    spent : (a b : Bool) → (s.given == 2 ^ 64 - 1) ≡ b → (if a then Some (refusals.TooMany (length s.live) s.limit) else if b then Some refusals.NumbersSpent else None) ≡ None → s.given ≡ 2 ^ 64 - 1 → ⊥
    spent true b is h e = cc
    spent false true is h e = cc
    spent false false is h e = let t : (s.given == 2 ^ 64 - 1) ≡ true = (Decides-eqb s.given (2 ^ 64 - 1)).1 e in cc

    pick : (o : Option LiveHandle) → ◌≡◌ {A = Option Refusal} (elim o [ None ↦ refusal_new s | Some l ↦ Some (refusals.Exists l.number) ]) None → (o ≡ None) × (s.given ≢ 2 ^ 64 - 1)
    pick None h = (refl, spent (nat_le s.limit (length s.live)) (s.given == 2 ^ 64 - 1) refl h)
    pick (Some l) h = cc

-- ---- the live numbers after each event

some_mapped : {A B : Type 0} (f : A → B) (o : Option A) → is_some (option_map f o) ≡ is_some o
some_mapped f None = refl
some_mapped f (Some x) = refl

pub live_after_ready : (s : RegistryState) (n m : ℕ) → is_some (live_at (after s (events.Ready n)) m) ≡ is_some (live_at s m)
live_after_ready s n m = ap is_some (find_of_map (with_ready n) (λ l. l.number == m) s.live) ∙ some_mapped (with_ready n) (live_at s m)

without : (n m : ℕ) (ls : List LiveHandle) → find (λ l. l.number == m) (filter (λ l. not (n == l.number)) ls) ≡ cond (n == m) None (find (λ l. l.number == m) ls)
without n m [] = nothing (n == m) None refl
  where
    nothing : (b : Bool) (o : Option LiveHandle) → o ≡ None → None ≡ cond b None o
    nothing true o h = refl
    nothing false o h = sym h
without n m (l ∷ ls) = pick (n == l.number) (l.number == m) (n == m) refl refl refl (without n m ls)
  where
    equal : (a b : ℕ) → (a == b) ≡ true → a ≡ b
    equal a b h = (Decides-eqb a b).0 h

    tested : (a b : ℕ) → a ≡ b → (a == b) ≡ true
    tested a b h = (Decides-eqb a b).1 h

    pick : (a b c : Bool) → (n == l.number) ≡ a → (l.number == m) ≡ b → (n == m) ≡ c
        → find (λ l. l.number == m) (filter (λ l. not (n == l.number)) ls) ≡ cond c None (find (λ l. l.number == m) ls)
        → find (λ l. l.number == m) (cond (not a) (l ∷ filter (λ l. not (n == l.number)) ls) (filter (λ l. not (n == l.number)) ls)) ≡ cond c None (cond b (Some l) (find (λ l. l.number == m) ls))
    pick true true true h g k rest = rest
    pick true true false h g k rest = let t : (n == m) ≡ true = tested n m (equal n l.number h ∙ equal l.number m g) in cc
    pick true false true h g k rest = rest
    pick true false false h g k rest = rest
    pick false true true h g k rest = let t : (n == l.number) ≡ true = tested n l.number (equal n m k ∙ sym (equal l.number m g)) in cc
    pick false true false h g k rest = ap (λ b. cond b (Some l) (find (λ l. l.number == m) (filter (λ l. not (n == l.number)) ls))) g
    pick false false c h g k rest = ap (λ b. cond b (Some l) (find (λ l. l.number == m) (filter (λ l. not (n == l.number)) ls))) g ∙ rest

pub live_after_removed : (s : RegistryState) (n m : ℕ) (cause : Cause) → live_at (after s (events.Removed n cause)) m ≡ cond (n == m) None (live_at s m)
live_after_removed s n m cause = without n m s.live

some_or : {A : Type 0} (o : Option A) (b : Bool) (x : A) → is_some (option_or o (cond b (Some x) None)) ≡ (is_some o || b)
some_or (Some y) b x = refl
some_or None true x = refl
some_or None false x = refl

pub live_after_registered : (s : RegistryState) (n : ℕ) (identity : List ℕ) (table : ℕ) (last : Option ℕ) (m : ℕ) → is_some (live_at (after s (events.Registered n identity table last)) m) ≡ (is_some (live_at s m) || (n == m))
live_after_registered s n identity table last m = ap is_some (find-append (λ l. l.number == m) s.live _) ∙ some_or (live_at s m) (n == m) _

-- ---- the map of kept values beside them

is_at_turned : (n m : ℕ) → is_at (nat_cmp n) m ≡ (n == m)
is_at_turned n m = at_is n m ∙ turn (m == n) (n == m) refl refl
  where
    turn : (a b : Bool) → (m == n) ≡ a → (n == m) ≡ b → a ≡ b
    turn true true h g = refl
    turn true false h g = let t : (n == m) ≡ true = (Decides-eqb n m).1 (sym ((Decides-eqb m n).0 h)) in cc
    turn false true h g = let t : (m == n) ≡ true = (Decides-eqb m n).1 (sym ((Decides-eqb n m).0 g)) in cc
    turn false false h g = refl

some_put : {A : Type 0} (b c : Bool) (x : A) (o : Option A) → c ≡ b → is_some (cond b (Some x) o) ≡ (is_some o || c)
some_put true true x None h = refl
some_put true true x (Some y) h = refl
some_put true false x o h = cc
some_put false true x o h = cc
some_put false false x None h = refl
some_put false false x (Some y) h = refl

module _ {K : Type 0} (old new : BTreeMap ℕ K) (s : RegistryState) (keeps : (m : ℕ) → is_some (get nat_cmp old m) ≡ is_some (live_at s m)) (n : ℕ) where
  pub keeps_put : (kept : K) (identity : List ℕ) (table : ℕ) (last : Option ℕ) → ((m : ℕ) → get nat_cmp new m ≡ cond (is_at (nat_cmp n) m) (Some kept) (get nat_cmp old m))
      → (m : ℕ) → is_some (get nat_cmp new m) ≡ is_some (live_at (after s (events.Registered n identity table last)) m)
  keeps_put kept identity table last put m = ap is_some (put m) ∙ some_put (is_at (nat_cmp n) m) (n == m) kept (get nat_cmp old m) (sym (is_at_turned n m))
      ∙ ap (λ b. b || (n == m)) (keeps m) ∙ sym (live_after_registered s n identity table last m)

  pub keeps_removed : (cause : Cause) → ((m : ℕ) → get nat_cmp new m ≡ cond (is_at (nat_cmp n) m) None (get nat_cmp old m))
      → (m : ℕ) → is_some (get nat_cmp new m) ≡ is_some (live_at (after s (events.Removed n cause)) m)
  keeps_removed cause taken m = ap is_some (taken m) ∙ both (is_at (nat_cmp n) m) (n == m) (get nat_cmp old m) (live_at s m) (is_at_turned n m) (keeps m) ∙ ap is_some (sym (live_after_removed s n m cause))
    where
      both : (b c : Bool) (o : Option K) (p : Option LiveHandle) → b ≡ c → is_some o ≡ is_some p → is_some (cond b None o) ≡ is_some (cond c None p)
      both true true o p h g = refl
      both true false o p h g = cc
      both false true o p h g = cc
      both false false o p h g = g

-- a value that was put under a new number and taken out again
pub put_back : {K : Type 0} (old put back : BTreeMap ℕ K) (s : RegistryState) → ((m : ℕ) → is_some (get nat_cmp old m) ≡ is_some (live_at s m)) → (n : ℕ) → live_at s n ≡ None → (kept : K)
    → ((m : ℕ) → get nat_cmp put m ≡ cond (is_at (nat_cmp n) m) (Some kept) (get nat_cmp old m)) → ((m : ℕ) → get nat_cmp back m ≡ cond (is_at (nat_cmp n) m) None (get nat_cmp put m))
    → (m : ℕ) → get nat_cmp back m ≡ get nat_cmp old m
put_back {K} old put back s keeps n fresh kept first second m = second m ∙ ap (cond (is_at (nat_cmp n) m) None) (first m) ∙ pick (is_at (nat_cmp n) m) (get nat_cmp old m) (λ t. none (get nat_cmp old m) (keeps m ∙ ap is_some (subst (λ k. live_at s k ≡ None) (sym (same_at n m t)) fresh)))
  where
    none : (o : Option K) → is_some o ≡ false → o ≡ None
    none None h = refl
    none (Some x) h = cc

    pick : (b : Bool) (o : Option K) → (b ≡ true → o ≡ None) → cond b None (cond b (Some kept) o) ≡ o
    pick true o h = sym (h refl)
    pick false o h = refl
