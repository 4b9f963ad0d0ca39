-- A commit that reaches the live numbers one after the other, where each that it drops is removed at once, does what the definition says: it reaches all, and then those that it drops are removed.
use Rattle.std.proofs.Common.{◌≡◌, ℕ, zero, suc, ◌+◌, ◌-◌, ◌≤◌, ◌<◌, Bool, true, false, not, cond, ◌||◌, ◌&&◌, ◌==◌, List, [], ◌∷◌, ◌++◌, length, refl, ap, sym, ◌∙◌, subst, arith, append_assoc, Option, None, Some}
use Rattle.std.specs.Bool.{if◌then◌else◌}
use Rattle.std.specs.Prelude.{filter}
use Rattle.std.specs.List.{slice_get, range_with_len, list_any}
use Rattle.shape_base.specs.declared.cause.Cause.{Cause}
use Rattle.shape_base.specs.declared.change.Tx.{Tx}
use Rattle.shape_base.specs.declared.definition.TableDef.{TableDef}
use Rattle.shape_base.specs.declared.registry_event.RegistryEvent.{RegistryEvent}
use Rattle.shape_base.specs.declared.registry_event.RegistryEvent.TheVariants.{Removed, Redefined}
use Rattle.shape_base.specs.RegistryHistory.{Registration, registrations, registration_in, was_registered, was_removed, is_live}
use Rattle.shape_json.specs.ShapeHistory.{drop_of, Took}
use Rattle.shape_registry.proofs.Growing.{part_stays}
use Rattle.shape_registry.proofs.Legal.{removed_stays}
use Rattle.core_law.specs.Situation.{Options, Shape, shape_at}
use Rattle.core_law.specs.Situation as law
use Rattle.core_law.specs.Steps.{with_event, change_at, change_shape, with_registry, redefined, took_from, definition_by, removed_for, swept_from, bytes_kept, all_bytes}
use Rattle.core_server.specs.Committing.{reached_by, reached, reached_all}
use Rattle.core_server.proofs.Dropping.{removed_apart_from}
use Rattle.core_server.proofs.Sums.{all_with}

-- ---- lists

at_end : (front : List Shape) (x : Shape) (xs : List Shape) → slice_get (front ++ x ∷ xs) (length front) ≡ Some x
at_end [] x xs = refl
at_end (y ∷ front) x xs = at_end front x xs

-- the shape behind others
pub behind : (front : List Shape) (x : Shape) (xs : List Shape) (n : ℕ) → n ≡ length front + 1 → shape_at (front ++ x ∷ xs) n ≡ Some x
behind front x xs zero e = absurd (omega (arith, e))
behind front x xs (suc i) e = let same : i ≡ length front = omega (arith, e) in ap (λ k. slice_get (front ++ x ∷ xs) k) same ∙ at_end front x xs

change_end : (f : Shape → Shape) (front : List Shape) (x : Shape) (xs : List Shape) → change_at f (front ++ x ∷ xs) (length front) ≡ front ++ f x ∷ xs
change_end f [] x xs = refl
change_end f (y ∷ front) x xs = ap (λ ys. y ∷ ys) (change_end f front x xs)

-- it changes alone
pub changed_behind : (f : Shape → Shape) (front : List Shape) (x : Shape) (xs : List Shape) (n : ℕ) → n ≡ length front + 1 → change_shape f (front ++ x ∷ xs) n ≡ front ++ f x ∷ xs
changed_behind f front x xs zero e = absurd (omega (arith, e))
changed_behind f front x xs (suc i) e = let same : i ≡ length front = omega (arith, e) in ap (λ k. change_at f (front ++ x ∷ xs) k) same ∙ change_end f front x xs

-- the bytes of logs are those of the first ones and of the others
pub all_both : (o : Options) (xs ys : List Shape) → all_bytes o (xs ++ ys) ≡ all_bytes o xs + all_bytes o ys
all_both o [] ys = let z : all_bytes o [] ≡ 0 = refl in let e : all_bytes o ([] ++ ys) ≡ all_bytes o ys = refl in omega (arith, z, e)
all_both o (x ∷ xs) ys = let r = all_both o xs ys in let p = all_with o x xs in let q = all_with o x (xs ++ ys) in omega (arith, r, p, q)

one_more : (o : Options) (front : List Shape) (x : Shape) → all_bytes o (front ++ x ∷ []) ≡ all_bytes o front + bytes_kept o x
one_more o front x = let p = all_both o front (x ∷ []) in let q = all_with o x [] in omega (arith, p, q)

other_bytes : (o : Options) (front : List Shape) (x : Shape) (xs : List Shape) → all_bytes o (front ++ x ∷ xs) - bytes_kept o x ≡ all_bytes o front + all_bytes o xs
other_bytes o front x xs = let p = all_both o front (x ∷ xs) in let q = all_with o x xs in omega (arith, p, q)

-- ---- a removal

-- it looks at no shape
removed_alike : (v : law.Server) (xs : List Shape) (tx : Tx) (n : ℕ) (x : Shape) (c : Option Cause) → record (removed_for v tx n x c) { shapes = xs } ≡ removed_for (record v { shapes = xs }) tx n x c
removed_alike v xs tx n x None = refl
removed_alike v xs tx n x (Some cause) = pick (is_live v.registry n) (definition_by x.reader.knows tx cause)
  where
    pick : (b : Bool) (d : Option TableDef) → record (if b then redefined (with_registry v (Removed n cause)) d else v) { shapes = xs } ≡ (if b then redefined (with_registry (record v { shapes = xs }) (Removed n cause)) d else record v { shapes = xs })
    pick true None = refl
    pick true (Some d) = refl
    pick false d = refl

-- it changes no shape
pub shapes_stay : (v : law.Server) (tx : Tx) (n : ℕ) (x : Shape) (c : Option Cause) → (removed_for v tx n x c).shapes ≡ v.shapes
shapes_stay v tx n x None = refl
shapes_stay v tx n x (Some cause) = pick (is_live v.registry n) (definition_by x.reader.knows tx cause)
  where
    pick : (b : Bool) (d : Option TableDef) → (if b then redefined (with_registry v (Removed n cause)) d else v).shapes ≡ v.shapes
    pick true None = refl
    pick true (Some d) = refl
    pick false d = refl

-- it registers none
pub registrations_stay : (v : law.Server) (tx : Tx) (n : ℕ) (x : Shape) (c : Option Cause) → registrations (removed_for v tx n x c).registry ≡ registrations v.registry
registrations_stay v tx n x None = refl
registrations_stay v tx n x (Some cause) = pick (is_live v.registry n) (definition_by x.reader.knows tx cause)
  where
    pick : (b : Bool) (d : Option TableDef) → registrations (if b then redefined (with_registry v (Removed n cause)) d else v).registry ≡ registrations v.registry
    pick true None = part_stays registration_in v.registry (Removed n cause) refl
    pick true (Some d) = part_stays registration_in (v.registry ++ Removed n cause ∷ []) (Redefined d) refl ∙ part_stays registration_in v.registry (Removed n cause) refl
    pick false d = refl

-- and removes no other number
pub others_stay : (v : law.Server) (tx : Tx) (n m : ℕ) (x : Shape) (c : Option Cause) → (n ≡ m → ⊥) → was_removed (removed_for v tx n x c).registry m ≡ was_removed v.registry m
others_stay v tx n m x None other = refl
others_stay v tx n m x (Some cause) other = pick (is_live v.registry n) (definition_by x.reader.knows tx cause)
  where
    pick : (b : Bool) (d : Option TableDef) → was_removed (if b then redefined (with_registry v (Removed n cause)) d else v).registry m ≡ was_removed v.registry m
    pick true None = removed_apart_from v.registry n m cause other
    pick true (Some d) = removed_stays (v.registry ++ Removed n cause ∷ []) (Redefined d) m refl ∙ removed_apart_from v.registry n m cause other
    pick false d = refl

-- a number that is not live is not removed
dead_stays : (v : law.Server) (tx : Tx) (n : ℕ) (x : Shape) (c : Option Cause) → is_live v.registry n ≡ false → removed_for v tx n x c ≡ v
dead_stays v tx n x None dead = refl
dead_stays v tx n x (Some cause) dead = ap (λ (b : Bool). if b then redefined (with_registry v (Removed n cause)) (definition_by x.reader.knows tx cause) else v) dead

not_live : (a b : Bool) → b ≡ true → (a && not b) ≡ false
not_live true true e = refl
not_live false true e = refl
not_live a false e = cc

is_alive : (a b : Bool) → a ≡ true → b ≡ false → (a && not b) ≡ true
is_alive true false e f = refl
is_alive true true e f = cc
is_alive false b e f = cc

-- ---- the pass

-- the numbers from n on are registered, so many of them, and as many of them are removed as by these events
pub record IsAhead (es : List RegistryEvent) (v : law.Server) (n many : ℕ) : Type 0 where
  pub removed : (m : ℕ) → n ≤ m → was_removed v.registry m ≡ was_removed es m
  pub registered : (m : ℕ) → n ≤ m → m < n + many → was_registered v.registry m ≡ true

module _ (o : Options) (es : List RegistryEvent) (tx : Tx) where
  abbrev alive : ℕ → Bool
  alive n = not (was_removed es n)

  -- what the definition makes of the shapes from a number on
  abbrev rest_of : ℕ → ℕ → List Shape → List Shape
  rest_of n bytes xs = took_from o es tx n bytes xs

  abbrev Passes : List Shape → List Shape → law.Server → ℕ → Type 0
  Passes front rest v n = reached_all o tx v (filter alive (range_with_len n (length rest))) ≡ swept_from o tx n (rest_of n (all_bytes o front) rest) (record v { shapes = front ++ rest_of n (all_bytes o front) rest })

  -- one is passed over, or has the commit
  abbrev One : Bool → List Shape → Shape → List Shape → law.Server → ℕ → Type 0
  One b front x xs v n = reached_all o tx v (cond (not b) (n ∷ filter alive (range_with_len (n + 1) (length xs))) (filter alive (range_with_len (n + 1) (length xs))))
      ≡ (let y = if b then x else with_event (Took tx (all_bytes o front + all_bytes o xs)) x in let ys = rest_of (n + 1) (all_bytes o front + bytes_kept o y) xs in
      swept_from o tx (n + 1) ys (removed_for (record v { shapes = front ++ y ∷ ys }) tx n y (drop_of y.reader o.limits y.events)))

  ahead_on : (v : law.Server) (n many : ℕ) → IsAhead es v n (suc many) → IsAhead es v (n + 1) many
  ahead_on v n many h = record {
    removed = λ m le. h.removed m (omega (arith, le));
    registered = λ m le lt. h.registered m (omega (arith, le)) (omega (arith, lt));
  }

  ahead_past : (v : law.Server) (xs : List Shape) (n many : ℕ) (x : Shape) (c : Option Cause) → IsAhead es v n (suc many) → IsAhead es (removed_for (record v { shapes = xs }) tx n x c) (n + 1) many
  ahead_past v xs n many x c h = record {
    removed = λ m le. others_stay (record v { shapes = xs }) tx n m x c (λ e. omega (arith, le, e)) ∙ h.removed m (omega (arith, le));
    registered = λ m le lt. ap (λ (rs : List Registration). list_any (λ r. r.number == m) rs) (registrations_stay (record v { shapes = xs }) tx n x c) ∙ h.registered m (omega (arith, le)) (omega (arith, lt));
  }

  -- the rest behind one more
  behind_one : (front : List Shape) (y : Shape) (xs : List Shape) (w : law.Server) (n : ℕ) → Passes (front ++ y ∷ []) xs w (n + 1)
      → reached_all o tx w (filter alive (range_with_len (n + 1) (length xs))) ≡ (let ys = rest_of (n + 1) (all_bytes o front + bytes_kept o y) xs in swept_from o tx (n + 1) ys (record w { shapes = front ++ y ∷ ys }))
  behind_one front y xs w n h = h
      ∙ ap (λ bytes. swept_from o tx (n + 1) (rest_of (n + 1) bytes xs) (record w { shapes = (front ++ y ∷ []) ++ rest_of (n + 1) bytes xs })) (one_more o front y)
      ∙ ap (λ zs. swept_from o tx (n + 1) (rest_of (n + 1) (all_bytes o front + bytes_kept o y) xs) (record w { shapes = zs })) (append_assoc front (y ∷ []) (rest_of (n + 1) (all_bytes o front + bytes_kept o y) xs))

  passed_over : (front : List Shape) (x : Shape) (xs : List Shape) (v : law.Server) (n : ℕ) → IsAhead es v n (suc (length xs)) → was_removed es n ≡ true → Passes (front ++ x ∷ []) xs v (n + 1) → One true front x xs v n
  passed_over front x xs v n ahead gone rest = behind_one front x xs v n rest
      ∙ ap (swept_from o tx (n + 1) (rest_of (n + 1) (all_bytes o front + bytes_kept o x) xs))
      (sym (dead_stays (record v { shapes = front ++ x ∷ rest_of (n + 1) (all_bytes o front + bytes_kept o x) xs }) tx n x (drop_of x.reader o.limits x.events) (not_live (was_registered v.registry n) (was_removed v.registry n) (ahead.removed n (omega arith) ∙ gone))))

  -- the shape with the commit
  abbrev with_tx : List Shape → Shape → List Shape → Shape
  with_tx front x xs = with_event (Took tx (all_bytes o front + all_bytes o xs)) x

  -- the server once the commit has reached it
  abbrev once : List Shape → Shape → List Shape → law.Server → ℕ → law.Server
  once front x xs v n = let y = with_tx front x xs in removed_for (record v { shapes = front ++ y ∷ xs }) tx n y (drop_of y.reader o.limits y.events)

  reaches_by : (front : List Shape) (x : Shape) (xs : List Shape) (v : law.Server) (n : ℕ) → n ≡ length front + 1 → v.shapes ≡ front ++ x ∷ xs → reached_by o tx v n (Some x) ≡ once front x xs v n
  reaches_by front x xs v n at is =
      ap (λ others. let y = with_event (Took tx others) x in removed_for (record v { shapes = change_shape (with_event (Took tx others)) v.shapes n }) tx n y (drop_of y.reader o.limits y.events)) (ap (λ zs. all_bytes o zs - bytes_kept o x) is ∙ other_bytes o front x xs)
      ∙ ap (λ zs. let y = with_tx front x xs in removed_for (record v { shapes = zs }) tx n y (drop_of y.reader o.limits y.events)) (ap (λ zs. change_shape (with_event (Took tx (all_bytes o front + all_bytes o xs))) zs n) is ∙ changed_behind (with_event (Took tx (all_bytes o front + all_bytes o xs))) front x xs n at)

  reaches : (front : List Shape) (x : Shape) (xs : List Shape) (v : law.Server) (n : ℕ) → n ≡ length front + 1 → v.shapes ≡ front ++ x ∷ xs → is_live v.registry n ≡ true → reached o tx v n ≡ once front x xs v n
  reaches front x xs v n at is live = ap (λ (b : Bool). if b then reached_by o tx v n (shape_at v.shapes n) else v) live
      ∙ ap (reached_by o tx v n) (ap (λ zs. shape_at zs n) is ∙ behind front x xs n at)
      ∙ reaches_by front x xs v n at is

  taken_up : (front : List Shape) (x : Shape) (xs : List Shape) (v : law.Server) (n : ℕ) → n ≡ length front + 1 → v.shapes ≡ front ++ x ∷ xs → is_live v.registry n ≡ true
      → Passes (front ++ with_tx front x xs ∷ []) xs (once front x xs v n) (n + 1) → One false front x xs v n
  taken_up front x xs v n at is live rest = let y = with_tx front x xs in
      ap (λ w. reached_all o tx w (filter alive (range_with_len (n + 1) (length xs)))) (reaches front x xs v n at is live)
      ∙ behind_one front y xs (once front x xs v n) n rest
      ∙ ap (swept_from o tx (n + 1) (rest_of (n + 1) (all_bytes o front + bytes_kept o y) xs))
      (removed_alike (record v { shapes = front ++ y ∷ xs }) (front ++ y ∷ rest_of (n + 1) (all_bytes o front + bytes_kept o y) xs) tx n y (drop_of y.reader o.limits y.events))

  next_place : (front : List Shape) (y : Shape) (n : ℕ) → n ≡ length front + 1 → n + 1 ≡ length (front ++ y ∷ []) + 1
  next_place front y n at = let e = Rattle.std.proofs.Common.length-append front (y ∷ []) in omega (arith, e, at)

  pub passes : (front rest : List Shape) (v : law.Server) (n : ℕ) → n ≡ length front + 1 → v.shapes ≡ front ++ rest → IsAhead es v n (length rest) → Passes front rest v n
  passes front [] v n at is ahead = ap (λ zs. record v { shapes = zs }) is
  passes front (x ∷ xs) v n at is ahead = let y = with_tx front x xs in pick (was_removed es n) refl
      (passes (front ++ x ∷ []) xs v (n + 1) (next_place front x n at) (is ∙ sym (append_assoc front (x ∷ []) xs)) (ahead_on v n (length xs) ahead))
      (passes (front ++ y ∷ []) xs (once front x xs v n) (n + 1) (next_place front y n at)
      (shapes_stay (record v { shapes = front ++ y ∷ xs }) tx n y (drop_of y.reader o.limits y.events) ∙ sym (append_assoc front (y ∷ []) xs))
      (ahead_past v (front ++ y ∷ xs) n (length xs) y (drop_of y.reader o.limits y.events) ahead))
    where
      pick : (b : Bool) → was_removed es n ≡ b → Passes (front ++ x ∷ []) xs v (n + 1) → Passes (front ++ with_tx front x xs ∷ []) xs (once front x xs v n) (n + 1) → One b front x xs v n
      pick true gone over up = passed_over front x xs v n ahead gone over
      pick false stays over up = taken_up front x xs v n at is (is_alive (was_registered v.registry n) (was_removed v.registry n) (ahead.registered n (omega arith) (omega arith)) (ahead.removed n (omega arith) ∙ stays)) up
