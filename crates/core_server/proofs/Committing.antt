-- What a server stands for while a commit reaches its numbers, one after the other.
use Rattle.std.proofs.Common.{◌≡◌, ℕ, ◌+◌, ◌≤◌, ◌<◌, Bool, true, false, not, ◌||◌, ◌&&◌, ◌==◌, List, [], ◌∷◌, ◌++◌, length, take, get_or, true≢false, refl, ap, ap₂, sym, ◌∙◌, subst, arith, Option, None, Some}
use Rattle.std.specs.Bool.{if◌then◌else◌}
use Rattle.std.specs.Prelude.{filter, unwrap_or, IfSome, IsSomeAnd, Result, Ok, Err, IfOk, OnOk}
use Rattle.std.specs.List.{list_any, last_or, range_with_len}
use Rattle.std.specs.Option.{option_map}
use Rattle.std.proofs.lemmas.List.{take_more}
use Rattle.std.specs.FinMap as fin
use Rattle.std.proofs.lemmas.Bool.Decides.{Decides-eqb}
use Rattle.shape_base.specs.declared.cause.Cause.{Cause}
use Rattle.shape_base.specs.declared.change.Tx.{Tx}
use Rattle.shape_base.specs.declared.definition.TableDef.{TableDef}
use Rattle.shape_base.specs.declared.registry_event.RegistryEvent.{RegistryEvent}
use Rattle.shape_base.specs.declared.registry_event.RegistryEvent.TheVariants.{Removed, Redefined}
use Rattle.shape_base.specs.declared.registry_event.RegistryEvent.TheVariants as events
use Rattle.shape_base.specs.RegistryHistory as histories
use Rattle.shape_base.specs.RegistryHistory.{RegistryStart, RegistryState, Registration, Taken, registrations, registration_in, transactions, transaction_in, was_registered, was_removed, had_ready, is_live, live_numbers}
use Rattle.shape_json.specs.ShapeHistory.{ShapeEvent, Snapped, Took, Dropped, snapshot_in, taken, drop_of, state_after}
use Rattle.shape_json.specs.ShapeHistory as shapes
use Rattle.shape_registry.proofs.Growing.{part_stays, part_grows, any_more}
use Rattle.shape_registry.proofs.Legal.{removed_stays, ready_stays}
use Rattle.core_law.specs.Situation.{Options, Shape, shape_at, registry_start, log_of_shape}
use Rattle.core_law.specs.Situation as law
use Rattle.core_law.specs.Steps.{with_event, with_shape_event, with_registry, redefined, definition_by, removed_for, after_commit}
use Rattle.core_law.specs.Waiting.{IsAsBefore}
use Rattle.core_server.specs.declared.server.Server.{Server}
use Rattle.core_server.specs.Standing.{Kept, IsKept, StandsFor, IsCatalog, Stands, IsSituated}
use Rattle.core_server.specs.Committing.{noted, comes, reached_by, reached, reached_all, IsNewTo, IsTold, IsDue, AreApart, IsNoted, HasReached}
use Rattle.core_server.proofs.Places.{shape_apart, same_or_not}
use Rattle.core_server.proofs.Changing.{stands_on}
use Rattle.core_server.proofs.Dropping.{same_last}
use Rattle.core_server.proofs.Passing.{passes, shapes_stay, registrations_stay, others_stay}
use Rattle.core_server.proofs.Counting.{was_given, live_range}

-- ---- the registry notes the commit

last_of : (o : Option Taken) (xs : List Taken) (x : Taken) → last_or o (xs ++ x ∷ []) ≡ Some x
last_of o [] x = refl
last_of o (y ∷ xs) x = last_of (Some y) xs x

last_with : (es : List RegistryEvent) (lsn xid : ℕ) → histories.last_lsn (es ++ events.Took lsn xid ∷ []) ≡ lsn
last_with es lsn xid = let t : Taken = record { lsn = lsn; xid = xid } in
    ap (λ (ts : List Taken). unwrap_or (option_map (λ (t : Taken). t.lsn) (last_or None ts)) 0) (part_grows transaction_in es (events.Took lsn xid) t refl)
    ∙ ap (λ (a : Option Taken). unwrap_or (option_map (λ (t : Taken). t.lsn) a) 0) (last_of None (transactions es) t)

-- the server where the registry alone has noted it
pub record Notes (o : Options) (v : law.Server) (s t : Server) (tx : Tx) : Type 0 where
  pub run : t.run ≡ s.run
  pub limits : t.limits ≡ s.limits
  pub tables : t.tables ≡ s.tables
  pub registry : histories.Stands (registry_start o) (v.registry ++ events.Took tx.lsn tx.xid ∷ []) t.registry.state
  pub catalog : t.registry.state.catalog ≡ s.registry.state.catalog
  pub kept : t.registry.kept ≡ s.registry.kept
  pub total : t.total ≡ s.total

pub notes : (o : Options) (v : law.Server) (s t : Server) (tx : Tx) → Stands o v s → histories.last_lsn v.registry < tx.lsn → Notes o v s t tx → Stands o (noted v tx) t
notes o v s t tx h later c = record {
  run = c.run ∙ h.run;
  limits = c.limits ∙ h.limits;
  tables = c.tables ∙ h.tables;
  registry = c.registry;
  catalog = subst (IsCatalog o.tables) (sym c.catalog) h.catalog;
  counted = ap length (part_stays registration_in v.registry (events.Took tx.lsn tx.xid) refl) ∙ h.counted;
  known = λ m r. h.known m (sym (ap (λ (rs : List Registration). list_any (λ r. r.number == m) rs) (part_stays registration_in v.registry (events.Took tx.lsn tx.xid) refl)) ∙ r);
  shapes = λ m x at. subst (StandsFor o (noted v tx) t m x) (sym (removed_stays v.registry (events.Took tx.lsn tx.xid) m refl))
      (stands_on o v (noted v tx) s t m x (was_removed v.registry m) (ready_stays v.registry (events.Took tx.lsn tx.xid) m refl) (let e = last_with v.registry tx.lsn tx.xid in omega (arith, e, later)) (ap (λ k. fin.get k m) c.kept) (h.shapes m x at));
  total = c.total ∙ h.total;
}

-- the events of a shape that is kept end before those of the registry
kept_last : (o : Options) (v : law.Server) (s : Server) (n : ℕ) (x : Shape) (b : Bool) → b ≡ false → StandsFor o v s n x b → shapes.last_lsn x.events ≤ histories.last_lsn v.registry
kept_last o v s n x true e h = cc
kept_last o v s n x false e h = pick (fin.get s.registry.kept n) h
  where
    pick : (a : Option Kept) → IsSomeAnd a (IsKept o v n x) → shapes.last_lsn x.events ≤ histories.last_lsn v.registry
    pick None h = absurd h
    pick (Some k) h = h.last

pub not_false : (a b : Bool) → (a && not b) ≡ true → b ≡ false
not_false a true h = absurd (never a h)
  where
    never : (a : Bool) → (a && false) ≡ true → ⊥
    never true h = cc
    never false h = cc
not_false a false h = refl

live_noted : (v : law.Server) (tx : Tx) (n : ℕ) → is_live (noted v tx).registry n ≡ is_live v.registry n
live_noted v tx n = ap₂ (λ a b. a && not b) (ap (λ (rs : List Registration). list_any (λ r. r.number == n) rs) (part_stays registration_in v.registry (events.Took tx.lsn tx.xid) refl)) (removed_stays v.registry (events.Took tx.lsn tx.xid) n refl)

-- a commit that is after the registry's last is after all that any shape has
pub all_new : (o : Options) (v : law.Server) (s : Server) (tx : Tx) (n : ℕ) → Stands o v s → histories.last_lsn v.registry < tx.lsn → IsNewTo (noted v tx) tx n
all_new o v s tx n h later = record {
  noted = let e = last_with v.registry tx.lsn tx.xid in omega (arith, e);
  later = λ live. pick (shape_at v.shapes n) refl (not_false (was_registered v.registry n) (was_removed v.registry n) (sym (live_noted v tx n) ∙ live));
}
  where
    pick : (a : Option Shape) → shape_at v.shapes n ≡ a → was_removed v.registry n ≡ false → IfSome a (λ x. shapes.last_lsn x.events < tx.lsn)
    pick None at here = tt
    pick (Some x) at here = let le = kept_last o v s n x (was_removed v.registry n) here (h.shapes n x at) in omega (arith, le, later)

-- the commit that has reached all live numbers is the commit
pub after_is : (o : Options) (v : law.Server) (s : Server) (tx : Tx) → Stands o v s → reached_all o tx (noted v tx) (live_numbers v.registry) ≡ after_commit o v tx
after_is o v s tx h = ap (reached_all o tx (noted v tx)) (live_range o.limits.shapes v.registry h.registry.legal ∙ ap (λ k. filter (λ n. not (was_removed v.registry n)) (range_with_len 1 k)) h.counted)
    ∙ passes o v.registry tx [] v.shapes (noted v tx) 1 refl refl (record {
      removed = λ m le. removed_stays v.registry (events.Took tx.lsn tx.xid) m refl;
      registered = λ m le lt. ap (λ (rs : List Registration). list_any (λ r. r.number == m) rs) (part_stays registration_in v.registry (events.Took tx.lsn tx.xid) refl)
          ∙ was_given o.limits.shapes v.registry m h.registry.legal le (let c = h.counted in omega (arith, lt, c));
    })

-- ---- what the commit leaves as it was

-- nothing happened to a number
pub record IsStill (v w : law.Server) (m : ℕ) : Type 0 where
  pub shape : shape_at w.shapes m ≡ shape_at v.shapes m
  pub removed : was_removed w.registry m ≡ was_removed v.registry m
  pub registered : was_registered w.registry m ≡ was_registered v.registry m
  pub ready : had_ready w.registry m ≡ had_ready v.registry m
  pub last : histories.last_lsn w.registry ≡ histories.last_lsn v.registry

pub still_same : (v : law.Server) (m : ℕ) → IsStill v v m
still_same v m = record { shape = refl; removed = refl; registered = refl; ready = refl; last = refl }

pub still_trans : (u v w : law.Server) (m : ℕ) → IsStill u v m → IsStill v w m → IsStill u w m
still_trans u v w m f g = record { shape = g.shape ∙ f.shape; removed = g.removed ∙ f.removed; registered = g.registered ∙ f.registered; ready = g.ready ∙ f.ready; last = g.last ∙ f.last }

ready_stay : (v : law.Server) (tx : Tx) (n m : ℕ) (x : Shape) (c : Option Cause) → had_ready (removed_for v tx n x c).registry m ≡ had_ready v.registry m
ready_stay v tx n m x None = refl
ready_stay v tx n m x (Some cause) = pick (is_live v.registry n) (definition_by x.reader.knows tx cause)
  where
    pick : (b : Bool) (d : Option TableDef) → had_ready (if b then redefined (with_registry v (Removed n cause)) d else v).registry m ≡ had_ready v.registry m
    pick true None = ready_stays v.registry (Removed n cause) m refl
    pick true (Some d) = ready_stays (v.registry ++ Removed n cause ∷ []) (Redefined d) m refl ∙ ready_stays v.registry (Removed n cause) m refl
    pick false d = refl

last_stays : (v : law.Server) (tx : Tx) (n : ℕ) (x : Shape) (c : Option Cause) → histories.last_lsn (removed_for v tx n x c).registry ≡ histories.last_lsn v.registry
last_stays v tx n x None = refl
last_stays v tx n x (Some cause) = pick (is_live v.registry n) (definition_by x.reader.knows tx cause)
  where
    pick : (b : Bool) (d : Option TableDef) → histories.last_lsn (if b then redefined (with_registry v (Removed n cause)) d else v).registry ≡ histories.last_lsn v.registry
    pick true None = same_last v.registry (Removed n cause) refl
    pick true (Some d) = same_last (v.registry ++ Removed n cause ∷ []) (Redefined d) refl ∙ same_last v.registry (Removed n cause) refl
    pick false d = refl

still_by : (o : Options) (tx : Tx) (v : law.Server) (n m : ℕ) (a : Option Shape) → (n ≡ m → ⊥) → IsStill v (reached_by o tx v n a) m
still_by o tx v n m None other = still_same v m
still_by o tx v n m (Some x) other = let y = with_event (comes o v tx x) x in let w = with_shape_event v n (comes o v tx x) in let c = drop_of y.reader o.limits y.events in record {
  shape = ap (λ xs. shape_at xs m) (shapes_stay w tx n y c) ∙ shape_apart (with_event (comes o v tx x)) v.shapes n m other;
  removed = others_stay w tx n m y c other;
  registered = ap (λ (rs : List Registration). list_any (λ r. r.number == m) rs) (registrations_stay w tx n y c);
  ready = ready_stay w tx n m y c;
  last = last_stays w tx n y c;
}

-- it leaves each other number as it was
pub still_apart : (o : Options) (tx : Tx) (v : law.Server) (n m : ℕ) → (n ≡ m → ⊥) → IsStill v (reached o tx v n) m
still_apart o tx v n m other = pick (is_live v.registry n)
  where
    pick : (b : Bool) → IsStill v (if b then reached_by o tx v n (shape_at v.shapes n) else v) m
    pick true = still_by o tx v n m (shape_at v.shapes n) other
    pick false = still_same v m

pub as_before : (v w : law.Server) (m : ℕ) → IsStill v w m → IsAsBefore v w m
as_before v w m h = record { removed = h.removed; ready = h.ready; log = ap log_of_shape h.shape }

pub before_trans : (u v w : law.Server) (m : ℕ) → IsAsBefore u v m → IsAsBefore v w m → IsAsBefore u w m
before_trans u v w m f g = record { removed = g.removed ∙ f.removed; ready = g.ready ∙ f.ready; log = g.log ∙ f.log }

-- ---- many numbers

either_false : (a b : Bool) → (a || b) ≡ false → (a ≡ false) × (b ≡ false)
either_false true b h = cc
either_false false b h = (refl, h)

unequal : (n m : ℕ) → (n == m) ≡ false → n ≡ m → ⊥
unequal n m e same = let t : (n == m) ≡ true = (Decides-eqb n m).1 same in cc

-- it leaves a number that is not among these as it was
pub still_all : (o : Options) (tx : Tx) (ns : List ℕ) (v : law.Server) (m : ℕ) → list_any (λ n. n == m) ns ≡ false → IsStill v (reached_all o tx v ns) m
still_all o tx [] v m h = still_same v m
still_all o tx (n ∷ ns) v m h = let b = either_false (n == m) (list_any (λ n. n == m) ns) h in
    still_trans v (reached o tx v n) (reached_all o tx (reached o tx v n) ns) m (still_apart o tx v n m (unequal n m b.0)) (still_all o tx ns (reached o tx v n) m b.1)

-- and the commit is new to it still
pub new_still : (v w : law.Server) (tx : Tx) (m : ℕ) → IsStill v w m → IsNewTo v tx m → IsNewTo w tx m
new_still v w tx m still new = record {
  noted = let e = still.last in let n = new.noted in omega (arith, e, n);
  later = λ live. subst (λ a. IfSome a (λ (x : Shape). shapes.last_lsn x.events < tx.lsn)) (sym still.shape) (new.later (sym (ap₂ (λ a b. a && not b) still.registered still.removed) ∙ live));
}

-- one number more
pub reached_more : (o : Options) (tx : Tx) (ns : List ℕ) (v : law.Server) (n : ℕ) → reached_all o tx v (ns ++ n ∷ []) ≡ reached o tx (reached_all o tx v ns) n
reached_more o tx [] v n = refl
reached_more o tx (k ∷ ns) v n = reached_more o tx ns (reached o tx v k) n

any_last : (ns : List ℕ) (n m : ℕ) → list_any (λ k. k == m) (ns ++ n ∷ []) ≡ (list_any (λ k. k == m) ns || (n == m))
any_last ns n m = any_more (λ k. k == m) ns n

-- what is as before since then is as before since later
as_after : (v w u : law.Server) (m : ℕ) → IsAsBefore v w m → IsAsBefore v u m → IsAsBefore w u m
as_after v w u m still h = record { removed = h.removed ∙ sym still.removed; ready = h.ready ∙ sym still.ready; log = h.log ∙ sym still.log }

still_back : (w u v : law.Server) (m : ℕ) → IsStill w u m → IsAsBefore v u m → IsAsBefore v w m
still_back w u v m still h = record { removed = sym still.removed ∙ h.removed; ready = sym still.ready ∙ h.ready; log = sym (ap log_of_shape still.shape) ∙ h.log }

other_than : (told : List ℕ) (n m : ℕ) → list_any (λ k. k == n) told ≡ false → list_any (λ k. k == m) told ≡ true → n ≡ m → ⊥
other_than told n m fresh there same = true≢false (sym (subst (λ k. list_any (λ j. j == k) told ≡ true) (sym same) there) ∙ fresh)

told_with : (o : Options) (tx : Tx) (v w : law.Server) (told : List ℕ) (n : ℕ) → list_any (λ k. k == n) told ≡ false → (IsAsBefore v (reached o tx w n) n → ⊥) → IsTold v w told → IsTold v (reached o tx w n) (told ++ n ∷ [])
told_with o tx v w told n fresh here h = record {
  quiet = λ m none. let b = either_false (list_any (λ k. k == m) told) (n == m) (sym (any_last told n m) ∙ none) in
      before_trans v w (reached o tx w n) m (h.quiet m b.0) (as_before w (reached o tx w n) m (still_apart o tx w n m (unequal n m b.1)));
  loud = λ m some. one_of (list_any (λ k. k == m) told) refl (n == m) refl m (sym (any_last told n m) ∙ some);
}
  where
    one_of : {m : ℕ} (a : Bool) → list_any (λ k. k == m) told ≡ a → (b : Bool) → (n == m) ≡ b → (k : ℕ) → (a || b) ≡ true → IsAsBefore v (reached o tx w n) m → ⊥
    one_of {m} true e b f k h2 same = h.loud m e (still_back w (reached o tx w n) v m (still_apart o tx w n m (other_than told n m fresh e)) same)
    one_of {m} false e true f k h2 same = here (subst (λ j. IsAsBefore v (reached o tx w n) j) (sym ((Decides-eqb n m).0 f)) same)
    one_of {m} false e false f k h2 same = cc

told_without : (o : Options) (tx : Tx) (v w : law.Server) (told : List ℕ) (n : ℕ) → list_any (λ k. k == n) told ≡ false → IsAsBefore w (reached o tx w n) n → IsTold v w told → IsTold v (reached o tx w n) told
told_without o tx v w told n fresh quiet h = record {
  quiet = λ m none. before_trans v w (reached o tx w n) m (h.quiet m none)
      (same_or_not n m (λ e. subst (λ k. IsAsBefore w (reached o tx w n) k) e quiet) (λ other. as_before w (reached o tx w n) m (still_apart o tx w n m other)));
  loud = λ m some same. h.loud m some (still_back w (reached o tx w n) v m (still_apart o tx w n m (other_than told n m fresh some)) same);
}

-- ---- many numbers, step by step

-- how far the commit has come
pub record HasCome (s : Server) (tx : Tx) (ns : List ℕ) (i : ℕ) (t : Server) (told : List ℕ) : Type 0 where
  pub come : (o : Options) (v : law.Server) → Stands o v s → ((n : ℕ) → IsNewTo v tx n) → HasReached o v tx (take i ns) t told
  pub among : (m : ℕ) → list_any (λ k. k == m) told ≡ true → list_any (λ k. k == m) (take i ns) ≡ true
  pub tables : t.tables ≡ s.tables

pub nothing_yet : (s : Server) (tx : Tx) (ns : List ℕ) → HasCome s tx ns 0 s []
nothing_yet s tx ns = record {
  come = λ o v h new. record { stands = h; told = record { quiet = λ m none. record { removed = refl; ready = refl; log = refl }; loud = λ m some. cc } };
  among = λ m some. cc;
  tables = refl;
}

-- the next number is none of those so far
still_next : (o : Options) (v : law.Server) (tx : Tx) (ns : List ℕ) (i n : ℕ) → AreApart ns → i < length ns → n ≡ get_or ns i 0 → IsStill v (reached_all o tx v (take i ns)) n
still_next o v tx ns i n apart lt is = still_all o tx (take i ns) v n (ap (λ k. list_any (λ m. m == k) (take i ns)) is ∙ apart i lt)

-- the commit is new to it
pub next_new : (o : Options) (v : law.Server) (tx : Tx) (ns : List ℕ) (i n : ℕ) → AreApart ns → i < length ns → n ≡ get_or ns i 0 → ((n : ℕ) → IsNewTo v tx n) → IsNewTo (reached_all o tx v (take i ns)) tx n
next_new o v tx ns i n apart lt is new = new_still v (reached_all o tx v (take i ns)) tx n (still_next o v tx ns i n apart lt is) (new n)

-- and was not told
fresh_next : (told ns : List ℕ) (i n : ℕ) → AreApart ns → i < length ns → n ≡ get_or ns i 0 → ((m : ℕ) → list_any (λ k. k == m) told ≡ true → list_any (λ k. k == m) (take i ns) ≡ true) → list_any (λ k. k == n) told ≡ false
fresh_next told ns i n apart lt is among = pick (list_any (λ k. k == n) told) refl
  where
    pick : (b : Bool) → list_any (λ k. k == n) told ≡ b → b ≡ false
    pick true e = sym (among n e) ∙ ap (λ k. list_any (λ m. m == k) (take i ns)) is ∙ apart i lt
    pick false e = refl

either_true : (a b c d : Bool) → (a ≡ true → c ≡ true) → (b ≡ true → d ≡ true) → (a || b) ≡ true → (c || d) ≡ true
either_true true b c d f g h = ap (λ x. x || d) (f refl)
either_true false true c d f g h = ap (λ x. c || x) (g refl) ∙ or_right c
  where
    or_right : (c : Bool) → (c || true) ≡ true
    or_right true = refl
    or_right false = refl
either_true false false c d f g h = cc

first_true : (a b : Bool) → a ≡ true → (a || b) ≡ true
first_true a b e = ap (λ x. x || b) e

among_more : (told ns : List ℕ) (n : ℕ) (b : Bool) (m : ℕ) → (list_any (λ k. k == m) told ≡ true → list_any (λ k. k == m) ns ≡ true) → list_any (λ k. k == m) (if b then told ++ n ∷ [] else told) ≡ true → list_any (λ k. k == m) (ns ++ n ∷ []) ≡ true
among_more told ns n true m among some = any_last ns n m ∙ either_true (list_any (λ k. k == m) told) (n == m) (list_any (λ k. k == m) ns) (n == m) among (λ e. e) (sym (any_last told n m) ∙ some)
among_more told ns n false m among some = any_last ns n m ∙ first_true (list_any (λ k. k == m) ns) (n == m) (among some)

told_if : (o : Options) (tx : Tx) (v w : law.Server) (told : List ℕ) (n : ℕ) (b : Bool) → IsStill v w n → list_any (λ k. k == n) told ≡ false → (b ≡ false → IsAsBefore w (reached o tx w n) n) → (b ≡ true → IsAsBefore w (reached o tx w n) n → ⊥) → IsTold v w told
    → IsTold v (reached o tx w n) (if b then told ++ n ∷ [] else told)
told_if o tx v w told n true still fresh quiet loud h = told_with o tx v w told n fresh (λ same. loud refl (as_after v w (reached o tx w n) n (as_before v w n still) same)) h
told_if o tx v w told n false still fresh quiet loud h = told_without o tx v w told n fresh (quiet refl) h

-- one number more
pub one_further : (s : Server) (tx : Tx) (ns : List ℕ) (i n : ℕ) (t t2 : Server) (told : List ℕ) (b : Bool) (more : List ℕ) → AreApart ns → i < length ns → n ≡ get_or ns i 0 → HasCome s tx ns i t told
    → more ≡ (if b then told ++ n ∷ [] else told) → t2.tables ≡ t.tables
    → ((o : Options) (v : law.Server) → Stands o v t → IsNewTo v tx n → Stands o (reached o tx v n) t2)
    → ((o : Options) (w : law.Server) → Stands o w t → IsNewTo w tx n → b ≡ false → IsAsBefore w (reached o tx w n) n)
    → ((o : Options) (w : law.Server) → Stands o w t → IsNewTo w tx n → b ≡ true → IsAsBefore w (reached o tx w n) n → ⊥) → HasCome s tx ns (i + 1) t2 more
one_further s tx ns i n t t2 told b more apart lt is h adds tables reaches quiet loud = record {
  come = λ o v st new. let w = reached_all o tx v (take i ns) in let c = h.come o v st new in let due = next_new o v tx ns i n apart lt is new in
      let same : reached_all o tx v (take (i + 1) ns) ≡ reached o tx w n = ap (reached_all o tx v) taken ∙ reached_more o tx (take i ns) v n in
      record {
        stands = subst (λ z. Stands o z t2) (sym same) (reaches o w c.stands due);
        told = subst (λ z. IsTold v z more) (sym same) (subst (IsTold v (reached o tx w n)) (sym adds)
            (told_if o tx v w told n b (still_next o v tx ns i n apart lt is) (fresh_next told ns i n apart lt is h.among) (quiet o w c.stands due) (loud o w c.stands due) c.told));
      };
  among = λ m some. ap (list_any (λ k. k == m)) taken ∙ among_more told (take i ns) n b m (h.among m) (ap (list_any (λ k. k == m)) (sym adds) ∙ some);
  tables = tables ∙ h.tables;
}
  where
    taken : take (i + 1) ns ≡ take i ns ++ n ∷ []
    taken = take_more ns i 0 lt ∙ ap (λ k. take i ns ++ k ∷ []) (sym is)

-- the commit is due at the next number
pub due_next : (s : Server) (tx : Tx) (ns : List ℕ) (i n : ℕ) (t : Server) (told : List ℕ) → AreApart ns → i < length ns → n ≡ get_or ns i 0 → HasCome s tx ns i t told → IsNoted s tx → IsDue t tx n
due_next s tx ns i n t told apart lt is h noted = record {
  options = noted.options;
  situation = reached_all noted.options tx noted.situation (take i ns);
  stands = (h.come noted.options noted.situation noted.stands noted.later).stands;
  later = next_new noted.options noted.situation tx ns i n apart lt is noted.later;
}

-- the server stands for some situation all the while
pub still_situated : (s : Server) (tx : Tx) (ns : List ℕ) (i : ℕ) (t : Server) (told : List ℕ) → HasCome s tx ns i t told → IsNoted s tx → IsSituated t
still_situated s tx ns i t told h noted = record {
  options = noted.options;
  situation = reached_all noted.options tx noted.situation (take i ns);
  stands = (h.come noted.options noted.situation noted.stands noted.later).stands;
}

-- ---- the whole commit

noted_before : (v : law.Server) (tx : Tx) (n : ℕ) → IsAsBefore v (noted v tx) n
noted_before v tx n = record { removed = removed_stays v.registry (events.Took tx.lsn tx.xid) n refl; ready = ready_stays v.registry (events.Took tx.lsn tx.xid) n refl; log = refl }

-- what the commit leaves where it has reached the live numbers
pub after_stands : (o : Options) (v : law.Server) (s t : Server) (tx : Tx) (ns answer : List ℕ) → Stands o v s → ns ≡ live_numbers v.registry → HasReached o (noted v tx) tx ns t answer → Stands o (after_commit o v tx) t
after_stands o v s t tx ns answer h is r = subst (λ w. Stands o w t) (ap (reached_all o tx (noted v tx)) is ∙ after_is o v s tx h) r.stands

pub after_told : (o : Options) (v : law.Server) (s t : Server) (tx : Tx) (ns answer : List ℕ) → Stands o v s → ns ≡ live_numbers v.registry → HasReached o (noted v tx) tx ns t answer → IsTold v (after_commit o v tx) answer
after_told o v s t tx ns answer h is r = subst (λ w. IsTold v w answer) (ap (reached_all o tx (noted v tx)) is ∙ after_is o v s tx h)
    (record {
      quiet = λ n none. before_trans v (noted v tx) (reached_all o tx (noted v tx) ns) n (noted_before v tx n) (r.told.quiet n none);
      loud = λ n some same. r.told.loud n some (as_after v (noted v tx) (reached_all o tx (noted v tx) ns) n (noted_before v tx n) same);
    })

pub both_ok : {T E : Type 0} (r : Result T E) {P : T → Type 0} {Q R : Type 0} → IfOk r P → OnOk r Q → ((x : T) → P x → Q → R) → OnOk r R
both_ok (Ok x) p q go = go x p q
both_ok (Err e) p q go = tt

pub if_ok : {T E : Type 0} (r : Result T E) {P : T → Type 0} {R : Type 0} → IfOk r P → ((x : T) → P x → R) → OnOk r R
if_ok (Ok x) p go = go x p
if_ok (Err e) p go = tt
