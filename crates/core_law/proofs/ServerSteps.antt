-- Each step of the server keeps what it keeps, and loses nothing.
use Rattle.std.proofs.Common.{◌≡◌, ℕ, zero, suc, ◌+◌, ◌-◌, ◌^◌, ◌≤◌, ◌<◌, Bool, true, false, not, ◌&&◌, ◌||◌, ◌==◌, List, [], ◌∷◌, ◌++◌, length, refl, sym, ◌∙◌, ap, subst, arith, length-append, Option, None, Some, ◌⊎◌, inl, inr}
use Rattle.std.specs.Bool.{if◌then◌else◌}
use Rattle.std.specs.List.{slice_get}
use Rattle.std.specs.Option.{option_map}
use Rattle.std.specs.Prelude.{nat_lt, is_none}
use Rattle.std.proofs.lemmas.Bool.{and_parts}
use Rattle.std.proofs.lemmas.Bool.Decides.{Decides-ltb, Decides-eqb, nat_tests}
use Rattle.std.proofs.lemmas.List.{append-nil, drop-append-le, drop_all}
use Rattle.shape_base.specs.declared.ask.Ask.{Ask}
use Rattle.shape_base.specs.declared.cause.Cause.{Cause}
use Rattle.shape_base.specs.declared.change.Tx.{Tx}
use Rattle.shape_base.specs.declared.definition.TableDef.{TableDef}
use Rattle.shape_base.specs.declared.registry_event.RegistryEvent.{RegistryEvent}
use Rattle.shape_base.specs.declared.registry_event.RegistryEvent.TheVariants.{Registered, Ready, Removed, Took}
use Rattle.shape_base.specs.Tables.{same_text, same_def}
use Rattle.shape_base.specs.Snapshot.{Snapshot, definition_in}
use Rattle.shape_base.specs.Shape.{have_truths}
use Rattle.shape_base.specs.RegistryHistory.{Registration, registration_in, registrations, live_registrations, had_ready, was_removed, was_registered_under, is_live, is_starting, live_under, last_id, last_lsn}
use Rattle.shape_base.proofs.Lemmas.{Decides-same_text, was_registered_under-append, was_removed-append, had_ready-append, legal_next}
use Rattle.shape_json.specs.ShapeHistory.{Reader, Snapped, taken, snapshot_in, drop_of}
use Rattle.shape_json.specs.ShapeHistory as shapes
use Rattle.shape_registry.proofs.Growing.{part_stays, part_grows}
use Rattle.shape_registry.proofs.Legal.{facts_of}
use Rattle.http_edge.specs.declared.error_code.ErrorCode.{ErrorCode}
use Rattle.http_edge.specs.declared.error_code.ErrorCode.TheVariants as codes
use Rattle.core_law.specs.Situation.{Options, Shape, Server, shape_at, reader_under}
use Rattle.core_law.specs.Steps.{with_event, with_registry, with_shape_event, redefined, with_shape, took_one, took_from, bytes_kept, all_bytes, with_commit, definition_by, removed_for, swept_from, after_commit, unless_repeat, after_commits, id_before, stale_by, untrue_by, or_else, refusal_of_snapshot, started_by, started}
use Rattle.core_law.proofs.Lists.{place_stays, one_more, last_place, place_before, some_same}
use Rattle.core_law.proofs.Server.{Alike, IsShape, FitsShape, Started, Named, Sound, GoesOn, Extends, Better, alike_same, better_same, better_trans, snapshot_comes, taken-append, alike_event, started_on, named_on, either_false, first_true, shape_stays, removes, redefines_some, at_changed_here, event_better}

-- ---- a shape is registered

at_stays : (xs ys : List Shape) (n : ℕ) (x : Shape) → shape_at xs n ≡ Some x → shape_at (xs ++ ys) n ≡ Some x
at_stays xs ys zero x h = cc
at_stays xs ys (suc i) x h = place_stays xs ys i x h

pub at_one_more : (xs : List Shape) (y : Shape) (n : ℕ) (x : Shape) → shape_at (xs ++ y ∷ []) n ≡ Some x → (shape_at xs n ≡ Some x) ⊎ ((n ≡ length xs + 1) × (y ≡ x))
at_one_more xs y zero x h = cc
at_one_more xs y (suc i) x h = elim (one_more xs y i x h) [ inl e ↦ inl e | inr e ↦ inr ((let p = e.0 in omega (arith, p)), e.1) ]

abbrev new_shape : Server → Ask → Reader → Shape
new_shape v ask reader = record { ask = ask; reader = reader; before = length v.commits; events = [] }

new_or_old : (o : Options) (v : Server) (ask : Ask) (reader : Reader) (d : TableDef) (n : ℕ) (x : Shape) → d.table ≡ ask.table → reader_under o ask d ≡ Some reader → Sound o v
    → (shape_at v.shapes n ≡ Some x) ⊎ ((n ≡ length v.shapes + 1) × (new_shape v ask reader ≡ x)) → IsShape o (with_shape v ask reader) n x
new_or_old o v ask reader d n x placed reads s (inl h) = let is = shape_stays o v (Registered (length v.shapes + 1) ask.identity ask.table (last_id v.registry)) n x (s.shapes n x h) in
    record { before = is.before; definition = is.definition; placed = is.placed; reads = is.reads; took = is.took }
new_or_old o v ask reader d n x placed reads s (inr h) = subst (λ y. IsShape o (with_shape v ask reader) n y) h.1 (record {
  before = omega arith;
  definition = d;
  placed = placed;
  reads = reads;
  took = λ live. sym (drop_all (length v.commits) v.commits (omega arith));
})

named_or : (v : Server) (ask : Ask) (reader : Reader) (i : List ℕ) (n : ℕ) (a b : Bool) → was_registered_under v.registry i n ≡ a → ((length v.shapes + 1) == n) && same_text ask.identity i ≡ b → (a || (b || false)) ≡ true → (was_registered_under v.registry i n ≡ true → Named (with_shape v ask reader) n i) → Named (with_shape v ask reader) n i
named_or v ask reader i n true b e f h old = old e
named_or v ask reader i n false false e f h old = cc
named_or v ask reader i n false true e f h old =
    let p = and_parts ((length v.shapes + 1) == n) (same_text ask.identity i) f in
    let here : suc (length v.shapes) ≡ n = let q = (Decides-eqb (length v.shapes + 1) n).0 p.0 in omega (arith, q) in
    record { shape = new_shape v ask reader; at = subst (λ m. shape_at (v.shapes ++ new_shape v ask reader ∷ []) m ≡ Some (new_shape v ask reader)) here (last_place v.shapes (new_shape v ask reader)); same = (Decides-same_text ask.identity i).0 p.1 }

-- fewer than the limit, and not all numbers are given
pub record HasRoom (limit : ℕ) (es : List RegistryEvent) : Type 0 where
  pub room : (length (live_registrations es) == limit) ≡ false
  pub few : (length (registrations es) == 2 ^ 64 - 1) ≡ false

less_by : (m n : ℕ) → m ≤ n → (m == n) ≡ false → m < n
less_by m n le other = pick (m == n) refl
  where
    pick : (b : Bool) → (m == n) ≡ b → m < n
    pick true e = cc
    pick false e = let f : m ≡ n → ⊥ = λ same. let t = (Decides-eqb m n).1 same in cc in less m n le f
      where
        less : (m n : ℕ) → m ≤ n → (m ≡ n → ⊥) → m < n
        less m n le f = grind (arith, nat_tests, le, f)

pub shape_on : (v : Server) (ask : Ask) (reader : Reader) → Extends v (with_shape v ask reader)
shape_on v ask reader = record {
  events = Registered (length v.shapes + 1) ask.identity ask.table (last_id v.registry) ∷ [];
  registry = refl;
  txs = [];
  commits = sym (append-nil v.commits);
  shapes = λ n y h. record { now = y; there = at_stays v.shapes _ n y h; alike = alike_same y };
}

pub registers : (o : Options) (v : Server) (ask : Ask) (reader : Reader) (d : TableDef) → d.table ≡ ask.table → reader_under o ask d ≡ Some reader → live_under v.registry ask.identity ≡ None → HasRoom o.limits.shapes v.registry → Better o v (with_shape v ask reader)
registers o v ask reader d placed reads free room =
    let r : Registration = record { number = length v.shapes + 1; identity = ask.identity; table = ask.table; last = last_id v.registry } in
    let e = Registered (length v.shapes + 1) ask.identity ask.table (last_id v.registry) in
    let x = new_shape v ask reader in
    let on : (n : ℕ) (y : Shape) → shape_at v.shapes n ≡ Some y → GoesOn v (with_shape v ask reader) n y = λ n y h. record { now = y; there = at_stays v.shapes _ n y h; alike = alike_same y } in
    record {
      sound = λ s. record {
        start = s.start;
        legal = legal_next o.limits.shapes v.registry e s.legal (record { next = ap (λ n. n + 1) (sym s.counted); free = free; room = less_by (length (live_registrations v.registry)) o.limits.shapes (facts_of o.limits.shapes v.registry s.legal).within room.room; last = refl });
        counted = ap length (part_grows registration_in v.registry e r refl) ∙ length-append (registrations v.registry) (r ∷ []) ∙ ap (λ n. n + 1) s.counted ∙ sym (length-append v.shapes (x ∷ []));
        few = subst (λ k. k < 2 ^ 64) (sym (length-append v.shapes (x ∷ []))) (fewer (length v.shapes) s.few (ap (λ n. n == 2 ^ 64 - 1) (sym s.counted) ∙ room.few));
        shapes = λ n y h. new_or_old o v ask reader d n y placed reads s (at_one_more v.shapes x n y h);
        ready = λ n h. started_on v (with_shape v ask reader) n (λ snap r before x at is fits. fits) (λ x at. on n x at)
            (s.ready n (first_true (had_ready v.registry n) false (sym (had_ready-append v.registry (e ∷ []) n) ∙ h) refl));
        named = λ i n h. named_or v ask reader i n (was_registered_under v.registry i n) (((length v.shapes + 1) == n) && same_text ask.identity i) refl refl
            (sym (was_registered_under-append v.registry (e ∷ []) i n) ∙ h)
            (λ old. named_on v (with_shape v ask reader) n i (λ x at. on n x at) (s.named i n old));
      };
      on = record { events = e ∷ []; registry = refl; txs = []; commits = sym (append-nil v.commits); shapes = on };
    }
  where
    fewer : (n : ℕ) → n < 2 ^ 64 → (n == 2 ^ 64 - 1) ≡ false → n + 1 < 2 ^ 64
    fewer n lt other = let l = less_by n (2 ^ 64 - 1) (let p : n < 18446744073709551616 = lt in omega (arith, p)) other in let q : n < 18446744073709551615 = l in omega (arith, q)

-- ---- a shape becomes ready

started_or : (v : Server) (n m : ℕ) (b : Bool) → (n == m) ≡ b → Started v n → (b ≡ false → Started v m) → Started v m
started_or v n m true e h k = subst (Started v) ((Decides-eqb n m).0 e) h
started_or v n m false e h k = k refl

other_ready : (es : List RegistryEvent) (n m : ℕ) → had_ready (es ++ Ready n ∷ []) m ≡ true → (n == m) ≡ false → had_ready es m ≡ true
other_ready es n m h other = first_true (had_ready es m) (had_ready (Ready n ∷ []) m) (sym (had_ready-append es (Ready n ∷ []) m) ∙ h) (ap (λ b. b || false) other)

gets_ready : (o : Options) (v : Server) (n : ℕ) → is_starting v.registry n ≡ true → Started v n → Better o v (with_registry v (Ready n))
gets_ready o v n starting st =
    let on : (m : ℕ) (x : Shape) → shape_at v.shapes m ≡ Some x → GoesOn v (with_registry v (Ready n)) m x = λ m x h. record { now = x; there = h; alike = alike_same x } in
    let keep : (m : ℕ) → Started v m → Started (with_registry v (Ready n)) m = λ m h. started_on v (with_registry v (Ready n)) m (λ snap r before x at is fits. fits) (on m) h in
    record {
      sound = λ s. record {
        start = s.start;
        legal = legal_next o.limits.shapes v.registry (Ready n) s.legal starting;
        counted = ap length (part_stays registration_in v.registry (Ready n) refl) ∙ s.counted;
        few = s.few;
        shapes = λ m x h. shape_stays o v (Ready n) m x (s.shapes m x h);
        ready = λ m h. keep m (started_or v n m (n == m) refl st (λ other. s.ready m (other_ready v.registry n m h other)));
        named = λ i m h. named_on v (with_registry v (Ready n)) m i (λ x at. on m x at) (s.named i m (first_true (was_registered_under v.registry i m) false (sym (was_registered_under-append v.registry (Ready n ∷ []) i m) ∙ h) refl));
      };
      on = record { events = Ready n ∷ []; registry = refl; txs = []; commits = sym (append-nil v.commits); shapes = on };
    }

-- ---- a commit

-- what stood in a place before the commit came
pub record ReceivedOne (es : List RegistryEvent) (tx : Tx) (n : ℕ) (o : Option Shape) (y : Shape) : Type 0 where
  pub was : Shape
  pub others : ℕ
  pub there : o ≡ Some was
  pub is : y ≡ took_one es n tx others was

-- what stands there after it
pub record ReceivesOne (es : List RegistryEvent) (tx : Tx) (n : ℕ) (o : Option Shape) (x : Shape) : Type 0 where
  pub others : ℕ
  pub there : o ≡ Some (took_one es n tx others x)

received_back : (o : Options) (es : List RegistryEvent) (tx : Tx) (n front : ℕ) (xs : List Shape) (j : ℕ) (y : Shape) → slice_get (took_from o es tx n front xs) j ≡ Some y → ReceivedOne es tx (n + j) (slice_get xs j) y
received_back o es tx n front [] j y h = cc
received_back o es tx n front (x ∷ xs) zero y h = record { was = x; others = front + all_bytes o xs; there = refl; is = let e : n + 0 ≡ n = omega arith in rw e (sym (some_same (took_one es n tx (front + all_bytes o xs) x) y h)) }
received_back o es tx n front (x ∷ xs) (suc j) y h = let e : (n + 1) + j ≡ n + suc j = omega arith in
    subst (λ m. ReceivedOne es tx m (slice_get xs j) y) e (received_back o es tx (n + 1) (front + bytes_kept o (took_one es n tx (front + all_bytes o xs) x)) xs j y h)

received_forth : (o : Options) (es : List RegistryEvent) (tx : Tx) (n front : ℕ) (xs : List Shape) (j : ℕ) (x : Shape) → slice_get xs j ≡ Some x → ReceivesOne es tx (n + j) (slice_get (took_from o es tx n front xs) j) x
received_forth o es tx n front [] j x h = cc
received_forth o es tx n front (y ∷ xs) zero x h = let e : n + 0 ≡ n = omega arith in let f : y ≡ x = cc in
    record { others = front + all_bytes o xs; there = rw e (ap (λ z. Some (took_one es n tx (front + all_bytes o xs) z)) f) }
received_forth o es tx n front (y ∷ xs) (suc j) x h = let e : (n + 1) + j ≡ n + suc j = omega arith in
    subst (λ m. ReceivesOne es tx m (slice_get (took_from o es tx (n + 1) (front + bytes_kept o (took_one es n tx (front + all_bytes o xs) y)) xs) j) x) e
    (received_forth o es tx (n + 1) (front + bytes_kept o (took_one es n tx (front + all_bytes o xs) y)) xs j x h)

pub at_received_back : (o : Options) (es : List RegistryEvent) (tx : Tx) (xs : List Shape) (n : ℕ) (y : Shape) → shape_at (took_from o es tx 1 0 xs) n ≡ Some y → ReceivedOne es tx n (shape_at xs n) y
at_received_back o es tx xs zero y h = cc
at_received_back o es tx xs (suc j) y h = let e : 1 + j ≡ suc j = omega arith in subst (λ n. ReceivedOne es tx n (slice_get xs j) y) e (received_back o es tx 1 0 xs j y h)

at_received_forth : (o : Options) (es : List RegistryEvent) (tx : Tx) (xs : List Shape) (n : ℕ) (x : Shape) → shape_at xs n ≡ Some x → ReceivesOne es tx n (shape_at (took_from o es tx 1 0 xs) n) x
at_received_forth o es tx xs zero x h = cc
at_received_forth o es tx xs (suc j) x h = let e : 1 + j ≡ suc j = omega arith in subst (λ n. ReceivesOne es tx n (slice_get (took_from o es tx 1 0 xs) j) x) e (received_forth o es tx 1 0 xs j x h)

alike_received : (tx : Tx) (others : ℕ) (x : Shape) (b : Bool) → Alike x (if b then x else with_event (shapes.Took tx others) x)
alike_received tx others x true = alike_same x
alike_received tx others x false = alike_event (shapes.Took tx others) x

pub length_received : (o : Options) (es : List RegistryEvent) (tx : Tx) (n front : ℕ) (xs : List Shape) → length (took_from o es tx n front xs) ≡ length xs
length_received o es tx n front [] = refl
length_received o es tx n front (x ∷ xs) = ap (λ n. suc n) (length_received o es tx (n + 1) (front + bytes_kept o (took_one es n tx (front + all_bytes o xs) x)) xs)

pub id_stays : (txs more : List Tx) (n : ℕ) → n ≤ length txs → id_before (txs ++ more) n ≡ id_before txs n
id_stays txs more zero le = refl
id_stays txs more (suc n) le = ap (option_map (λ (tx : Tx). tx.xid)) (place_before txs more n (omega (arith, le)))

received_shape_if : (o : Options) (v : Server) (tx : Tx) (others n : ℕ) (x : Shape) (b : Bool) → was_removed v.registry n ≡ b → IsShape o v n x → IsShape o (with_commit o v tx) n (if b then x else with_event (shapes.Took tx others) x)
received_shape_if o v tx others n x true e is = record {
  before = let l = length-append v.commits (tx ∷ []) in let p = is.before in omega (arith, l, p);
  definition = is.definition;
  placed = is.placed;
  reads = is.reads;
  took = λ live. let f = either_false (was_removed v.registry n) false (sym (was_removed-append v.registry (Took tx.lsn tx.xid ∷ []) n) ∙ live) in cc;
}
received_shape_if o v tx others n x false e is = record {
  before = let l = length-append v.commits (tx ∷ []) in let p = is.before in omega (arith, l, p);
  definition = is.definition;
  placed = is.placed;
  reads = is.reads;
  took = λ live. taken-append x.events (shapes.Took tx others ∷ []) ∙ ap (λ txs. txs ++ tx ∷ []) (is.took e) ∙ sym (drop-append-le x.before v.commits (tx ∷ []) is.before);
}

received_shape : (o : Options) (v : Server) (tx : Tx) (n : ℕ) (y : Shape) → Sound o v → ReceivedOne v.registry tx n (shape_at v.shapes n) y → IsShape o (with_commit o v tx) n y
received_shape o v tx n y s r = subst (IsShape o (with_commit o v tx) n) (sym r.is) (received_shape_if o v tx r.others n r.was (was_removed v.registry n) refl (s.shapes n r.was r.there))

fits_later : (txs more : List Tx) (r : Reader) (before : ℕ) (snap : Snapshot) → before ≤ length txs → FitsShape txs r before snap → FitsShape (txs ++ more) r before snap
fits_later txs more r before snap le h = record { definition = h.definition; last = ap (stale_by snap.visibility) (id_stays txs more before le) ∙ h.last; truths = h.truths }

commits : (o : Options) (v : Server) (tx : Tx) → nat_lt (last_lsn v.registry) tx.lsn ≡ true → Better o v (with_commit o v tx)
commits o v tx rises =
    let e = Took tx.lsn tx.xid in
    let on : (n : ℕ) (x : Shape) → shape_at v.shapes n ≡ Some x → GoesOn v (with_commit o v tx) n x = λ n x h.
    let r = at_received_forth o v.registry tx v.shapes n x h in record { now = took_one v.registry n tx r.others x; there = r.there; alike = alike_received tx r.others x (was_removed v.registry n) } in
    record {
      sound = λ s. record {
        start = s.start;
        legal = legal_next o.limits.shapes v.registry e s.legal ((Decides-ltb (last_lsn v.registry) tx.lsn).0 rises);
        counted = ap length (part_stays registration_in v.registry e refl) ∙ s.counted ∙ sym (length_received o v.registry tx 1 0 v.shapes);
        few = subst (λ k. k < 2 ^ 64) (sym (length_received o v.registry tx 1 0 v.shapes)) s.few;
        shapes = λ n y h. received_shape o v tx n y s (at_received_back o v.registry tx v.shapes n y h);
        ready = λ n h. started_on v (with_commit o v tx) n
            (λ snap r before x at is fits. fits_later v.commits (tx ∷ []) r before snap (subst (λ m. m ≤ length v.commits) is (s.shapes n x at).before) fits) (λ x at. on n x at)
            (s.ready n (first_true (had_ready v.registry n) false (sym (had_ready-append v.registry (e ∷ []) n) ∙ h) refl));
        named = λ i n h. named_on v (with_commit o v tx) n i (λ x at. on n x at) (s.named i n (first_true (was_registered_under v.registry i n) false (sym (was_registered_under-append v.registry (e ∷ []) i n) ∙ h) refl));
      };
      on = record { events = e ∷ []; registry = refl; txs = tx ∷ []; commits = refl; shapes = on };
    }

removed_for_if : (o : Options) (v : Server) (n : ℕ) (cause : Cause) (d : Option TableDef) (b : Bool) → is_live v.registry n ≡ b → Better o v (if b then redefined (with_registry v (Removed n cause)) d else v)
removed_for_if o v n cause d true live = better_trans o v (with_registry v (Removed n cause)) _ (removes o v n cause live) (redefines_some o (with_registry v (Removed n cause)) d)
removed_for_if o v n cause d false live = better_same o v

removed_for_better : (o : Options) (v : Server) (tx : Tx) (n : ℕ) (x : Shape) (cause : Option Cause) → Better o v (removed_for v tx n x cause)
removed_for_better o v tx n x None = better_same o v
removed_for_better o v tx n x (Some cause) = removed_for_if o v n cause (definition_by x.reader.knows tx cause) (is_live v.registry n) refl

swept : (o : Options) (tx : Tx) (n : ℕ) (xs : List Shape) (v : Server) → Better o v (swept_from o tx n xs v)
swept o tx n [] v = better_same o v
swept o tx n (x ∷ xs) v = let cause = drop_of x.reader o.limits x.events in
    better_trans o v (removed_for v tx n x cause) _ (removed_for_better o v tx n x cause) (swept o tx (n + 1) xs (removed_for v tx n x cause))

pub commit_better : (o : Options) (v : Server) (tx : Tx) → nat_lt (last_lsn v.registry) tx.lsn ≡ true → Better o v (after_commit o v tx)
commit_better o v tx rises = better_trans o v (with_commit o v tx) _ (commits o v tx rises) (swept o tx 1 (with_commit o v tx).shapes (with_commit o v tx))

repeat_or : (o : Options) (v : Server) (tx : Tx) (b : Bool) → nat_lt (last_lsn v.registry) tx.lsn ≡ b → Better o v (if b then after_commit o v tx else v)
repeat_or o v tx true rises = commit_better o v tx rises
repeat_or o v tx false rises = better_same o v

pub commits_better : (o : Options) (v : Server) (txs : List Tx) → Better o v (after_commits o v txs)
commits_better o v [] = better_same o v
commits_better o v (tx ∷ txs) = better_trans o v (unless_repeat o v tx) _ (repeat_or o v tx (nat_lt (last_lsn v.registry) tx.lsn) refl) (commits_better o (unless_repeat o v tx) txs)

-- ---- snapshots

pub live_from_starting : (es : List RegistryEvent) (n : ℕ) → is_starting es n ≡ true → is_live es n ≡ true
live_from_starting es n h = (and_parts (is_live es n) (not (had_ready es n)) h).0

or_none : (a b : Option ErrorCode) → or_else a b ≡ None → (a ≡ None) × (b ≡ None)
or_none None b h = (refl, h)
or_none (Some code) b h = cc

truths_if : (b : Bool) (code : ErrorCode) → (if b then None else Some code) ≡ None → b ≡ true
truths_if true code h = refl
truths_if false code h = cc

fits_if : (txs : List Tx) (x : Shape) (snap : Snapshot) (a : Bool) → same_def (definition_in snap x.reader.knows.definition.table) x.reader.knows.definition ≡ a
    → (if a then or_else (stale_by snap.visibility (id_before txs x.before)) (untrue_by x.reader.knows snap) else Some codes.DefinitionChanged) ≡ None → FitsShape txs x.reader x.before snap
fits_if txs x snap true e h = let p = or_none (stale_by snap.visibility (id_before txs x.before)) (untrue_by x.reader.knows snap) h in record { definition = e; last = p.0; truths = truths_if (have_truths x.reader.knows snap.rows) _ p.1 }
fits_if txs x snap false e h = cc

pub fits_of : (txs : List Tx) (x : Shape) (snap : Snapshot) → refusal_of_snapshot txs x snap ≡ None → FitsShape txs x.reader x.before snap
fits_of txs x snap h = fits_if txs x snap _ refl h

starts_if : (o : Options) (v : Server) (n : ℕ) (cause : Option Cause) → is_starting v.registry n ≡ true → Started v n → Better o v (started_by v n cause)
starts_if o v n (Some cause) starting st = removes o v n cause (live_from_starting v.registry n starting)
starts_if o v n None starting st = gets_ready o v n starting st

pub starts : (o : Options) (v : Server) (n : ℕ) (x : Shape) (snap : Snapshot) → shape_at v.shapes n ≡ Some x → is_starting v.registry n ≡ true → is_none (snapshot_in x.events) ≡ true → refusal_of_snapshot v.commits x snap ≡ None → Better o v (started o v n x snap)
starts o v n x snap at starting none good =
    let next = with_shape_event v n (Snapped snap) in
    better_trans o v (with_shape_event v n (Snapped snap)) _ (event_better o v n (Snapped snap) refl)
    (starts_if o (with_shape_event v n (Snapped snap)) n (drop_of x.reader o.limits (x.events ++ Snapped snap ∷ [])) starting (record {
      shape = with_event (Snapped snap) x;
      snapshot = snap;
      at = at_changed_here (with_event (Snapped snap)) v.shapes n x at;
      is = snapshot_comes x.events snap none;
      fits = fits_of v.commits x snap good;
    }))
