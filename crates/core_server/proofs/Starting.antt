-- A starting number whose snapshot came.
use Rattle.std.proofs.Common.{◌≡◌, ℕ, ◌+◌, Bool, true, false, not, ◌||◌, ◌==◌, List, [], ◌∷◌, ◌++◌, refl, ap, sym, ◌∙◌, subst, arith, Option, None, Some}
use Rattle.std.specs.Bool.{if◌then◌else◌}
use Rattle.std.specs.Prelude.{map, unwrap_or, is_some, is_none, IsSomeAnd, Result, Ok, Err, OnSome, OnOk, OnErr}
use Rattle.std.specs.List.{last_or}
use Rattle.std.specs.FinMap as fin
use Rattle.std.specs.FinMap.{FinMap}
use Rattle.std.specs.Ordering.{nat_cmp}
use Rattle.std.proofs.lemmas.Bool.{and_parts}
use Rattle.std.proofs.lemmas.Bool.Decides.{Decides-eqb}
use Rattle.std.proofs.lemmas.List.{append-nil}
use Rattle.shape_base.specs.declared.cause.Cause.{Cause}
use Rattle.shape_base.specs.declared.change.Tx.{Tx}
use Rattle.shape_base.specs.declared.limits.Limits.{Limits}
use Rattle.shape_base.specs.declared.registry_event.RegistryEvent.{RegistryEvent}
use Rattle.shape_base.specs.declared.registry_event.RegistryEvent.TheVariants.{Ready, Removed}
use Rattle.shape_base.specs.Tables.{Table}
use Rattle.shape_base.specs.Snapshot.{Snapshot}
use Rattle.shape_base.specs.RegistryHistory as histories
use Rattle.shape_base.specs.RegistryHistory.{RegistryState, LiveHandle, registration_in, was_removed, had_ready, is_live, is_starting}
use Rattle.shape_base.proofs.Lemmas.{had_ready-append}
use Rattle.shape_json.specs.ShapeHistory.{Reader, ShapeEvent, Snapped, Dropped, snapshot_in, taken, drop_of, state_by, state_after}
use Rattle.shape_json.specs.ShapeHistory as shapes
use Rattle.shape_registry.proofs.Growing.{part_stays}
use Rattle.shape_registry.proofs.Legal.{removed_stays, ready_stays}
use Rattle.shape_registry.proofs.Meanings.{may_start}
use Rattle.shape_registry.specs.declared.standing.Standing.TheVariants as standings
use Rattle.shape_registry.specs.State.{live_at, standing_of, standing_in}
use Rattle.shape_snapshot.specs.Taken.{HasTaken}
use Rattle.shape_state.specs.declared.state.Kept as states
use Rattle.shape_state.specs.declared.state.Kept.TheVariants.{Waiting, Logging, Gone}
use Rattle.shape_state.specs.declared.paged.Stage.{Stage}
use Rattle.shape_state.specs.declared.paged.Stage.TheVariants as stages
use Rattle.shape_state.specs.Standing as shape
use Rattle.shape_state.specs.Standing.{Keeps, IsUnready}
use Rattle.shape_state.specs.Answers.{stage_of, log_bytes}
use Rattle.pg_dialogue.specs.declared.login.SnapHead.{SnapHead}
use Rattle.core_law.specs.Situation.{Options, Shape, shape_at, registry_start}
use Rattle.core_law.specs.Situation as law
use Rattle.core_law.specs.Steps.{with_event, change_shape, with_registry, with_shape_event, dropped, bytes_in, bytes_kept, all_bytes, started_by}
use Rattle.core_law.proofs.Lists.{some_same}
use Rattle.core_law.proofs.Server.{snapshot_comes, taken-append}
use Rattle.core_server.specs.declared.server.Server.{Server}
use Rattle.core_server.specs.Standing.{Kept, reader_of, reader_in, IsKept, StandsFor, IsCatalog, Stands}
use Rattle.core_server.specs.Snapshots.{Snap, snapshot_of, IsUnderWay, ReadsAs, IsStarted}
use Rattle.core_server.specs.Readied.{MayReady, IsReadied, event_of, kept_by, IsSettled}
use Rattle.core_server.proofs.Maps.{removed_apart}
use Rattle.core_server.proofs.Sums.{log_bytes_is, no_bytes, bytes_changed}
use Rattle.core_server.proofs.Changing.{Changes, stands_changed}
use Rattle.core_server.proofs.Dropping.{or_false, removed_here, removed_apart_from, same_last, is_dropped, live_shape, here_removed}
use Rattle.core_server.proofs.Refusing.{not_refused}

-- ---- small facts

pub on_ok : {A E : Type 0} {P Q : Type 0} (r : Result A E) → (P → Q) → OnOk r P → OnOk r Q
on_ok (Ok x) f h = f h
on_ok (Err e) f h = tt

pub on_err : {A E : Type 0} {P Q : Type 0} (r : Result A E) → (P → Q) → OnErr r P → OnErr r Q
on_err (Ok x) f h = tt
on_err (Err e) f h = f h

pub on_some : {A : Type 0} {P : Type 0} (r : Option A) (x : A) → r ≡ Some x → OnSome r P → P
on_some None x e h = cc
on_some (Some y) x e h = h

pub some_and : {A : Type 0} {P : A → Type 0} {Q : Type 0} (a : Option A) → IsSomeAnd a P → ((x : A) → a ≡ Some x → P x → Q) → Q
some_and None h go = absurd h
some_and (Some x) h go = go x refl h

none_by : {A : Type 0} (a : Option A) → is_some a ≡ false → a ≡ None
none_by None h = refl
none_by (Some x) h = cc

not_false : (b : Bool) → not b ≡ true → b ≡ false
not_false true h = cc
not_false false h = refl

-- ---- the shape of a starting number

-- it is kept, its snapshot has not come, and it has no log
pub record IsStarting (o : Options) (v : law.Server) (n : ℕ) (x : Shape) (k : Kept) : Type 0 where
  pub kept : IsKept o v n x k
  pub none : snapshot_in x.events ≡ None
  pub no_bytes : bytes_kept o x ≡ 0

pub starting_shape : (o : Options) (v : law.Server) (s : Server) (n : ℕ) (x : Shape) (k : Kept) → Stands o v s → is_starting v.registry n ≡ true → fin.get s.registry.kept n ≡ Some k → shape_at v.shapes n ≡ Some x → IsStarting o v n x k
starting_shape o v s n x k h starting there at =
    let p = and_parts (is_live v.registry n) (not (had_ready v.registry n)) starting in
    let l = live_shape o v s n k h p.0 there in
    let kept : IsKept o v n x k = subst (λ y. IsKept o v n y k) (some_same l.shape x (sym l.at ∙ at)) l.kept in
    let none : snapshot_in x.events ≡ None = none_by (snapshot_in x.events) (kept.ready ∙ not_false (had_ready v.registry n) p.1) in
    record {
      kept = kept;
      none = none;
      no_bytes = ap (λ d. bytes_in (state_by x.reader d (snapshot_in x.events) x.events)) kept.lives ∙ ap (λ a. bytes_in (state_by x.reader None a x.events)) none;
    }

unready_by : (r : Reader) (l : Limits) (events : List ShapeEvent) (k : states.Kept) → Keeps r l events k → snapshot_in events ≡ None → IsUnready k
unready_by r l events (Waiting commits) h none = tt
unready_by r l events (Logging g) h none = let came = h.came in cc
unready_by r l events (Gone cause) h none = tt

starts : (o : Options) (v : law.Server) (s : Server) (n : ℕ) → Stands o v s → standing_in s.registry.state n ≡ standings.Starting → is_starting v.registry n ≡ true
starts o v s n h starting = may_start (registry_start o) v.registry n (subst (λ (st : RegistryState). standing_in st n ≡ standings.Starting) h.registry.kept starting)

live_if : (a : Option LiveHandle) → standing_of a ≡ standings.Starting → is_some a ≡ true
live_if None h = cc
live_if (Some l) h = refl

-- a starting number is live
pub starting_lives : (st : RegistryState) (n : ℕ) → standing_in st n ≡ standings.Starting → is_some (live_at st n) ≡ true
starting_lives st n h = live_if (live_at st n) h

-- what is kept for it may be given a snapshot
pub may_ready : (o : Options) (v : law.Server) (s : Server) (n : ℕ) (snap : Snap) → Stands o v s → standing_in s.registry.state n ≡ standings.Starting → IsSomeAnd (fin.get s.registry.kept n) (ReadsAs snap) → snap.kept.log.least ≡ s.limits.chunk → IsSomeAnd (fin.get s.registry.kept n) (MayReady snap)
may_ready o v s n snap h starting reads least = some_and (fin.get s.registry.kept n) reads (λ k there alike.
    let is = starts o v s n h starting in
    let l = live_shape o v s n k h (and_parts (is_live v.registry n) (not (had_ready v.registry n)) is).0 there in
    let q = starting_shape o v s n l.shape k h is there l.at in
    subst (λ a. IsSomeAnd a (MayReady snap)) (sym there) (record {
      unready = unready_by l.shape.reader k.state.limits l.shape.events k.state.kept q.kept.stands.keeps q.none;
      reads = alike;
      least = least ∙ ap (λ (l : Limits). l.chunk) (h.limits ∙ sym q.kept.limits);
    }))

-- ---- the registry's events

ready_here : (es : List RegistryEvent) (n : ℕ) → had_ready (es ++ Ready n ∷ []) n ≡ true
ready_here es n = had_ready-append es (Ready n ∷ []) n ∙ ap (λ b. had_ready es n || (b || false)) ((Decides-eqb n n).1 refl) ∙ or_true (had_ready es n)
  where
    or_true : (a : Bool) → (a || true) ≡ true
    or_true true = refl
    or_true false = refl

other_number : (n m : ℕ) (b : Bool) → (n == m) ≡ b → (n ≡ m → ⊥) → b ≡ false
other_number n m true e h = absurd (h ((Decides-eqb n m).0 e))
other_number n m false e h = refl

ready_apart : (es : List RegistryEvent) (n m : ℕ) → (n ≡ m → ⊥) → had_ready (es ++ Ready n ∷ []) m ≡ had_ready es m
ready_apart es n m h = had_ready-append es (Ready n ∷ []) m ∙ ap (λ b. had_ready es m || (b || false)) (other_number n m (n == m) refl h) ∙ or_false (had_ready es m)

-- ---- the server while the snapshot is taken

-- only what is kept for the number has changed
pub record IsMid (s mid : Server) (n : ℕ) : Type 0 where
  pub run : mid.run ≡ s.run
  pub limits : mid.limits ≡ s.limits
  pub tables : mid.tables ≡ s.tables
  pub total : mid.total ≡ s.total
  pub state : mid.registry.state ≡ s.registry.state
  pub others : (m : ℕ) → (n ≡ m → ⊥) → fin.get mid.registry.kept m ≡ fin.get s.registry.kept m

-- the registry of a settled server stands for the events with the one more
settled_registry : (o : Options) (v : law.Server) (s mid t : Server) (n : ℕ) (event : RegistryEvent) (kept : FinMap nat_cmp Kept) (total : ℕ) → Stands o v s → IsMid s mid n → IsSettled mid event kept total t → histories.Stands (registry_start o) (v.registry ++ event ∷ []) t.registry.state
settled_registry o v s mid t n event kept total h m c = c.adds (registry_start o) v.registry (subst (histories.Stands (registry_start o) v.registry) (sym m.state) h.registry)

settled_catalog : (o : Options) (v : law.Server) (s mid t : Server) (n : ℕ) (event : RegistryEvent) (kept : FinMap nat_cmp Kept) (total : ℕ) → Stands o v s → IsMid s mid n → IsSettled mid event kept total t → IsCatalog o.tables t.registry.state.catalog
settled_catalog o v s mid t n event kept total h m c = subst (IsCatalog o.tables) (sym (c.catalog ∙ ap (λ (st : RegistryState). st.catalog) m.state)) h.catalog

-- ---- a number that is removed

module _ (o : Options) (v : law.Server) (s mid t : Server) (n : ℕ) (cause : Cause) (event : ShapeEvent) (total : ℕ) (h : Stands o v s) (m : IsMid s mid n) (c : IsSettled mid (Removed n cause) (fin.remove mid.registry.kept n) total t) where
  removes : ((x : Shape) → shape_at v.shapes n ≡ Some x → is_some (drop_of x.reader o.limits (x.events ++ event ∷ [])) ≡ true) → t.total ≡ all_bytes o (change_shape (with_event event) v.shapes n)
      → Changes o v (with_registry (with_shape_event v n event) (Removed n cause)) s t n (with_event event)
  removes gone sum = record {
    run = c.run ∙ m.run;
    limits = c.limits ∙ m.limits;
    tables = c.tables ∙ m.tables;
    registry = settled_registry o v s mid t n (Removed n cause) (fin.remove mid.registry.kept n) total h m c;
    catalog = settled_catalog o v s mid t n (Removed n cause) (fin.remove mid.registry.kept n) total h m c;
    registered = part_stays registration_in v.registry (Removed n cause) refl;
    shapes = refl;
    removed = λ q other. removed_apart_from v.registry n q cause other;
    ready = λ q other. ready_stays v.registry (Removed n cause) q refl;
    last = let e = same_last v.registry (Removed n cause) refl in omega (arith, e);
    kept = λ q other. ap (λ k. fin.get k q) c.kept ∙ removed_apart mid.registry.kept n q other ∙ m.others q other;
    here = λ y there. here_removed o _ t n (with_event event y) _ (removed_here v.registry n cause) (gone y there);
    total = sum;
  }

  pub stands_removed : ((x : Shape) → shape_at v.shapes n ≡ Some x → is_some (drop_of x.reader o.limits (x.events ++ event ∷ [])) ≡ true) → t.total ≡ all_bytes o (change_shape (with_event event) v.shapes n)
      → Stands o (with_registry (with_shape_event v n event) (Removed n cause)) t
  stands_removed gone sum = stands_changed o v (with_registry (with_shape_event v n event) (Removed n cause)) s t n (with_event event) (removes gone sum) h

-- a starting number that is removed, and its bytes are not counted
pub stands_lost : (o : Options) (v : law.Server) (s mid t : Server) (n : ℕ) (k : Kept) (cause : Cause) → Stands o v s → is_starting v.registry n ≡ true → fin.get s.registry.kept n ≡ Some k → IsMid s mid n
    → IsSettled mid (Removed n cause) (fin.remove mid.registry.kept n) mid.total t → Stands o (dropped v n cause) t
stands_lost o v s mid t n k cause h starting there m c =
    let live = (and_parts (is_live v.registry n) (not (had_ready v.registry n)) starting).0 in
    let l = live_shape o v s n k h live there in
    let q = starting_shape o v s n l.shape k h starting there l.at in
    let sum : t.total ≡ all_bytes o (change_shape (with_event (Dropped cause)) v.shapes n) =
    let e = bytes_changed o (with_event (Dropped cause)) v.shapes n l.shape l.at in let b = no_bytes o (with_event (Dropped cause) l.shape) (is_dropped l.shape.reader o.limits l.shape.events cause) in
    let z = q.no_bytes in let a = h.total in let d = c.total in let f = m.total in omega (arith, e, b, z, a, d, f) in
    subst (λ (b : Bool). Stands o (if b then with_registry (with_shape_event v n (Dropped cause)) (Removed n cause) else with_shape_event v n (Dropped cause)) t) (sym live)
    (stands_removed o v s mid t n cause (Dropped cause) mid.total h m c (λ y at. is_dropped y.reader o.limits y.events cause) sum)

-- ---- a number that took its snapshot

last_stays : (events : List ShapeEvent) (snapshot : Snapshot) → taken (events ++ Snapped snapshot ∷ []) ≡ taken events
last_stays events snapshot = taken-append events (Snapped snapshot ∷ []) ∙ append-nil (taken events)

module _ (o : Options) (v : law.Server) (s mid t : Server) (n : ℕ) (x : Shape) (k w : Kept) (snap : Snap) (head : SnapHead) (rows : Table) (stage : Stage) (bytes : ℕ)
    (h : Stands o v s) (starting : is_starting v.registry n ≡ true) (at : shape_at v.shapes n ≡ Some x) (q : IsStarting o v n x k) (u : IsUnderWay o v.commits x head rows snap) (m : IsMid s mid n)
    (there : fin.get mid.registry.kept n ≡ Some w) (rd : IsReadied k snap stage bytes w) (c : IsSettled mid (event_of n stage) (kept_by mid.registry.kept n stage) (mid.total + bytes) t) where
  abbrev snapshot : Snapshot
  snapshot = snapshot_of head snap.vis rows

  abbrev events : List ShapeEvent
  events = x.events ++ Snapped snapshot ∷ []

  abbrev next : law.Server
  next = with_shape_event v n (Snapped snapshot)

  lived : drop_of (reader_in k) k.state.limits x.events ≡ None
  lived = ap (λ r. drop_of r k.state.limits x.events) (sym q.kept.reader) ∙ ap (λ l. drop_of x.reader l x.events) q.kept.limits ∙ q.kept.lives

  stands_old : shape.Stands (reader_in k) w.state events
  stands_old = subst (λ d. shape.Stands (reader_in k) w.state (shape.with_event d x.events (Snapped snapshot))) lived
      (rd.stands x.events snapshot (subst (λ r. shape.Stands r k.state x.events) q.kept.reader q.kept.stands) refl
      (subst (λ r. HasTaken r snap.limits snap.kept rows) (sym u.reader) (subst (λ l. HasTaken x.reader l snap.kept rows) (sym u.limits) u.taken)))

  reads : reader_in w ≡ x.reader
  reads = ap reader_of rd.test ∙ sym q.kept.reader

  limits : w.state.limits ≡ o.limits
  limits = rd.limits ∙ q.kept.limits

  stands_now : shape.Stands x.reader w.state events
  stands_now = subst (λ r. shape.Stands r w.state events) (sym q.kept.reader) stands_old

  stands_new : shape.Stands (reader_in w) w.state events
  stands_new = subst (λ r. shape.Stands r w.state events) (sym reads) stands_now

  stage_is : stage ≡ stage_of (state_after x.reader o.limits events)
  stage_is = rd.stage events stands_new ∙ ap (λ r. stage_of (state_after r w.state.limits events)) reads ∙ ap (λ l. stage_of (state_after x.reader l events)) limits

  bytes_is : bytes ≡ bytes_kept o (with_event (Snapped snapshot) x)
  bytes_is = rd.bytes events stands_new ∙ ap (λ r. log_bytes (state_after r w.state.limits events)) reads ∙ ap (λ l. log_bytes (state_after x.reader l events)) limits ∙ log_bytes_is (state_after x.reader o.limits events)

  came : snapshot_in events ≡ Some snapshot
  came = snapshot_comes x.events snapshot (ap is_none q.none)

  sum : t.total ≡ all_bytes o (change_shape (with_event (Snapped snapshot)) v.shapes n)
  sum = let e = bytes_changed o (with_event (Snapped snapshot)) v.shapes n x at in let b = bytes_is in let z = q.no_bytes in let a = h.total in let d = c.total in let f = m.total in omega (arith, e, b, z, a, d, f)

  -- ready
  kept_now : drop_of x.reader o.limits events ≡ None → IsKept o (with_registry next (Ready n)) n (with_event (Snapped snapshot) x) w
  kept_now none = record {
    reader = sym reads;
    limits = limits;
    stands = stands_now;
    lives = none;
    ready = ap is_some came ∙ sym (ready_here v.registry n);
    last = let a = q.kept.last in let e = same_last v.registry (Ready n) refl in
        let f = ap (λ txs. unwrap_or (last_or None (map (λ (tx : Tx). tx.lsn) txs)) 0) (last_stays x.events snapshot) in omega (arith, a, e, f);
  }

  stands_ready : drop_of x.reader o.limits events ≡ None → stage ≡ stages.Ready → Stands o (with_registry next (Ready n)) t
  stands_ready none is = stands_changed o v (with_registry next (Ready n)) s t n (with_event (Snapped snapshot)) (record {
    run = d.run ∙ m.run;
    limits = d.limits ∙ m.limits;
    tables = d.tables ∙ m.tables;
    registry = settled_registry o v s mid t n (Ready n) mid.registry.kept (mid.total + bytes) h m d;
    catalog = settled_catalog o v s mid t n (Ready n) mid.registry.kept (mid.total + bytes) h m d;
    registered = part_stays registration_in v.registry (Ready n) refl;
    shapes = refl;
    removed = λ p other. removed_stays v.registry (Ready n) p refl;
    ready = λ p other. ready_apart v.registry n p other;
    last = let e = same_last v.registry (Ready n) refl in omega (arith, e);
    kept = λ p other. ap (λ k. fin.get k p) d.kept ∙ m.others p other;
    here = λ y found. subst (λ y. StandsFor o (with_registry next (Ready n)) t n (with_event (Snapped snapshot) y) (was_removed (v.registry ++ Ready n ∷ []) n)) (some_same x y (sym at ∙ found))
        (here_kept (was_removed (v.registry ++ Ready n ∷ []) n) (removed_stays v.registry (Ready n) n refl ∙ not_false (was_removed v.registry n) (and_parts _ (not (was_removed v.registry n)) live).1));
    total = sum;
  }) h
    where
      d : IsSettled mid (Ready n) mid.registry.kept (mid.total + bytes) t
      d = subst (λ st. IsSettled mid (event_of n st) (kept_by mid.registry.kept n st) (mid.total + bytes) t) is c

      live : is_live v.registry n ≡ true
      live = (and_parts (is_live v.registry n) (not (had_ready v.registry n)) starting).0

      here_kept : (b : Bool) → b ≡ false → StandsFor o (with_registry next (Ready n)) t n (with_event (Snapped snapshot) x) b
      here_kept true e = cc
      here_kept false e = subst (λ a. IsSomeAnd a (IsKept o (with_registry next (Ready n)) n (with_event (Snapped snapshot) x))) (sym (ap (λ k. fin.get k n) d.kept ∙ there)) (kept_now none)

  -- dropped by a commit that waited
  stands_gone : (cause : Cause) → drop_of x.reader o.limits events ≡ Some cause → stage ≡ stages.Gone cause → Stands o (with_registry next (Removed n cause)) t
  stands_gone cause gone is = stands_removed o v s mid t n cause (Snapped snapshot) (mid.total + bytes) h m
      (subst (λ st. IsSettled mid (event_of n st) (kept_by mid.registry.kept n st) (mid.total + bytes) t) is c)
      (λ y found. subst (λ (y : Shape). is_some (drop_of y.reader o.limits (y.events ++ Snapped snapshot ∷ [])) ≡ true) (some_same x y (sym at ∙ found)) (ap is_some gone)) sum

  by_drop : (d : Option Cause) → drop_of x.reader o.limits events ≡ d → Stands o (started_by next n d) t
  by_drop None e = stands_ready e (stage_is ∙ ap (λ d. stage_of (state_by x.reader d (snapshot_in events) events)) e ∙ ap (λ a. stage_of (state_by x.reader None a events)) came)
  by_drop (Some cause) e = stands_gone cause e (stage_is ∙ ap (λ d. stage_of (state_by x.reader d (snapshot_in events) events)) e)

  -- the server stands for the situation in which the snapshot came
  pub is_started : IsStarted o v n x snapshot t
  is_started = record {
    allowed = not_refused v.commits x o.limits head rows snap.vis u.shows u.none;
    stands = by_drop (drop_of x.reader o.limits events) refl;
  }

-- ---- what the server does

-- it settles what took its snapshot
pub snapshot_started : (o : Options) (v : law.Server) (s mid t : Server) (n : ℕ) (x : Shape) (snap : Snap) (head : SnapHead) (rows : Table) (stage : Stage) (bytes : ℕ) → Stands o v s → standing_in s.registry.state n ≡ standings.Starting
    → IsSomeAnd (fin.get s.registry.kept n) (ReadsAs snap) → shape_at v.shapes n ≡ Some x → IsUnderWay o v.commits x head rows snap → IsMid s mid n
    → ((k : Kept) → fin.get s.registry.kept n ≡ Some k → IsSomeAnd (fin.get mid.registry.kept n) (IsReadied k snap stage bytes))
    → IsSettled mid (event_of n stage) (kept_by mid.registry.kept n stage) (mid.total + bytes) t → IsStarted o v n x (snapshot_of head snap.vis rows) t
snapshot_started o v s mid t n x snap head rows stage bytes h starting reads at u m readied c = some_and (fin.get s.registry.kept n) reads (λ k there alike. some_and (fin.get mid.registry.kept n) (readied k there) (λ w is rd.
    is_started o v s mid t n x k w snap head rows stage bytes h (starts o v s n h starting) at (starting_shape o v s n x k h (starts o v s n h starting) there at) u m is rd c))

-- it removes the number
pub snapshot_lost : (o : Options) (v : law.Server) (s mid t : Server) (n : ℕ) (snap : Snap) (cause : Cause) → Stands o v s → standing_in s.registry.state n ≡ standings.Starting → IsSomeAnd (fin.get s.registry.kept n) (ReadsAs snap) → IsMid s mid n
    → IsSettled mid (Removed n cause) (fin.remove mid.registry.kept n) mid.total t → Stands o (dropped v n cause) t
snapshot_lost o v s mid t n snap cause h starting reads m c = some_and (fin.get s.registry.kept n) reads (λ k there alike. stands_lost o v s mid t n k cause h (starts o v s n h starting) there m c)
