-- One number and its shape while a commit reaches it.
use Rattle.std.proofs.Common.{◌≡◌, ℕ, ◌-◌, ◌≤◌, ◌<◌, Bool, true, false, List, [], ◌∷◌, ◌++◌, true≢false, refl, ap, ap₂, sym, ◌∙◌, subst, arith, Option, None, Some}
use Rattle.std.specs.Bool.{if◌then◌else◌}
use Rattle.std.specs.Prelude.{map, is_some, unwrap_or, IfSome, IsSomeAnd, Result, Ok, Err, OnErr}
use Rattle.std.specs.List.{last_or, AllByRecursion}
use Rattle.std.specs.Option.{option_and_then, option_map, OnSome, IfNone}
use Rattle.std.proofs.lemmas.List.{map-append}
use Rattle.std.specs.FinMap as fin
use Rattle.shape_base.specs.declared.cause.Cause.{Cause}
use Rattle.shape_base.specs.declared.change.Tx.{Tx}
use Rattle.shape_base.specs.declared.definition.TableDef.{TableDef}
use Rattle.shape_base.specs.declared.registry_event.RegistryEvent.{RegistryEvent}
use Rattle.shape_base.specs.declared.registry_event.RegistryEvent.TheVariants.{Removed, Redefined}
use Rattle.shape_base.specs.RegistryHistory as histories
use Rattle.shape_base.specs.RegistryHistory.{RegistryStart, RegistryState, Registration, Taken, registrations, registration_in, transactions, transaction_in, was_registered, was_removed, had_ready, is_live, live_numbers}
use Rattle.shape_json.specs.ShapeHistory.{ShapeEvent, Snapped, Took, Dropped, snapshot_in, taken, drop_of, state_after}
use Rattle.shape_json.specs.ShapeHistory as shapes
use Rattle.shape_registry.specs.State.{after}
use Rattle.shape_registry.proofs.Growing.{part_stays}
use Rattle.shape_registry.proofs.Legal.{removed_stays, ready_stays}
use Rattle.core_law.specs.Situation.{Options, Shape, shape_at, registry_start, log_of_shape}
use Rattle.core_law.specs.Situation as law
use Rattle.core_law.specs.Steps.{with_event, with_shape_event, with_registry, redefined, definition_by, removed_for, bytes_kept, all_bytes}
use Rattle.core_law.specs.Waiting.{IsAsBefore}
use Rattle.core_server.specs.declared.server.Server.{Server}
use Rattle.core_server.specs.declared.effect.Effect.{Effect}
use Rattle.core_server.specs.Standing.{Kept, reader_of, reader_in, IsKept, StandsFor, IsCatalog, Stands}
use Rattle.shape_state.specs.Standing as standing
use Rattle.shape_state.specs.Answers.{log_bytes}
use Rattle.core_server.specs.Effects.{IsEffect, MayTake, HasTaken, others_of}
use Rattle.core_server.specs.Committing.{noted, comes, reached_by, reached, IsNewTo, HasTakenUp}
use Rattle.core_server.proofs.Maps.{removed_apart, inserted_apart, inserted_here}
use Rattle.core_server.proofs.Sums.{log_bytes_is, bytes_changed, bytes_among}
use Rattle.core_server.proofs.Places.{shape_here, same_or_not}
use Rattle.core_server.proofs.Changing.{stands_changed, stands_on}
use Rattle.core_server.proofs.Dropping.{removed_here, removed_apart_from, same_last, here_removed, Live, live_shape}
use Rattle.core_server.proofs.Effects.{definition_all}
use Rattle.core_server.proofs.Committing.{not_false}

-- ---- one number

snapshot_took : (es : List ShapeEvent) (tx : Tx) (others : ℕ) → snapshot_in (es ++ Took tx others ∷ []) ≡ snapshot_in es
snapshot_took [] tx others = refl
snapshot_took (Snapped s ∷ es) tx others = refl
snapshot_took (Took t b ∷ es) tx others = snapshot_took es tx others
snapshot_took (Dropped c ∷ es) tx others = snapshot_took es tx others

taken_took : (es : List ShapeEvent) (tx : Tx) (others : ℕ) → taken (es ++ Took tx others ∷ []) ≡ taken es ++ tx ∷ []
taken_took [] tx others = refl
taken_took (Snapped s ∷ es) tx others = taken_took es tx others
taken_took (Took t b ∷ es) tx others = ap (λ txs. t ∷ txs) (taken_took es tx others)
taken_took (Dropped c ∷ es) tx others = taken_took es tx others

last_number : (a : Option ℕ) (ns : List ℕ) (n : ℕ) → last_or a (ns ++ n ∷ []) ≡ Some n
last_number a [] n = refl
last_number a (k ∷ ns) n = last_number (Some k) ns n

last_took : (es : List ShapeEvent) (tx : Tx) (others : ℕ) → shapes.last_lsn (es ++ Took tx others ∷ []) ≡ tx.lsn
last_took es tx others = ap (λ (txs : List Tx). unwrap_or (last_or None (map (λ (tx : Tx). tx.lsn) txs)) 0) (taken_took es tx others)
    ∙ ap (λ ns. unwrap_or (last_or None ns) 0) (map-append (λ (tx : Tx). tx.lsn) (taken es) (tx ∷ []))
    ∙ ap (λ a. unwrap_or a 0) (last_number None (map (λ (tx : Tx). tx.lsn) (taken es)) tx.lsn)

same_shape : (a : Option Shape) (x y : Shape) → a ≡ Some x → a ≡ Some y → x ≡ y
same_shape a x y e f = cc

kept_ready : (o : Options) (v : law.Server) (s : Server) (n : ℕ) (x : Shape) (b : Bool) → b ≡ false → StandsFor o v s n x b → is_some (snapshot_in x.events) ≡ had_ready v.registry n
kept_ready o v s n x true e h = cc
kept_ready o v s n x false e h = pick (fin.get s.registry.kept n) h
  where
    pick : (a : Option Kept) → IsSomeAnd a (IsKept o v n x) → is_some (snapshot_in x.events) ≡ had_ready v.registry n
    pick None h = absurd h
    pick (Some k) h = h.ready

module _ (o : Options) (v : law.Server) (tx : Tx) (n : ℕ) (s t : Server) (e : Effect) (h : Stands o v s) (u : HasTakenUp o v tx n s t e) where
  -- the shape, with the commit
  abbrev event : ShapeEvent
  event = comes o v tx u.shape

  abbrev with_it : Shape
  with_it = with_event event u.shape

  abbrev taken_up : law.Server
  taken_up = with_shape_event v n event

  not_removed : was_removed v.registry n ≡ false
  not_removed = not_false (was_registered v.registry n) (was_removed v.registry n) u.live

  -- what the commit makes of the server
  pub reached_is : (c : Option Cause) → e.cause ≡ c → reached o tx v n ≡ removed_for taken_up tx n with_it c
  reached_is c is = ap (λ (b : Bool). if b then reached_by o tx v n (shape_at v.shapes n) else v) u.live ∙ ap (reached_by o tx v n) u.at ∙ ap (removed_for taken_up tx n with_it) (sym u.effect.cause ∙ is)

  sum_is : t.total ≡ all_bytes o taken_up.shapes
  sum_is = let a = u.total in let b = u.effect.total in let c = log_bytes_is (state_after u.shape.reader o.limits with_it.events) in
      let d = bytes_changed o (with_event event) v.shapes n u.shape u.at in let among = bytes_among o v.shapes n u.shape u.at in omega (arith, a, b, c, d, among)

  -- a server in which nothing else has changed
  changes : (w : law.Server) (q : Server) → q.run ≡ t.run → q.limits ≡ t.limits → q.tables ≡ t.tables → histories.Stands (registry_start o) w.registry q.registry.state → q.registry.state.catalog ≡ t.registry.state.catalog
      → registrations w.registry ≡ registrations v.registry → w.shapes ≡ taken_up.shapes → ((m : ℕ) → (n ≡ m → ⊥) → was_removed w.registry m ≡ was_removed v.registry m) → ((m : ℕ) → had_ready w.registry m ≡ had_ready v.registry m)
      → histories.last_lsn w.registry ≡ histories.last_lsn v.registry → ((m : ℕ) → (n ≡ m → ⊥) → fin.get q.registry.kept m ≡ fin.get t.registry.kept m) → q.total ≡ t.total → StandsFor o w q n with_it (was_removed w.registry n) → Stands o w q
  changes w q run limits tables registry catalog registered same removed ready last kept total here = stands_changed o v w s q n (with_event event) (record {
    run = run ∙ u.run;
    limits = limits ∙ u.limits;
    tables = tables ∙ u.tables;
    registry = registry;
    catalog = subst (IsCatalog o.tables) (sym (catalog ∙ ap (λ st. st.catalog) u.state)) h.catalog;
    registered = registered;
    shapes = same;
    removed = removed;
    ready = λ m other. ready m;
    last = omega (arith, last);
    kept = λ m other. kept m other ∙ ap (λ k. fin.get k m) u.put ∙ inserted_apart s.registry.kept n u.kept m other;
    here = λ x at. subst (λ y. StandsFor o w q n (with_event event y) (was_removed w.registry n)) (same_shape (shape_at v.shapes n) u.shape x u.at at) here;
    total = total ∙ sum_is ∙ ap (all_bytes o) (sym same);
  }) h

  is_kept : tx.lsn ≤ histories.last_lsn v.registry → e.cause ≡ None → IsKept o taken_up n with_it u.kept
  is_kept noted none = record {
    reader = u.reader;
    limits = u.its_limits;
    stands = u.stands;
    lives = sym u.effect.cause ∙ none;
    ready = ap is_some (snapshot_took u.shape.events tx (all_bytes o v.shapes - bytes_kept o u.shape)) ∙ kept_ready o v s n u.shape (was_removed v.registry n) not_removed (h.shapes n u.shape u.at);
    last = let l = last_took u.shape.events tx (all_bytes o v.shapes - bytes_kept o u.shape) in omega (arith, l, noted);
  }

  kept_if : (b : Bool) → b ≡ false → tx.lsn ≤ histories.last_lsn v.registry → e.cause ≡ None → StandsFor o taken_up t n with_it b
  kept_if true is noted none = cc
  kept_if false is noted none = subst (λ a. IsSomeAnd a (IsKept o taken_up n with_it)) (sym (ap (λ k. fin.get k n) u.put ∙ inserted_here s.registry.kept n u.kept)) (is_kept noted none)

  -- the shape goes on
  pub goes_on : tx.lsn ≤ histories.last_lsn v.registry → e.cause ≡ None → Stands o (reached o tx v n) t
  goes_on noted none = subst (λ w. Stands o w t) (sym (reached_is None none))
      (changes taken_up t refl refl refl (subst (histories.Stands (registry_start o) v.registry) (sym u.state) h.registry) refl refl refl (λ m other. refl) (λ m. refl) refl (λ m other. refl) refl
      (kept_if (was_removed v.registry n) not_removed noted none))

  -- it is removed
  pub goes_away : (q : Server) (cause : Cause) → e.cause ≡ Some cause → q.run ≡ t.run → q.limits ≡ t.limits → q.tables ≡ t.tables → histories.Stands (registry_start o) (v.registry ++ Removed n cause ∷ []) q.registry.state
      → q.registry.state.catalog ≡ t.registry.state.catalog → q.registry.kept ≡ fin.remove t.registry.kept n → q.total ≡ t.total → Stands o (with_registry taken_up (Removed n cause)) q
  goes_away q cause is run limits tables registry catalog kept total = changes (with_registry taken_up (Removed n cause)) q run limits tables registry catalog
      (part_stays registration_in v.registry (Removed n cause) refl) refl (λ m other. removed_apart_from v.registry n m cause other) (λ m. ready_stays v.registry (Removed n cause) m refl) (same_last v.registry (Removed n cause) refl)
      (λ m other. ap (λ k. fin.get k m) kept ∙ removed_apart t.registry.kept n m other) total
      (here_removed o (with_registry taken_up (Removed n cause)) q n with_it (was_removed (v.registry ++ Removed n cause ∷ []) n) (removed_here v.registry n cause) (ap is_some (sym u.effect.cause ∙ is)))

  pub removed_is : (cause : Cause) → e.cause ≡ Some cause → reached o tx v n ≡ redefined (with_registry taken_up (Removed n cause)) e.definition
  removed_is cause is = reached_is (Some cause) is
      ∙ ap (λ (b : Bool). if b then redefined (with_registry taken_up (Removed n cause)) (definition_by u.shape.reader.knows tx cause) else taken_up) u.live
      ∙ ap (redefined (with_registry taken_up (Removed n cause))) (sym (u.effect.definition ∙ ap (option_and_then (definition_by u.shape.reader.knows tx)) (sym u.effect.cause ∙ is)))

  -- where nothing is told, no answer can tell
  pub quiet_is : e.tells ≡ false → IsAsBefore v (reached o tx v n) n
  quiet_is quiet = subst (λ w. IsAsBefore v w n) (sym (reached_is None (u.effect.cause ∙ u.effect.lives quiet))) (record {
    removed = refl;
    ready = refl;
    log = ap log_of_shape (shape_here (with_event event) v.shapes n ∙ ap (option_map (with_event event)) u.at) ∙ u.effect.quiet quiet ∙ ap log_of_shape (sym u.at);
  })

  -- where something is told, an answer can tell
  pub loud_is : e.tells ≡ true → IsAsBefore v (reached o tx v n) n → ⊥
  loud_is loud same = pick e.cause refl
    where
      log_now : log_of_shape (shape_at taken_up.shapes n) ≡ log_of_shape (Some with_it)
      log_now = ap log_of_shape (shape_here (with_event event) v.shapes n ∙ ap (option_map (with_event event)) u.at)

      removed_then : (cause : Cause) (d : Option TableDef) → was_removed (redefined (with_registry taken_up (Removed n cause)) d).registry n ≡ true
      removed_then cause None = removed_here v.registry n cause
      removed_then cause (Some d) = removed_stays (v.registry ++ Removed n cause ∷ []) (Redefined d) n refl ∙ removed_here v.registry n cause

      pick : (c : Option Cause) → e.cause ≡ c → ⊥
      pick None is = u.effect.loud loud (sym u.effect.cause ∙ is) (sym log_now ∙ sym (ap (λ (w : law.Server). log_of_shape (shape_at w.shapes n)) (reached_is None is)) ∙ same.log ∙ ap log_of_shape u.at)
      pick (Some cause) is = true≢false (sym (removed_then cause e.definition) ∙ ap (λ (w : law.Server). was_removed w.registry n) (sym (removed_is cause is)) ∙ same.removed ∙ not_removed)

-- ---- a shape that is kept

module _ (o : Options) (v : law.Server) (s : Server) (n : ℕ) (k : Kept) (h : Stands o v s) (live : is_live v.registry n ≡ true) (there : fin.get s.registry.kept n ≡ Some k) where
  pub lives_here : Live o v s n k
  lives_here = live_shape o v s n k h live there

  -- the bytes of its log
  pub log_kept : log_bytes (state_after (reader_in k) k.state.limits lives_here.shape.events) ≡ bytes_kept o lives_here.shape
  log_kept = ap (λ r. log_bytes (state_after r k.state.limits lives_here.shape.events)) (sym lives_here.kept.reader) ∙ ap (λ l. log_bytes (state_after lives_here.shape.reader l lives_here.shape.events)) lives_here.kept.limits
      ∙ log_bytes_is (state_after lives_here.shape.reader o.limits lives_here.shape.events)

  later_by : (tx : Tx) (a : Option Shape) (x : Shape) → a ≡ Some x → IfSome a (λ x. shapes.last_lsn x.events < tx.lsn) → shapes.last_lsn x.events < tx.lsn
  later_by tx a x at h = subst (λ a. IfSome a (λ (x : Shape). shapes.last_lsn x.events < tx.lsn)) at h

  pub may_take : (tx : Tx) → IsNewTo v tx n → MayTake k lives_here.shape.events tx s.total
  may_take tx new = record {
    stands = subst (λ r. standing.Stands r k.state lives_here.shape.events) lives_here.kept.reader lives_here.kept.stands;
    lives = ap (λ r. drop_of r k.state.limits lives_here.shape.events) (sym lives_here.kept.reader) ∙ ap (λ l. drop_of lives_here.shape.reader l lives_here.shape.events) lives_here.kept.limits ∙ lives_here.kept.lives;
    later = later_by tx (shape_at v.shapes n) lives_here.shape lives_here.at (new.later live);
    among = let a = bytes_among o v.shapes n lives_here.shape lives_here.at in let b = log_kept in let c = h.total in omega (arith, a, b, c);
  }

  pub others_is : others_of k lives_here.shape.events s.total ≡ all_bytes o v.shapes - bytes_kept o lives_here.shape
  others_is = ap₂ (λ a b. a - b) h.total log_kept

module _ (o : Options) (v : law.Server) (s t : Server) (n : ℕ) (k k2 : Kept) (h : Stands o v s) (live : is_live v.registry n ≡ true) (there : fin.get s.registry.kept n ≡ Some k)
    (run : t.run ≡ s.run) (limits : t.limits ≡ s.limits) (tables : t.tables ≡ s.tables) (state : t.registry.state ≡ s.registry.state) (put : t.registry.kept ≡ fin.insert s.registry.kept n k2)
    (test : k2.emitter.test ≡ k.emitter.test) (its_limits : k2.state.limits ≡ k.state.limits) where
  abbrev here : Live o v s n k
  here = lives_here o v s n k h live there

  reader_then : here.shape.reader ≡ reader_in k2
  reader_then = here.kept.reader ∙ sym (ap reader_of test)

  -- it has taken the commit
  pub takes_up : (tx : Tx) (e : Effect) → IsNewTo v tx n → ((events : List ShapeEvent) → MayTake k events tx s.total → HasTaken k k2 events tx s.total e) → t.total ≡ e.total → HasTakenUp o v tx n s t e
  takes_up tx e new takes total = let x = here.shape in let taken = takes x.events ((may_take o v s n k h live there tx new)) in record {
    live = live;
    shape = x;
    at = here.at;
    run = run;
    limits = limits;
    tables = tables;
    state = state;
    kept = k2;
    put = put;
    reader = reader_then;
    its_limits = its_limits ∙ here.kept.limits;
    stands = subst (λ r. standing.Stands r k2.state (x.events ++ comes o v tx x ∷ [])) (sym here.kept.reader) (subst (λ n. standing.Stands (reader_in k) k2.state (x.events ++ Took tx n ∷ [])) (others_is o v s n k h live there) taken.stands);
    effect = subst (λ r. IsEffect r o.limits x.events tx (all_bytes o v.shapes - bytes_kept o x) e) (sym here.kept.reader)
        (subst (λ l. IsEffect (reader_in k) l x.events tx (all_bytes o v.shapes - bytes_kept o x) e) here.kept.limits (subst (λ n. IsEffect (reader_in k) k.state.limits x.events tx n e) (others_is o v s n k h live there) taken.effect));
    total = total;
  }

  stays_kept : ((events : List ShapeEvent) → standing.Stands (reader_in k) k.state events → standing.Stands (reader_in k) k2.state events) → IsKept o v n here.shape k2
  stays_kept still = record {
    reader = reader_then;
    limits = its_limits ∙ here.kept.limits;
    stands = subst (λ r. standing.Stands r k2.state here.shape.events) (sym here.kept.reader) (still here.shape.events (subst (λ r. standing.Stands r k.state here.shape.events) here.kept.reader here.kept.stands));
    lives = here.kept.lives;
    ready = here.kept.ready;
    last = here.kept.last;
  }

  stays_for : (b : Bool) → b ≡ false → IsKept o v n here.shape k2 → StandsFor o v t n here.shape b
  stays_for true e is = cc
  stays_for false e is = subst (λ a. IsSomeAnd a (IsKept o v n here.shape)) (sym (ap (λ k. fin.get k n) put ∙ inserted_here s.registry.kept n k2)) is

  -- it stands for the same events
  pub stays : ((events : List ShapeEvent) → standing.Stands (reader_in k) k.state events → standing.Stands (reader_in k) k2.state events) → t.total ≡ s.total → Stands o v t
  stays still total = record {
    run = run ∙ h.run;
    limits = limits ∙ h.limits;
    tables = tables ∙ h.tables;
    registry = subst (histories.Stands (registry_start o) v.registry) (sym state) h.registry;
    catalog = subst (IsCatalog o.tables) (sym (ap (λ st. st.catalog) state)) h.catalog;
    counted = h.counted;
    known = h.known;
    shapes = λ m y at. same_or_not n m
        (λ e. subst (λ m. shape_at v.shapes m ≡ Some y → StandsFor o v t m y (was_removed v.registry m)) e
        (λ at. subst (λ z. StandsFor o v t n z (was_removed v.registry n)) (same_shape (shape_at v.shapes n) here.shape y here.at at)
        (stays_for (was_removed v.registry n) (not_false (was_registered v.registry n) (was_removed v.registry n) live) (stays_kept still))) at)
        (λ other. stands_on o v v s t m y (was_removed v.registry m) refl (omega arith) (ap (λ k. fin.get k m) put ∙ inserted_apart s.registry.kept n k2 m other) (h.shapes m y at));
    total = total ∙ h.total;
  }

-- the new definition of a table is one of the commit's
pub definition_new : (P : TableDef → Type 0) (o : Options) (v : law.Server) (tx : Tx) (n : ℕ) (s t : Server) (e : Effect) → HasTakenUp o v tx n s t e → AllByRecursion P tx.defs → IfSome e.definition P
definition_new P o v tx n s t e u all = subst (λ a. IfSome a P) (sym u.effect.definition) (definition_all P u.shape.reader.knows tx (drop_of u.shape.reader o.limits (u.shape.events ++ comes o v tx u.shape ∷ [])) all)

-- ---- what a registry gives back

pub some_back : {K : Type 0} (r : Option K) {P : Type 0} → is_some r ≡ true → OnSome r P → P
some_back None e h = cc
some_back (Some k) e h = h

pub catalog_back : {K : Type 0} (r : Option K) (old new : RegistryState) {P : Type 0} (n : ℕ) (cause : Cause) → OnSome r (new ≡ after old (Removed n cause)) → IfNone r P → (P → new ≡ old) → new.catalog ≡ old.catalog
catalog_back None old new n cause h g same = ap (λ (st : RegistryState). st.catalog) (same g)
catalog_back (Some k) old new n cause h g same = ap (λ (st : RegistryState). st.catalog) h

-- ---- small steps of the calls

-- the registry from which the number was removed
pub away : (o : Options) (v : law.Server) (tx : Tx) (n : ℕ) (s t : Server) (e : Effect) (h : Stands o v s) (u : HasTakenUp o v tx n s t e) (q : Server) (cause : Cause) → e.cause ≡ Some cause → q.run ≡ t.run → q.limits ≡ t.limits → q.tables ≡ t.tables
    → ((start : RegistryStart) (es : List RegistryEvent) → histories.Stands start es t.registry.state → is_live es n ≡ true → histories.Stands start (es ++ Removed n cause ∷ []) q.registry.state)
    → q.registry.state.catalog ≡ t.registry.state.catalog → q.registry.kept ≡ fin.remove t.registry.kept n → q.total ≡ t.total → Stands o (with_registry (with_shape_event v n (comes o v tx u.shape)) (Removed n cause)) q
away o v tx n s t e h u q cause is run limits tables removed catalog kept total = goes_away o v tx n s t e h u q cause is run limits tables
    (removed (registry_start o) v.registry (subst (histories.Stands (registry_start o) v.registry) (sym u.state) h.registry) u.live) catalog kept total

pub on_some_is : {A : Type 0} (r : Option A) (x : A) {P : Type 0} → r ≡ Some x → OnSome r P → P
on_some_is r x {P} is h = subst (λ r. OnSome r P) is h

pub on_any_err : {T E : Type 0} (r : Result T E) {P : Type 0} → P → OnErr r P
on_any_err (Ok x) p = tt
on_any_err (Err e) p = p
