-- The id of the last commit before each number was registered.
use Rattle.std.proofs.Common.{◌≡◌, ℕ, zero, suc, ◌+◌, ◌≤◌, Bool, true, false, nat_lt, List, [], ◌∷◌, ◌++◌, length, length-append, map, refl, sym, ap, subst, ◌∙◌, arith, Option, None, Some}
use Rattle.std.specs.Prelude.{slice_get, unwrap_or}
use Rattle.std.specs.List.{AllByRecursion}
use Rattle.std.specs.Bool.{if◌then◌else◌}
use Rattle.std.specs.Option.{option_map}
use Rattle.std.proofs.lemmas.List.{map-append}
use Rattle.std.proofs.lemmas.Option.{slice_get-map}
use Rattle.shape_base.specs.declared.ask.Ask.{Ask}
use Rattle.shape_base.specs.declared.ask.Named.{Named}
use Rattle.shape_base.specs.declared.ask.Named.TheVariants.{Absent, Known, Strange}
use Rattle.shape_base.specs.declared.cause.Cause.{Cause}
use Rattle.shape_base.specs.declared.change.Tx.{Tx}
use Rattle.shape_base.specs.declared.definition.TableDef.{TableDef}
use Rattle.shape_base.specs.declared.registry_event.RegistryEvent.{RegistryEvent}
use Rattle.shape_base.specs.declared.registry_event.RegistryEvent.TheVariants.{Removed}
use Rattle.shape_base.specs.RegistryHistory.{is_live, was_removed, live_under, last_id, last_lsn}
use Rattle.shape_base.specs.Snapshot.{Snapshot}
use Rattle.shape_json.specs.ShapeHistory.{Reader, ShapeEvent, Snapped, Took, Dropped, drop_of}
use Rattle.http_edge.specs.declared.error_code.ErrorCode.{ErrorCode}
use Rattle.http_edge.specs.Lawful.{Asked, Refuses, AsksFor, refusal_to_register}
use Rattle.core_law.specs.Situation.{Options, Shape, Server, Situation, at_start, shape_at, known_of, reader_for}
use Rattle.core_law.specs.Steps.{with_event, change_at, change_shape, with_registry, with_shape_event, redefined, dropped, bytes_kept, all_bytes, took_one, took_from, with_commit, definition_by, removed_for, swept_from, after_commit, unless_repeat, after_commits, id_before, started_by, started}
use Rattle.core_law.specs.Run.{Event, after}
use Rattle.core_law.specs.Laws.{IsStart}
use Rattle.core_law.specs.Reached.{IsReached}
use Rattle.core_law.proofs.ServerSteps.{id_stays}
use Rattle.core_law.proofs.Whole.{sound_after}
use Rattle.core_machine.specs.Opening.{registered, unless_refused, first_of, named_of, opening_of, noted}
use Rattle.core_machine.specs.Snapshots.{last_at}
use Rattle.core_machine.specs.Standing.{lasts_of}

-- ---- a shape that has one event more

module _ (txs : List Tx) (e : ShapeEvent) where
  changed_lasts : (xs : List Shape) (i : ℕ) → map (λ (x : Shape). id_before txs x.before) (change_at (with_event e) xs i) ≡ map (λ (x : Shape). id_before txs x.before) xs
  changed_lasts [] i = refl
  changed_lasts (x ∷ xs) zero = refl
  changed_lasts (x ∷ xs) (suc i) = ap (λ ns. id_before txs x.before ∷ ns) (changed_lasts xs i)

  shape_lasts : (xs : List Shape) (n : ℕ) → map (λ (x : Shape). id_before txs x.before) (change_shape (with_event e) xs n) ≡ map (λ (x : Shape). id_before txs x.before) xs
  shape_lasts xs zero = refl
  shape_lasts xs (suc i) = changed_lasts xs i

-- ---- what happens to a number

pub lasts_dropped : (v : Server) (n : ℕ) (cause : Cause) → lasts_of (dropped v n cause) ≡ lasts_of v
lasts_dropped v n cause = pick (is_live v.registry n)
  where
    pick : (b : Bool) → lasts_of (if b then with_registry (with_shape_event v n (Dropped cause)) (Removed n cause) else with_shape_event v n (Dropped cause)) ≡ lasts_of v
    pick true = shape_lasts v.commits (Dropped cause) v.shapes n
    pick false = shape_lasts v.commits (Dropped cause) v.shapes n

pub lasts_redefined : (v : Server) (d : Option TableDef) → lasts_of (redefined v d) ≡ lasts_of v
lasts_redefined v None = refl
lasts_redefined v (Some d) = refl

pub lasts_started : (o : Options) (v : Server) (n : ℕ) (x : Shape) (snapshot : Snapshot) → lasts_of (started o v n x snapshot) ≡ lasts_of v
lasts_started o v n x snapshot = pick (drop_of x.reader o.limits (x.events ++ Snapped snapshot ∷ []))
  where
    pick : (d : Option Cause) → lasts_of (started_by (with_shape_event v n (Snapped snapshot)) n d) ≡ lasts_of v
    pick None = shape_lasts v.commits (Snapped snapshot) v.shapes n
    pick (Some cause) = shape_lasts v.commits (Snapped snapshot) v.shapes n

-- ---- commits

-- each shape was registered when no more commits had been shown than these
abbrev AreWithin : ℕ → List Shape → Type 0
AreWithin m xs = AllByRecursion (λ (x : Shape). x.before ≤ m) xs

within_places : (m : ℕ) (xs : List Shape) → ((i : ℕ) (x : Shape) → slice_get xs i ≡ Some x → x.before ≤ m) → AreWithin m xs
within_places m [] h = tt
within_places m (x ∷ xs) h = (h 0 x refl, within_places m xs (λ i y at. h (suc i) y at))

took_before : (events : List RegistryEvent) (n : ℕ) (tx : Tx) (others : ℕ) (x : Shape) → (took_one events n tx others x).before ≡ x.before
took_before events n tx others x = pick (was_removed events n)
  where
    pick : (b : Bool) → (if b then x else with_event (Took tx others) x).before ≡ x.before
    pick true = refl
    pick false = refl

module _ (o : Options) (tx : Tx) where
  took_within : (m : ℕ) (events : List RegistryEvent) (n front : ℕ) (xs : List Shape) → AreWithin m xs → AreWithin (m + 1) (took_from o events tx n front xs)
  took_within m events n front [] h = tt
  took_within m events n front (x ∷ xs) h =
      let y = took_one events n tx (front + all_bytes o xs) x in
      let same = took_before events n tx (front + all_bytes o xs) x in
      (let w = h.0 in omega (arith, same, w), took_within m events (n + 1) (front + bytes_kept o y) xs h.1)

  took_lasts : (txs : List Tx) (events : List RegistryEvent) (n front : ℕ) (xs : List Shape) → AreWithin (length txs) xs
      → map (λ (x : Shape). id_before (txs ++ tx ∷ []) x.before) (took_from o events tx n front xs) ≡ map (λ (x : Shape). id_before txs x.before) xs
  took_lasts txs events n front [] h = refl
  took_lasts txs events n front (x ∷ xs) h =
      let y = took_one events n tx (front + all_bytes o xs) x in
      let same = took_before events n tx (front + all_bytes o xs) x in
      let first : id_before (txs ++ tx ∷ []) y.before ≡ id_before txs x.before = ap (id_before (txs ++ tx ∷ [])) same ∙ id_stays txs (tx ∷ []) x.before h.0 in
      ap (λ (a : Option ℕ). a ∷ map (λ (z : Shape). id_before (txs ++ tx ∷ []) z.before) (took_from o events tx (n + 1) (front + bytes_kept o y) xs)) first
      ∙ ap (λ (ys : List (Option ℕ)). id_before txs x.before ∷ ys) (took_lasts txs events (n + 1) (front + bytes_kept o y) xs h.1)

  removed_shapes : (v : Server) (n : ℕ) (x : Shape) (d : Option Cause) → ((removed_for v tx n x d).shapes ≡ v.shapes) × ((removed_for v tx n x d).commits ≡ v.commits)
  removed_shapes v n x None = (refl, refl)
  removed_shapes v n x (Some cause) = pick (is_live v.registry n)
    where
      redefines : (w : Server) (d : Option TableDef) → ((redefined w d).shapes ≡ w.shapes) × ((redefined w d).commits ≡ w.commits)
      redefines w None = (refl, refl)
      redefines w (Some d) = (refl, refl)

      pick : (b : Bool) → ((if b then redefined (with_registry v (Removed n cause)) (definition_by x.reader.knows tx cause) else v).shapes ≡ v.shapes) × ((if b then redefined (with_registry v (Removed n cause)) (definition_by x.reader.knows tx cause) else v).commits ≡ v.commits)
      pick true = redefines (with_registry v (Removed n cause)) (definition_by x.reader.knows tx cause)
      pick false = (refl, refl)

  swept_shapes : (n : ℕ) (xs : List Shape) (v : Server) → ((swept_from o tx n xs v).shapes ≡ v.shapes) × ((swept_from o tx n xs v).commits ≡ v.commits)
  swept_shapes n [] v = (refl, refl)
  swept_shapes n (x ∷ xs) v =
      let d = drop_of x.reader o.limits x.events in
      let one = removed_shapes v n x d in
      let more = swept_shapes (n + 1) xs (removed_for v tx n x d) in
      (more.0 ∙ one.0, more.1 ∙ one.1)

-- what a commit leaves of the shapes and of the commits
record LastsStay (v w : Server) : Type 0 where
  lasts : lasts_of w ≡ lasts_of v
  within : AreWithin (length w.commits) w.shapes

lasts_after : (o : Options) (v : Server) (tx : Tx) → AreWithin (length v.commits) v.shapes → LastsStay v (after_commit o v tx)
lasts_after o v tx h =
    let next = with_commit o v tx in
    let same = swept_shapes o tx 1 next.shapes next in
    let longer : length (v.commits ++ tx ∷ []) ≡ length v.commits + 1 = length-append v.commits (tx ∷ []) in
    record {
      lasts = ap (λ (xs : List Shape). map (λ (x : Shape). id_before (after_commit o v tx).commits x.before) xs) same.0 ∙ ap (λ (txs : List Tx). map (λ (x : Shape). id_before txs x.before) next.shapes) same.1 ∙ took_lasts o tx v.commits v.registry 1 0 v.shapes h;
      within = subst (λ (xs : List Shape). AreWithin (length (after_commit o v tx).commits) xs) (sym same.0)
          (subst (λ (txs : List Tx). AreWithin (length txs) next.shapes) (sym same.1) (subst (λ m. AreWithin m next.shapes) (sym longer) (took_within o tx (length v.commits) v.registry 1 0 v.shapes h)));
    }

lasts_repeat : (o : Options) (v : Server) (tx : Tx) (b : Bool) → AreWithin (length v.commits) v.shapes → LastsStay v (if b then after_commit o v tx else v)
lasts_repeat o v tx true h = lasts_after o v tx h
lasts_repeat o v tx false h = record { lasts = refl; within = h }

lasts_all : (o : Options) (v : Server) (txs : List Tx) → AreWithin (length v.commits) v.shapes → lasts_of (after_commits o v txs) ≡ lasts_of v
lasts_all o v [] h = refl
lasts_all o v (tx ∷ txs) h =
    let one = lasts_repeat o v tx (nat_lt (last_lsn v.registry) tx.lsn) h in
    lasts_all o (unless_repeat o v tx) txs one.within ∙ one.lasts

within_reached : (o : Options) (s : Situation) (events : List Event) → IsStart o → s ≡ after o at_start events → AreWithin (length s.server.commits) s.server.shapes
within_reached o s events start is =
    let t = after o at_start events in
    subst (λ (t : Situation). AreWithin (length t.server.commits) t.server.shapes) (sym is)
    (within_places (length t.server.commits) t.server.shapes (λ i x at. ((sound_after o events start).shapes (suc i) x at).before))

pub lasts_committed : (o : Options) (s : Situation) (txs : List Tx) → IsStart o → IsReached o s → lasts_of (after_commits o s.server txs) ≡ lasts_of s.server
lasts_committed o s txs start reached = lasts_all o s.server txs (within_reached o s reached.events start reached.is)

-- ---- a request

module _ (o : Options) (v : Server) (last : id_before v.commits (length v.commits) ≡ last_id v.registry) where
  lasts_one : (ask : Ask) (reader : Option Reader) → noted (lasts_of v) (registered v ask reader).role (last_id v.registry) ≡ lasts_of (registered v ask reader).server
  lasts_one ask None = refl
  lasts_one ask (Some reader) = ap (λ (n : Option ℕ). lasts_of v ++ n ∷ []) (sym last) ∙ sym (map-append (λ (x : Shape). id_before v.commits x.before) v.shapes (record { ask = ask; reader = reader; before = length v.commits; events = [] } ∷ []))

  lasts_unless : (ask : Ask) (code : Option ErrorCode) → noted (lasts_of v) (unless_refused o v ask code).role (last_id v.registry) ≡ lasts_of (unless_refused o v ask code).server
  lasts_unless ask (Some code) = refl
  lasts_unless ask None = lasts_one ask (reader_for o v.registry ask)

  lasts_first : (ask : Ask) (n : Option ℕ) → noted (lasts_of v) (first_of o v ask n).role (last_id v.registry) ≡ lasts_of (first_of o v ask n).server
  lasts_first ask (Some n) = refl
  lasts_first ask None = lasts_unless ask (refusal_to_register (known_of o v) v.registry ask)

  lasts_named : (ask : Ask) (named : Named) → noted (lasts_of v) (named_of o v ask named).role (last_id v.registry) ≡ lasts_of (named_of o v ask named).server
  lasts_named ask Absent = lasts_first ask (live_under v.registry ask.identity)
  lasts_named ask (Known h) = refl
  lasts_named ask Strange = refl

  -- the last commit is noted for the number that it registers
  pub lasts_opening : (asked : Asked) → noted (lasts_of v) (opening_of o v asked).role (last_id v.registry) ≡ lasts_of (opening_of o v asked).server
  lasts_opening (Refuses code) = refl
  lasts_opening (AsksFor ask) = lasts_named ask ask.named

-- ---- what is found for a number

pub last_there : (v : Server) (lasts : List (Option ℕ)) (n : ℕ) (x : Shape) → lasts ≡ lasts_of v → shape_at v.shapes n ≡ Some x → last_at lasts n ≡ id_before v.commits x.before
last_there v lasts zero x is at = cc
last_there v lasts (suc i) x is at = ap (λ (ls : List (Option ℕ)). unwrap_or (slice_get ls i) None) is
    ∙ ap (λ (a : Option (Option ℕ)). unwrap_or a None) (slice_get-map (λ (y : Shape). id_before v.commits y.before) v.shapes i ∙ ap (option_map (λ (y : Shape). id_before v.commits y.before)) at)
