-- A registry that stands for its events, after one event more.
use Rattle.std.proofs.Common.{◌≡◌, ℕ, ◌+◌, ◌<◌, Bool, true, false, cond, List, [], ◌∷◌, ◌++◌, map, length, Option, Some, None, refl, sym, ap, ◌∙◌, subst, nat_cmp, arith}
use Rattle.std.proofs.lemmas.Bool.Decides.{nat_tests}
use Rattle.std.proofs.lemmas.Bool.{false≢true}
use Rattle.std.specs.Prelude.{◌||◌, ◌&&◌, not, ◌==◌, if◌then◌else◌, IfSome, IsSome, slice_set}
use Rattle.std.proofs.lemmas.List.{length-set}
use Rattle.std.specs.List.{list_any}
use Rattle.std.specs.Ordering.{eq_by_cmp}
use Rattle.std.specs.Cmp.{nat_cmp_total, unsigned_tied}
use Rattle.std.specs.FinMap as fin
use Rattle.std.specs.FinMap.{FinMap, get-insert, get-remove, same_map}
use Rattle.std.proofs.lemmas.Map.Lookups.{exact_unsigned}
use Rattle.lock_events.specs.Written.{Written}
use Rattle.shape_base.specs.declared.cause.Cause.{Cause}
use Rattle.shape_base.specs.declared.definition.TableDef.{TableDef}
use Rattle.shape_base.specs.declared.registry_event.RegistryEvent.{RegistryEvent}
use Rattle.shape_base.specs.declared.registry_event.RegistryEvent.TheVariants.{Registered, Ready, Removed, Redefined}
use Rattle.shape_base.specs.RegistryHistory.{Stands, Taken, Removal, removal_in, removals, was_removed, redefined, redefinitions, ready_in, transaction_in, transactions, made_ready, had_ready, is_live, was_registered}
use Rattle.shape_json.specs.ShapeHistory.{ShapeEvent, Snapped, snapshot_in}
use Rattle.shape_json.specs.ShapeHistory as shape
use Rattle.shape_lock.specs.Passes.{Sight}
use Rattle.front_lock.specs.Passes.{IsSameLock}
use mathlib.Core.List.{IsPrefix}
use Rattle.shape_registry.specs.State.{after, standing_in}
use Rattle.shape_registry.specs.declared.standing.Standing.TheVariants as standings
use Rattle.shape_registry.proofs.Laws.{standing_by_history}
use Rattle.shape_registry.specs.Registry.{WithKept, Adds, IsRefused}
use Rattle.shape_registry.specs.ByHistory.{refusal_after}
use Rattle.shape_registry.specs.declared.refusal.RegisterError.{RegisterError}
use Rattle.shape_registry.specs.declared.refusal.RegisterError.TheVariants as refused
use Rattle.shared_shapes.specs.Calls.{IsStartError}
use Rattle.shared_shapes.specs.Reasons.{reason_of}
use Rattle.shape_registry.proofs.Growing.{part_stays, part_grows, any_more}
use Rattle.shape_registry.proofs.Legal.{Facts, facts_of, never_registered, ready_stays}
use Rattle.shared_shapes.specs.declared.registry_data.RegistryData.{RegistryData}
use Rattle.shared_shapes.specs.Events.{Noted, plain, began, place_in, events_of, place_of}
use Rattle.shared_shapes.specs.Board.{Kept, IsKept, IsBoard, start_of, taken_lsns}
use Rattle.shared_shapes.specs.Passes.{IsLegalFor, IsServed}
use Rattle.shared_shapes.specs.Seats.{Seated, IsSeat, AreSeats}
use Rattle.shared_shapes.proofs.Places.{events_append, place_stays, place_new, no_place}

true≢false : true ≡ false → ⊥
true≢false e = false≢true (sym e)

-- ---- refusals

pub refused_is : {K : Type 0} (limit : ℕ) (es : List RegistryEvent) (identity : List ℕ) (kept : K) (e : RegisterError K) → IsRefused (refusal_after limit es identity) kept e → IsStartError limit es identity (reason_of e)
refused_is limit es identity kept (refused.Exists n k) h = h.0
refused_is limit es identity kept (refused.TooMany live most k) h = h.0
refused_is limit es identity kept (refused.NumbersSpent k) h = h.0
refused_is limit es identity kept (refused.OutOfMemory k) h = tt

-- ---- maps

if_cut : {X : Type 0} (P : X → Type 0) (b : Bool) (o : Option X) → IfSome o P → IfSome (cond b None o) P
if_cut P true o h = tt
if_cut P false o h = h

if_put : {X : Type 0} (P : X → Type 0) (b : Bool) (x : X) (o : Option X) → (b ≡ true → P x) → (b ≡ false → IfSome o P) → IfSome (cond b (Some x) o) P
if_put P true x o f g = f refl
if_put P false x o f g = g refl

if_weaker : {X : Type 0} (P Q : X → Type 0) (o : Option X) → ((x : X) → P x → Q x) → IfSome o P → IfSome o Q
if_weaker P Q None f h = tt
if_weaker P Q (Some x) f h = f x h

pub equal : (m n : ℕ) → (m == n) ≡ true → m ≡ n
equal m n e = grind (arith, nat_tests)

apart : (m n : ℕ) → (m == n) ≡ false → (n == m) ≡ false
apart m n e = grind (arith, nat_tests)

pub itself : (n : ℕ) → (n == n) ≡ true
itself n = grind (arith, nat_tests)

-- what is found after a value was put under a number: that value there, and elsewhere what was
pub put_all : {X : Type 0} (P : ℕ → X → Type 0) (m : FinMap nat_cmp X) (n : ℕ) (x : X) → P n x → ((q : ℕ) → (q == n) ≡ false → IfSome (fin.get m q) (P q)) → (q : ℕ) → IfSome (fin.get (fin.insert m n x) q) (P q)
put_all P m n x here rest q = subst (λ o. IfSome o (P q)) (sym (get-insert nat_cmp_total m n x q))
    (if_put (P q) (eq_by_cmp nat_cmp q n) x (fin.get m q)
    (λ e. subst (λ k. P k x) (sym (equal q n (sym (unsigned_tied q n) ∙ e))) here)
    (λ e. rest q (sym (unsigned_tied q n) ∙ e)))

pub cut_all : {X : Type 0} (P : ℕ → X → Type 0) (m : FinMap nat_cmp X) (n : ℕ) → ((q : ℕ) → IfSome (fin.get m q) (P q)) → (q : ℕ) → IfSome (fin.get (fin.remove m n) q) (P q)
cut_all P m n all q = subst (λ o. IfSome o (P q)) (sym (get-remove nat_cmp_total m n q)) (if_cut (P q) (eq_by_cmp nat_cmp q n) (fin.get m q) (all q))

-- a value that was put under a new number and taken away again
pub put_cut : {X : Type 0} (m : FinMap nat_cmp X) (n : ℕ) (x : X) → fin.get m n ≡ None → fin.remove (fin.insert m n x) n ≡ m
put_cut {X} m n x none = same_map nat_cmp_total exact_unsigned _ _ (λ q. get-remove nat_cmp_total (fin.insert m n x) n q ∙ ap (cond (eq_by_cmp nat_cmp q n) None) (get-insert nat_cmp_total m n x q) ∙ back (eq_by_cmp nat_cmp q n) (fin.get m q) (λ e. ap (fin.get m) (equal q n (sym (unsigned_tied q n) ∙ e)) ∙ none))
  where
    back : (b : Bool) (o : Option X) → (b ≡ true → o ≡ None) → cond b None (cond b (Some x) o) ≡ o
    back true o f = sym (f refl)
    back false o f = refl

-- ---- histories

or_true : (a b : Bool) → b ≡ true → (a || b) ≡ true
or_true true b h = refl
or_true false b h = h

and_gone : (a b : Bool) → b ≡ true → (a && not b) ≡ false
and_gone a true h = and_false a
  where
    and_false : (a : Bool) → (a && false) ≡ false
    and_false true = refl
    and_false false = refl
and_gone a false h = absurd (false≢true h)

removed_last : (es : List RegistryEvent) (n : ℕ) (cause : Cause) → was_removed (es ++ Removed n cause ∷ []) n ≡ true
removed_last es n cause = let r : Removal = record { number = n; cause = cause } in
    ap (λ (rs : List Removal). list_any (λ x. x.number == n) rs) (part_grows removal_in es (Removed n cause) r refl) ∙ any_more (λ (x : Removal). x.number == n) (removals es) r ∙ or_true (was_removed es n) (n == n) (itself n)

-- a number that was removed is not live
pub dead_after : {A : Type 0} (es : List (Noted A)) (n : ℕ) (cause : Cause) → is_live (events_of (es ++ plain (Removed n cause) ∷ [])) n ≡ false
dead_after es n cause = ap (λ l. is_live l n) (events_append es (plain (Removed n cause) ∷ [])) ∙ and_gone (was_registered (events_of es ++ Removed n cause ∷ []) n) (was_removed (events_of es ++ Removed n cause ∷ []) n) (removed_last (events_of es) n cause)

unmarked : (h : Bool) (marks : List Bool) → marks ≡ [] → (h ≡ true → marks ≡ true ∷ []) → h ≡ false
unmarked true marks none f = absurd (let q = sym none ∙ f refl in cc)
unmarked false marks none f = refl

had_other : (es : List RegistryEvent) (n m : ℕ) → (m == n) ≡ false → had_ready (es ++ Ready n ∷ []) m ≡ had_ready es m
had_other es n m h = ap (λ (ns : List ℕ). list_any (λ k. k == m) ns) (part_grows ready_in es (Ready n) n refl) ∙ any_more (λ k. k == m) (made_ready es) n ∙ ap (λ b. had_ready es m || b) (apart m n h) ∙ or_none (had_ready es m)
  where
    or_none : (b : Bool) → (b || false) ≡ b
    or_none true = refl
    or_none false = refl

catalog_length : (defs news : List TableDef) → length (redefined defs news) ≡ length defs
catalog_length defs [] = refl
catalog_length defs (d ∷ news) = catalog_length (slice_set defs d.table d) news ∙ length-set defs d.table d

-- a snapshot that came stays
snapshot_stays : (es fs : List ShapeEvent) → IsSome (snapshot_in es) → IsSome (snapshot_in (es ++ fs))
snapshot_stays [] fs h = absurd (false≢true h)
snapshot_stays (Snapped x ∷ es) fs h = h
snapshot_stays (shape.Took y n ∷ es) fs h = snapshot_stays es fs h
snapshot_stays (shape.Dropped c ∷ es) fs h = snapshot_stays es fs h

pub snapshot_on : (es gs : List ShapeEvent) → IsPrefix es gs → IsSome (snapshot_in es) → IsSome (snapshot_in gs)
snapshot_on es gs p h = subst (λ (l : List ShapeEvent). IsSome (snapshot_in l)) p.1 (snapshot_stays es p.0 h)

module _ {A : Type 0} where
  -- the place of a shape, by another pass of its lock
  pub same_place : (k k' : Sight A) (w w' : Written Bool) → IsSameLock k k' → w'.of ≡ w.of → place_in k w ≡ place_in k' w'
  same_place k k' w w' lock of = sym (ap (λ l. record { lock = l; about = k'.fixed; ready = w'.of }) lock.0 ∙ ap (λ f. record { lock = k.lock; about = f; ready = w'.of }) lock.1 ∙ ap (λ o. record { lock = k.lock; about = k.fixed; ready = o }) of)

  lsns_stay : (es : List (Noted A)) (e : Noted A) → transaction_in e.event ≡ None → taken_lsns (es ++ e ∷ []) ≡ taken_lsns es
  lsns_stay es e h = ap (λ (l : List RegistryEvent). map (λ (t : Taken). t.lsn) (transactions l)) (events_append es (e ∷ [])) ∙ ap (λ (ts : List Taken). map (λ (t : Taken). t.lsn) ts) (part_stays transaction_in (events_of es) e.event h)

  -- what is kept for a number, after an event that does not make it ready
  pub kept_on : (es : List (Noted A)) (e : Noted A) (n : ℕ) (k : Kept A) → had_ready (events_of es ++ e.event ∷ []) n ≡ had_ready (events_of es) n → IsKept es n k → IsKept (es ++ e ∷ []) n k
  kept_on es e n k same h = let all : had_ready (events_of (es ++ e ∷ [])) n ≡ had_ready (events_of es) n = ap (λ l. had_ready l n) (events_append es (e ∷ [])) ∙ same in
      record { place = place_stays es (e ∷ []) n (place_in k.pass k.ready) h.place; told = λ r. h.told (sym all ∙ r); marked = λ r. h.marked (sym all ∙ r) }

  module _ (about : RegistryData) (registry : WithKept (Kept A)) (fed : Written ℕ) (given : ℕ) (f : Option RegistryData) (es : List (Noted A)) (b : IsBoard about registry fed given f es) where
    pub board_legal : IsLegalFor f es
    board_legal = subst (λ f. IsLegalFor f es) (sym b.fixed) b.stands.legal

    facts : Facts about.limits.shapes (events_of es)
    facts = facts_of about.limits.shapes (events_of es) b.stands.legal

    pub fresh : was_registered (events_of es) (given + 1) ≡ false
    fresh = subst (λ k. was_registered (events_of es) (k + 1) ≡ false) (sym (b.count ∙ ap (λ s. s.given) b.stands.kept)) (never_registered about.limits.shapes (events_of es) facts)

    -- nobody has a seat of the next number
    pub unseated : (seats : FinMap nat_cmp (Seated A)) → AreSeats es seats → fin.get seats (given + 1) ≡ None
    unseated seats all = vacant (fin.get seats (given + 1)) (all (given + 1))
      where
        vacant : (o : Option (Seated A)) → IfSome o (IsSeat es (given + 1)) → o ≡ None
        vacant None h = refl
        vacant (Some s) h = absurd (let q = sym (no_place es (given + 1) fresh) ∙ h.at in cc)

    -- what is kept for a number
    pub kept_here : (number : ℕ) (k : Kept A) → Some k ≡ fin.get registry.kept number → IsKept es number k
    kept_here number k at = subst (λ o. IfSome o (IsKept es number)) (sym at) (b.kept number)

    -- a served table has its definition in the catalogue
    pub served_here : (table : ℕ) → IsServed f table → table < length registry.state.catalog
    served_here table h = subst (λ k. table < k) (sym (ap (λ s. length s.catalog) b.stands.kept ∙ catalog_length about.definitions.value (redefinitions (events_of es)))) (subst (λ f. IsServed f table) b.fixed h)

    -- a live number whose list has no mark waits for its snapshot
    pub starting_here : (number : ℕ) (k : Kept A) → Some k ≡ fin.get registry.kept number → k.ready.list ≡ [] → true ≡ is_live (events_of es) number → standing_in registry.state number ≡ standings.Starting
    starting_here number k at none live = standing_by_history (start_of about) (events_of es) registry.state b.stands number
        ∙ ap (λ l. if l then (if had_ready (events_of es) number then standings.Ready else standings.Starting) else standings.NotLive) (sym live)
        ∙ ap (λ h. if h then standings.Ready else standings.Starting) (unmarked (had_ready (events_of es) number) k.ready.list none (λ h. (kept_here number k at).marked h))

    -- after one event more, by which no transaction is taken
    pub board_adds : (e : Noted A) (registry' : WithKept (Kept A)) (given' : ℕ) → transaction_in e.event ≡ None → Adds registry.state e.event registry'.state → given' ≡ registry'.state.given
        → ((n : ℕ) → IfSome (fin.get registry'.kept n) (IsKept (es ++ e ∷ []) n)) → IsBoard about registry' fed given' f (es ++ e ∷ [])
    board_adds e registry' given' none adds count kept = record {
      fixed = b.fixed;
      stands = subst (λ l. Stands (start_of about) l registry'.state) (sym (events_append es (e ∷ []))) (adds (start_of about) (events_of es) b.stands);
      count = count;
      same_feed = b.same_feed;
      fed_is = b.fed_is ∙ sym (lsns_stay es e none);
      kept = kept;
    }

    -- the kept pass of a number split, and nothing else changed
    pub board_kept : (number : ℕ) (k k' : Kept A) (registry' : WithKept (Kept A)) → registry'.state ≡ registry.state → registry'.kept ≡ fin.insert registry.kept number k' → Some k ≡ fin.get registry.kept number
        → IsSameLock k.pass k'.pass → k'.pass.seen ≡ k.pass.seen → k'.ready ≡ k.ready → IsBoard about registry' fed given f es
    board_kept number k k' registry' state same at lock seen ready = let was = kept_here number k at in record {
      fixed = b.fixed;
      stands = subst (λ s. Stands (start_of about) (events_of es) s) (sym state) b.stands;
      count = b.count ∙ sym (ap (λ s. s.given) state);
      same_feed = b.same_feed;
      fed_is = b.fed_is;
      kept = λ n. subst (λ o. IfSome o (IsKept es n)) (sym (ap (λ m. fin.get m n) same))
          (put_all (IsKept es) registry.kept number k' (record {
            place = was.place ∙ ap Some (same_place k.pass k'.pass k.ready k'.ready lock (ap (λ w. w.of) ready));
            told = λ h. subst (λ (l : List ShapeEvent). IsSome (snapshot_in l)) (sym seen) (was.told h);
            marked = λ h. ap (λ w. w.list) ready ∙ was.marked h;
          }) (λ q apart. b.kept q) n);
    }

    pub board_redefined : (d : TableDef) (registry' : WithKept (Kept A)) → registry'.state ≡ after registry.state (Redefined d) → Adds registry.state (Redefined d) registry'.state → registry'.kept ≡ registry.kept
        → IsBoard about registry' fed given f (es ++ plain (Redefined d) ∷ [])
    board_redefined d registry' state adds same = board_adds (plain (Redefined d)) registry' given refl adds (b.count ∙ sym (ap (λ s. s.given) state))
        (λ n. subst (λ o. IfSome o (IsKept (es ++ plain (Redefined d) ∷ []) n)) (sym (ap (λ m. fin.get m n) same))
        (if_weaker (IsKept es n) (IsKept (es ++ plain (Redefined d) ∷ []) n) (fin.get registry.kept n) (λ k. kept_on es (plain (Redefined d)) n k (ready_stays (events_of es) (Redefined d) n refl)) (b.kept n)))

    pub board_removed : (number : ℕ) (cause : Cause) (registry' : WithKept (Kept A)) → registry'.state ≡ after registry.state (Removed number cause) → Adds registry.state (Removed number cause) registry'.state → registry'.kept ≡ fin.remove registry.kept number
        → IsBoard about registry' fed given f (es ++ plain (Removed number cause) ∷ [])
    board_removed number cause registry' state adds same = let e = plain (Removed number cause) in
        board_adds e registry' given refl adds (b.count ∙ sym (ap (λ s. s.given) state))
        (λ n. subst (λ o. IfSome o (IsKept (es ++ e ∷ []) n)) (sym (ap (λ m. fin.get m n) same))
        (cut_all (IsKept (es ++ e ∷ [])) registry.kept number
        (λ q. if_weaker (IsKept es q) (IsKept (es ++ e ∷ []) q) (fin.get registry.kept q) (λ k. kept_on es e q k (ready_stays (events_of es) (Removed number cause) q refl)) (b.kept q)) n))

    pub board_ready : (number : ℕ) (k : Kept A) (registry' : WithKept (Kept A)) → registry'.state ≡ after registry.state (Ready number) → Adds registry.state (Ready number) registry'.state → registry'.kept ≡ fin.insert registry.kept number k
        → place_of es number ≡ Some (place_in k.pass k.ready) → IsSome (snapshot_in k.pass.seen) → k.ready.list ≡ true ∷ []
        → IsBoard about registry' fed given f (es ++ plain (Ready number) ∷ [])
    board_ready number k registry' state adds same place told marked = let e = plain (Ready number) in
        board_adds e registry' given refl adds (b.count ∙ sym (ap (λ s. s.given) state))
        (λ n. subst (λ o. IfSome o (IsKept (es ++ e ∷ []) n)) (sym (ap (λ m. fin.get m n) same))
        (put_all (IsKept (es ++ e ∷ [])) registry.kept number k (record { place = place_stays es (e ∷ []) number (place_in k.pass k.ready) place; told = λ _. told; marked = λ _. marked })
        (λ q apart. if_weaker (IsKept es q) (IsKept (es ++ e ∷ []) q) (fin.get registry.kept q) (λ x. kept_on es e q x (had_other (events_of es) number q apart)) (b.kept q)) n))

    pub board_registered : (number : ℕ) (identity : List ℕ) (table : ℕ) (last : Option ℕ) (k : Kept A) (registry' : WithKept (Kept A)) → number ≡ given + 1
        → registry'.state ≡ after registry.state (Registered number identity table last) → Adds registry.state (Registered number identity table last) registry'.state → registry'.kept ≡ fin.insert registry.kept number k
        → IsBoard about registry' fed number f (es ++ began (Registered number identity table last) (place_in k.pass k.ready) ∷ [])
    board_registered number identity table last k registry' next state adds same = let e = began (Registered number identity table last) (place_in k.pass k.ready) in
        let none : was_registered (events_of es) number ≡ false = ap (λ n. was_registered (events_of es) n) next ∙ fresh in
        let unready : had_ready (events_of (es ++ e ∷ [])) number ≡ false = ap (λ l. had_ready l number) (events_append es (e ∷ [])) ∙ ready_stays (events_of es) e.event number refl ∙ facts.readied number none in
        board_adds e registry' number refl adds (next ∙ ap (λ g. g + 1) b.count ∙ sym (ap (λ s. s.given) state))
        (λ n. subst (λ o. IfSome o (IsKept (es ++ e ∷ []) n)) (sym (ap (λ m. fin.get m n) same))
        (put_all (IsKept (es ++ e ∷ [])) registry.kept number k
        (record { place = place_new es e number none (itself number); told = λ r. absurd (true≢false (sym r ∙ unready)); marked = λ r. absurd (true≢false (sym r ∙ unready)) })
        (λ q apart. if_weaker (IsKept es q) (IsKept (es ++ e ∷ []) q) (fin.get registry.kept q) (λ x. kept_on es e q x (ready_stays (events_of es) e.event q refl)) (b.kept q)) n))
