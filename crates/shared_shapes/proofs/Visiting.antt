-- A caller's seats and its own events as its asks go on.
use Rattle.std.proofs.Common.{◌≡◌, ℕ, Bool, true, false, cond, List, [], ◌∷◌, ◌++◌, Option, Some, None, refl, sym, ap, ◌∙◌, subst, append_assoc, append-nil, nat_cmp, ◌+◌, ◌-◌, ◌^◌, ◌<◌, ◌≤◌, length, arith, ⊎_elim, min}
use Rattle.std.specs.Prelude.{IfSome, IsSome, IsSomeAnd, Result, Ok, Err, IfOk}
use Rattle.shape_base.specs.declared.memory.OutOfMemory.{OutOfMemory}
use Rattle.std.proofs.Math.Nat.{min-eq_left, min-eq_right}
use Rattle.std.proofs.lemmas.Bool.{cases_lt}
use Rattle.shape_base.specs.RegistryHistory.{transactions, taken_before}
use Rattle.shape_json.specs.Body.{capped}
use Rattle.shape_lock.specs.declared.calls.Looked.{Looked}
use Rattle.std.specs.Ordering.{eq_by_cmp}
use Rattle.std.specs.Cmp.{nat_cmp_total, unsigned_tied}
use Rattle.std.specs.FinMap as fin
use Rattle.std.specs.FinMap.{FinMap, get-insert}
use mathlib.Core.List.{IsPrefix}
use Rattle.atomic_table.specs.Seated.{TableId}
use Rattle.front_lock.specs.Passes.{mine}
use Rattle.shape_base.specs.declared.cause.Cause.{Cause}
use Rattle.shape_base.specs.declared.limits.Limits.{Limits}
use Rattle.shape_base.specs.declared.offset.Offset.{Offset}
use Rattle.shape_base.specs.declared.ask.Ask.{Ask}
use Rattle.shape_base.specs.Snapshot.{Snapshot}
use Rattle.shape_base.specs.Tables.{Values}
use Rattle.shape_base.specs.Shape.{Knows}
use Rattle.shape_base.specs.RegistryHistory.{IsLegal}
use Rattle.shape_json.specs.ShapeHistory.{taken, Reader, ShapeEvent, ShapeState, Starting, Ready, Gone, snapshot_in, or_else, drop_at, drop_from, drop_of, state_by, state_after}
use Rattle.shape_state.specs.declared.paged.Paged as pages
use Rattle.shape_state.specs.declared.paged.Paged.TheVariants as paged
use Rattle.shape_state.specs.Answers.{IsPagedOf, IsPaged}
use Rattle.shape_registry.specs.declared.found.Found.{Found}
use Rattle.shape_registry.specs.declared.found.Found.TheVariants as found
use Rattle.shape_registry.specs.ByHistory.{found_after}
use Rattle.shape_lock.proofs.Lengths.{prefix_trans}
use Rattle.shape_lock.specs.declared.start.ShapeStart.{ShapeStart}
use Rattle.shape_lock.specs.Starts.{reader_in, state_in, drop_in, IsPagedIn}
use Rattle.shared_shapes.specs.declared.registry_data.RegistryData.{RegistryData}
use Rattle.shared_shapes.specs.declared.asked.Asked.{Asked}
use Rattle.shared_shapes.specs.declared.asked.Asked.TheVariants as asked
use Rattle.shared_shapes.specs.Events.{Noted, events_of}
use Rattle.shared_shapes.specs.Passes.{RegSight, StepsOn, IsLegalFor, shapes_in, removed_if}
use Rattle.shared_shapes.specs.Seats.{Seated, IsSeat, AreSeats, AtSeat}
use Rattle.shared_shapes.specs.Asking.{run_in, IsTold, IsShaped, Follows, IsOn, AreOn, Admits, Looks, Visits, start_of, waits_of, log_in, log_of, chunk_in, shape_of, situation, IsSource, taken_of, came, Answers, IsGoneAs, AreRemovals, AsksOn}
use Rattle.shared_shapes.proofs.Boards.{equal, itself}
use Rattle.shared_shapes.proofs.Seating.{seats_put, seat_here}
use Rattle.shared_shapes.proofs.Found.{told_says, shaped_says, ready_found, IsFoundReady}

-- ---- seats

module _ {A : Type 0} where
  pub seat_follows : (es : List (Noted A)) (n : ℕ) (s s' : Seated A) → Follows s s' → IsSeat es n s → IsSeat es n s'
  seat_follows es n s s' on h = record { place = h.place; at = h.at; lock = on.lock.0 ∙ h.lock; about = on.lock.1 ∙ h.about; right = subst (λ (o : Option TableId). IfSome o (λ l. l ≡ h.place.ready)) (sym on.right) h.right }

  follows_refl : (s : Seated A) → Follows s s
  follows_refl s = record { lock = (refl, refl); seen = ([], append-nil s.pass.seen); mine = refl; right = refl }

  follows_trans : (a b c : Seated A) → Follows a b → Follows b c → Follows a c
  follows_trans a b c x y = record { lock = (y.lock.0 ∙ x.lock.0, y.lock.1 ∙ x.lock.1); seen = prefix_trans a.pass.seen b.pass.seen c.pass.seen x.seen y.seen; mine = y.mine ∙ x.mine; right = y.right ∙ x.right }

  on_refl : (o : Option (Seated A)) → IsOn o o
  on_refl None = tt
  on_refl (Some s) = follows_refl s

  on_trans : (a b c : Option (Seated A)) → IsOn a b → IsOn b c → IsOn a c
  on_trans None None None x y = tt
  on_trans None None (Some c) x y = y
  on_trans None (Some b) None x y = absurd y
  on_trans None (Some b) (Some c) x y = y.mine ∙ x
  on_trans (Some a) None c x y = absurd x
  on_trans (Some a) (Some b) None x y = absurd y
  on_trans (Some a) (Some b) (Some c) x y = follows_trans a b c x y

  pub are_same : (seats : FinMap nat_cmp (Seated A)) → AreOn seats seats
  are_same seats = λ n. on_refl (fin.get seats n)

  pub are_trans : (x y z : FinMap nat_cmp (Seated A)) → AreOn x y → AreOn y z → AreOn x z
  are_trans x y z a b = λ n. on_trans (fin.get x n) (fin.get y n) (fin.get z n) (a n) (b n)

  on_if : (b : Bool) (o : Option (Seated A)) (s : Seated A) → (b ≡ true → IsOn o (Some s)) → IsOn o (cond b (Some s) o)
  on_if true o s f = f refl
  on_if false o s f = on_refl o

  on_put : (seats seats' : FinMap nat_cmp (Seated A)) (n : ℕ) (s : Seated A) → seats' ≡ fin.insert seats n s → IsOn (fin.get seats n) (Some s) → AreOn seats seats'
  on_put seats seats' n s now here = λ q. subst (λ m. IsOn (fin.get seats q) (fin.get m q)) (sym now)
      (subst (λ o. IsOn (fin.get seats q) o) (sym (get-insert nat_cmp_total seats n s q))
      (on_if (eq_by_cmp nat_cmp q n) (fin.get seats q) s (λ e. subst (λ k. IsOn (fin.get seats k) (Some s)) (sym (equal q n (sym (unsigned_tied q n) ∙ e))) here)))

  pub got : (seats seats' : FinMap nat_cmp (Seated A)) (n : ℕ) (s : Seated A) → seats' ≡ fin.insert seats n s → fin.get seats' n ≡ Some s
  got seats seats' n s now = ap (λ m. fin.get m n) now ∙ get-insert nat_cmp_total seats n s n ∙ ap (λ b. cond b (Some s) (fin.get seats n)) (unsigned_tied n n ∙ itself n)

  pub there : (o : Option (Seated A)) (s : Seated A) → o ≡ Some s → IsSome o
  there o s e = subst (λ (o : Option (Seated A)). IsSome o) (sym e) refl

  some_is : (a b : Seated A) → Some a ≡ Some b → a ≡ b
  some_is a b e = cc

  same_place_of : (es : List (Noted A)) (n : ℕ) (s v : Seated A) → IsSeat es n s → IsSeat es n v → s.pass.lock ≡ v.pass.lock
  same_place_of es n s v a b = let p : a.place ≡ b.place = (let e = sym a.at ∙ b.at in cc) in a.lock ∙ ap (λ p. p.lock) p ∙ sym b.lock

  -- two seats of one number are of one lock
  pub same_lock_at : (es : List (Noted A)) (n : ℕ) (v : Seated A) (o : Option (Seated A)) → IfSome o (IsSeat es n) → IsSeat es n v → IfSome o (λ s. s.pass.lock ≡ v.pass.lock)
  same_lock_at es n v None h b = tt
  same_lock_at es n v (Some s) h b = same_place_of es n s v h b

  module _ (seats seats' : FinMap nat_cmp (Seated A)) (n : ℕ) (v : Seated A) (a : Admits seats seats' n v) where
    pub admits_on : AreOn seats seats'
    admits_on = on_put seats seats' n a.after a.now a.on

    pub admits_known : (es : List (Noted A)) → AreSeats es seats → IsSeat es n v → AreSeats es seats'
    admits_known es all h = subst (λ m. AreSeats es m) (sym a.now) (seats_put es seats n a.after all (a.known es (all n) h))

module _ {A : Type 0} (knows : A → Knows) (unread : A → Values → ℕ → Bool) (seats middle seats' : FinMap nat_cmp (Seated A)) (n : ℕ) (v : Seated A) (offset : Offset) (live late : Bool)
    (r : Result Looked OutOfMemory) (a : Admits seats middle n v) (l : AtSeat middle seats' n (Looks knows unread offset live late r)) where
  same_seat : l.before ≡ a.after
  same_seat = some_is l.before a.after (sym l.was ∙ got seats middle n a.after a.now)

  pub visit_on : AreOn seats seats'
  visit_on = are_trans seats middle seats' (admits_on seats middle n v a) (on_put middle seats' n l.after l.now (subst (λ o. IsOn o (Some l.after)) (sym l.was) l.on.on))

  pub visit_known : (es : List (Noted A)) → AreSeats es seats → IsSeat es n v → AreSeats es seats'
  visit_known es all h = let all' = admits_known seats middle n v a es all h in
      subst (λ m. AreSeats es m) (sym l.now) (seats_put es middle n l.after all' (seat_follows es n l.before l.after l.on.on (seat_here es middle n l.before all' (sym l.was))))

  visits_if : (x : Result Looked OutOfMemory) → IfOk x (λ q. IsPagedIn knows unread l.after.pass.fixed l.after.pass.seen offset live late q.paged) → IfOk x (λ q. q.took ≡ capped (length (taken l.after.pass.seen))) → IfOk x (Visits knows unread seats' n v offset live late)
  visits_if (Ok p) h t = record {
    after = l.after;
    now = got middle seats' n l.after l.now;
    seen = prefix_trans v.pass.seen l.before.pass.seen l.after.pass.seen (subst (λ (s : Seated A). IsPrefix v.pass.seen s.pass.seen) (sym same_seat) a.seen) l.on.on.seen;
    legal = l.on.legal;
    paged_is = h;
    took_is = t;
  }
  visits_if (Err e) h t = tt

  pub visits : IfOk r (Visits knows unread seats' n v offset live late)
  visits = visits_if r l.on.paged_is l.on.took_is

-- ---- a shape

else_on : (o p q : Option Cause) (c : Cause) → (p ≡ Some c → q ≡ Some c) → or_else o p ≡ Some c → or_else o q ≡ Some c
else_on None p q c f h = f h
else_on (Some x) p q c f h = h

drop_front : (r : Reader) (l : Limits) (before es fs : List ShapeEvent) (c : Cause) → drop_from r l before es ≡ Some c → drop_from r l before (es ++ fs) ≡ Some c
drop_front r l before [] fs c h = absurd (cc)
drop_front r l before (e ∷ es) fs c h = else_on (drop_at r l before e) (drop_from r l (before ++ e ∷ []) es) (drop_from r l (before ++ e ∷ []) (es ++ fs)) c (drop_front r l (before ++ e ∷ []) es fs c) h

starting_not : (r : Reader) (d : Option Cause) (sn : Option Snapshot) (es : List ShapeEvent) (chunk : ℕ) (o : Offset) (live late : Bool) (p : pages.Paged) → IsSome sn → IsPaged chunk (state_by r d sn es) o live late p → p ≡ paged.Starting → ⊥
starting_not r (Some c) sn es chunk o live late p s h e = (let q = sym h ∙ e in cc)
starting_not r None None es chunk o live late p s h e = cc
starting_not r None (Some x) es chunk o live late p s h e = subst (λ p. IsPaged chunk (state_by r None (Some x) es) o live late p) e h

gone_by : (r : Reader) (d : Option Cause) (sn : Option Snapshot) (es : List ShapeEvent) (chunk : ℕ) (o : Offset) (live late : Bool) (p : pages.Paged) (c : Cause) → IsPaged chunk (state_by r d sn es) o live late p → p ≡ paged.Gone c → d ≡ Some c
gone_by r (Some x) sn es chunk o live late p c h e = (let q = sym h ∙ e in cc)
gone_by r None None es chunk o live late p c h e = absurd (let q = sym h ∙ e in cc)
gone_by r None (Some x) es chunk o live late p c h e = absurd (subst (λ p. IsPaged chunk (state_by r None (Some x) es) o live late p) e h)

paged_of : (chunk : ℕ) (st : ShapeState) (o : Offset) (live late : Bool) (p : pages.Paged) (n : ℕ) (a : Asked) → IsPaged chunk st o live late p → IsShaped n p a → IsPagedOf chunk (log_in st) o live late p
paged_of chunk (Starting b) o live late p n a h f = absurd (subst (λ p. IsShaped n p a) h f)
paged_of chunk (Ready log) o live late p n a h f = h
paged_of chunk (Gone c) o live late p n a h f = absurd (subst (λ p. IsShaped n p a) h f)

shape_is : (p : pages.Paged) (n : ℕ) (a : Asked) (P : ℕ → Type 0) → IsShaped n p a → P n → IfSome (shape_of a) P
shape_is (paged.Page page) n a P f h = subst (λ a. IfSome (shape_of a) P) (sym f) h
shape_is paged.NotYet n a P f h = subst (λ a. IfSome (shape_of a) P) (sym f) h
shape_is paged.Starting n a P f h = absurd f
shape_is (paged.Gone c) n a P f h = absurd f
shape_is (paged.OffsetAhead e) n a P f h = subst (λ a. IfSome (shape_of a) P) (sym f) h

no_shape : (f : Found) (a : Asked) (P : ℕ → Type 0) → IsTold f a → IfSome (shape_of a) P
no_shape f (asked.Page n p) P h = absurd h
no_shape f (asked.NotYet n) P h = absurd h
no_shape f (asked.Starting n) P h = tt
no_shape f (asked.Gone o) P h = tt
no_shape f (asked.OffsetAhead n e) P h = absurd h
no_shape f asked.Unregistered P h = tt

legal_in : {A : Type 0} (f : Option RegistryData) (es : List (Noted A)) → IsLegalFor f es → IsLegal (shapes_in f) (events_of es)
legal_in None es h = absurd h
legal_in (Some d) es h = h

-- a number that is found ready is live and ready
pub found_is_ready : {A : Type 0} (f : Option RegistryData) (es : List (Noted A)) (ask : Ask) (n : ℕ) → IsLegalFor f es → found_after (run_in f) (events_of es) ask.identity ask.named ≡ found.Ready n → IsFoundReady (events_of es) n
found_is_ready f es ask n legal e = ready_found (shapes_in f) (run_in f) (events_of es) ask n (legal_in f es legal) e

-- ---- counts

cap_twice : (a b : ℕ) → capped (a + capped b) ≡ capped (a + b)
cap_twice a b = by_limit (2 ^ 64 - 1)
  where
    by_limit : (m : ℕ) → min (a + min b m) m ≡ min (a + b) m
    by_limit m = ⊎_elim (λ (l : b < m). ap (λ x. min (a + x) m) (min-eq_left (let h = l in omega arith)))
        (λ (l : m ≤ b). ap (λ x. min (a + x) m) (min-eq_right l) ∙ min-eq_right (let h = l in omega arith) ∙ sym (min-eq_right (let h = l in omega arith))) (cases_lt b m)

shaped_by : (p : pages.Paged) (n : ℕ) (a : Asked) → IsShaped n p a → shape_of a ≡ Some n
shaped_by (paged.Page page) n a f = ap shape_of f
shaped_by paged.NotYet n a f = ap shape_of f
shaped_by paged.Starting n a f = absurd f
shaped_by (paged.Gone c) n a f = absurd f
shaped_by (paged.OffsetAhead e) n a f = ap shape_of f

told_by_none : (f : Found) (a : Asked) → IsTold f a → shape_of a ≡ None
told_by_none f (asked.Page n p) h = absurd h
told_by_none f (asked.NotYet n) h = absurd h
told_by_none f (asked.Starting n) h = refl
told_by_none f (asked.Gone o) h = refl
told_by_none f (asked.OffsetAhead n e) h = absurd h
told_by_none f asked.Unregistered h = refl

module _ {A : Type 0} (knows : A → Knows) (unread : A → Values → ℕ → Bool) where
  pub never_starting : (f : Option (ShapeStart A)) (es : List ShapeEvent) (o : Offset) (live late : Bool) (p : pages.Paged) → IsPagedIn knows unread f es o live late p → IsSome (snapshot_in es) → p ≡ paged.Starting → ⊥
  never_starting None es o live late p h s e = h
  never_starting (Some x) es o live late p h s e = starting_not (reader_in knows unread x) (drop_of (reader_in knows unread x) x.limits es) (snapshot_in es) es x.limits.chunk o live late p s h e

  pub gone_in : (f : Option (ShapeStart A)) (es : List ShapeEvent) (o : Offset) (live late : Bool) (p : pages.Paged) (c : Cause) → IsPagedIn knows unread f es o live late p → p ≡ paged.Gone c → drop_in knows unread f es ≡ Some c
  gone_in None es o live late p c h e = absurd h
  gone_in (Some x) es o live late p c h e = gone_by (reader_in knows unread x) (drop_of (reader_in knows unread x) x.limits es) (snapshot_in es) es x.limits.chunk o live late p c h e

  paged_in : (f : Option (ShapeStart A)) (es : List ShapeEvent) (o : Offset) (live late : Bool) (p : pages.Paged) (n : ℕ) (a : Asked) → IsPagedIn knows unread f es o live late p → IsShaped n p a → IsPagedOf (chunk_in f) (log_in (state_in knows unread f es)) o live late p
  paged_in None es o live late p n a h f = absurd h
  paged_in (Some x) es o live late p n a h f = paged_of x.limits.chunk (state_after (reader_in knows unread x) x.limits es) o live late p n a h f

  -- ---- answers

  pub told_answers : (k : RegSight A) (seats : FinMap nat_cmp (Seated A)) (ask : Ask) (late : Bool) (a : Asked) (count : ℕ) → IsLegalFor k.fixed k.seen → IsTold (found_after (run_in k.fixed) (events_of k.seen) ask.identity ask.named) a → count ≡ length (transactions (events_of k.seen)) → Answers knows unread k seats ask late a count
  told_answers k seats ask late a count legal h is = record {
    chunk = 0;
    says = told_says (shapes_in k.fixed) (situation knows unread k seats late 0) ask a (legal_in k.fixed k.seen legal) h;
    count_is = is ∙ ap (came knows unread k seats) (sym (told_by_none (found_after (run_in k.fixed) (events_of k.seen) ask.identity ask.named) a h));
    shape = no_shape (found_after (run_in k.fixed) (events_of k.seen) ask.identity ask.named) a _ h;
  }

  pub shaped_answers : (k : RegSight A) (seats : FinMap nat_cmp (Seated A)) (n : ℕ) (v : Seated A) (ask : Ask) (late : Bool) (o : Offset) (live : Bool) (q : Looked) (a : Asked) (before count : ℕ) → IsLegalFor k.fixed k.seen
      → found_after (run_in k.fixed) (events_of k.seen) ask.identity ask.named ≡ found.Ready n → o ≡ start_of ask.named ask.offset → live ≡ waits_of ask.named ask.live
      → Visits knows unread seats n v o live late q → IsShaped n q.paged a → before ≡ taken_before (events_of k.seen) n → count ≡ capped (before + q.took) → Answers knows unread k seats ask late a count
  shaped_answers k seats n v ask late o live q a before count legal e from waiting w f early is =
      let p = q.paged in let s = situation knows unread k seats late (chunk_in w.after.pass.fixed) in
      let here : IsPagedOf s.chunk (log_of knows unread (Some w.after)) o live late p = paged_in w.after.pass.fixed w.after.pass.seen o live late p n a w.paged_is f in
      let log : IsPagedOf s.chunk (s.log n) o live late p = subst (λ x. IsPagedOf s.chunk (log_of knows unread x) o live late p) (sym w.now) here in
      let place : IsPagedOf s.chunk (s.log n) (start_of ask.named ask.offset) (waits_of ask.named ask.live) late p = subst (λ y. IsPagedOf s.chunk (s.log n) (start_of ask.named ask.offset) y late p) waiting (subst (λ x. IsPagedOf s.chunk (s.log n) x live late p) from log) in
      record {
        chunk = chunk_in w.after.pass.fixed;
        says = shaped_says s ask n a (shapes_in k.fixed) p (legal_in k.fixed k.seen legal) e place f;
        count_is = is ∙ ap capped (ap (λ b. b + q.took) early ∙ ap (λ t. taken_before (events_of k.seen) n + t) w.took_is) ∙ cap_twice (taken_before (events_of k.seen) n) (length (taken w.after.pass.seen))
            ∙ ap (λ x. capped (taken_before (events_of k.seen) n + length (taken_of knows unread x))) (sym w.now) ∙ ap (came knows unread k seats) (sym (shaped_by p n a f));
        shape = shape_is p n a _ f (subst (λ x. IsSomeAnd x (IsSource knows unread (chunk_in w.after.pass.fixed))) (sym w.now) (record { legal = w.legal; chunk_is = refl }));
      }

  -- ---- one's own events

  gone_on : (s s' : Seated A) (c : Cause) → Follows s s' → IsGoneAs knows unread c s → IsGoneAs knows unread c s'
  gone_on s s' c on h = by_data s.pass.fixed s'.pass.fixed on.lock.1 h
    where
      by_data : (f f' : Option (ShapeStart A)) → f' ≡ f → drop_in knows unread f s.pass.seen ≡ Some c → drop_in knows unread f' s'.pass.seen ≡ Some c
      by_data None f' e h = absurd (cc)
      by_data (Some x) f' e h = subst (λ f. drop_in knows unread f s'.pass.seen ≡ Some c) (sym e) (subst (λ (es : List ShapeEvent). drop_in knows unread (Some x) es ≡ Some c) on.seen.1 (drop_front (reader_in knows unread x) x.limits [] s.pass.seen on.seen.0 c h))

  gone_there : (o o' : Option (Seated A)) (c : Cause) → IsOn o o' → IsSomeAnd o (IsGoneAs knows unread c) → IsSomeAnd o' (IsGoneAs knows unread c)
  gone_there None o' c on h = absurd h
  gone_there (Some s) None c on h = absurd on
  gone_there (Some s) (Some s') c on h = gone_on s s' c on h

  removals_on : (x y : FinMap nat_cmp (Seated A)) (es : List (Noted A)) → AreOn x y → AreRemovals knows unread x es → AreRemovals knows unread y es
  removals_on x y [] on h = tt
  removals_on x y (e ∷ es) on h = (record { number = h.0.number; cause = h.0.cause; is = h.0.is; gone = gone_there (fin.get x h.0.number) (fin.get y h.0.number) h.0.cause (on h.0.number) h.0.gone }, removals_on x y es on h.1)

  removals_append : (x : FinMap nat_cmp (Seated A)) (es fs : List (Noted A)) → AreRemovals knows unread x es → AreRemovals knows unread x fs → AreRemovals knows unread x (es ++ fs)
  removals_append x [] fs a b = b
  removals_append x (e ∷ es) fs a b = (a.0, removals_append x es fs a.1 b)

  removal_if : (x : FinMap nat_cmp (Seated A)) (wrote : Bool) (n : ℕ) (c : Cause) → IsSomeAnd (fin.get x n) (IsGoneAs knows unread c) → AreRemovals knows unread x (removed_if wrote n c)
  removal_if x true n c h = (record { number = n; cause = c; is = refl; gone = h }, tt)
  removal_if x false n c h = tt

  pub asks_same : (k : RegSight A) (seats : FinMap nat_cmp (Seated A)) → AsksOn knows unread k k seats seats
  asks_same k seats = record { lock = (refl, refl); share = (refl, refl); seen = ([], append-nil k.seen); made = []; mine = sym (append-nil (mine k)); removals = tt; each = are_same seats }

  pub asks_look : (k k' : RegSight A) (x y : FinMap nat_cmp (Seated A)) → StepsOn k k' [] → AreOn x y → AsksOn knows unread k k' x y
  asks_look k k' x y on each = record { lock = on.lock; share = on.share; seen = on.seen; made = []; mine = on.mine; removals = tt; each = each }

  pub asks_remove : (k k' k'' : RegSight A) (x y : FinMap nat_cmp (Seated A)) (wrote : Bool) (n : ℕ) (v : Seated A) (o : Offset) (live late : Bool) (q : Looked) (c : Cause) → StepsOn k k' [] → StepsOn k' k'' (removed_if wrote n c) → AreOn x y
      → Visits knows unread y n v o live late q → q.paged ≡ paged.Gone c → AsksOn knows unread k k'' x y
  asks_remove k k' k'' x y wrote n v o live late q c a b each w e = record {
    lock = (b.lock.0 ∙ a.lock.0, b.lock.1 ∙ a.lock.1);
    share = (b.share.0 ∙ a.share.0, b.share.1 ∙ a.share.1);
    seen = prefix_trans k.seen k'.seen k''.seen a.seen b.seen;
    made = removed_if wrote n c;
    mine = b.mine ∙ ap (λ l. l ++ removed_if wrote n c) (a.mine ∙ append-nil (mine k));
    removals = removal_if y wrote n c (subst (λ s. IsSomeAnd s (IsGoneAs knows unread c)) (sym w.now) (gone_in w.after.pass.fixed w.after.pass.seen o live late q.paged c w.paged_is e));
    each = each;
  }

  pub asks_trans : (a b c : RegSight A) (x y z : FinMap nat_cmp (Seated A)) → AsksOn knows unread a b x y → AsksOn knows unread b c y z → AsksOn knows unread a c x z
  asks_trans a b c x y z p q = record {
    lock = (q.lock.0 ∙ p.lock.0, q.lock.1 ∙ p.lock.1);
    share = (q.share.0 ∙ p.share.0, q.share.1 ∙ p.share.1);
    seen = prefix_trans a.seen b.seen c.seen p.seen q.seen;
    made = p.made ++ q.made;
    mine = q.mine ∙ ap (λ l. l ++ q.made) p.mine ∙ append_assoc (mine a) p.made q.made;
    removals = removals_append z p.made q.made (removals_on y z p.made q.each p.removals) q.removals;
    each = are_trans x y z p.each q.each;
  }
