-- The seats of one caller as registry and shapes go on.
use Rattle.std.proofs.Common.{◌≡◌, ℕ, Bool, List, Option, Some, None, refl, sym, ◌∙◌, subst, nat_cmp}
use Rattle.std.specs.Prelude.{IfSome, Result, Ok, Err, IfOk, IfErr, OnErr}
use Rattle.lock_events.specs.Written.{Written}
use Rattle.shape_base.specs.declared.limits.Limits.{Limits}
use Rattle.shape_lock.specs.Passes.{Sight}
use Rattle.shared_shapes.specs.declared.started.Started.{Started}
use Rattle.shared_shapes.specs.declared.started.StartError.{StartError}
use Rattle.shared_shapes.specs.declared.started.StartError.TheVariants.{Exists, TooMany, NumbersSpent, OutOfMemory}
use Rattle.shared_shapes.specs.Board.{Kept}
use Rattle.shared_shapes.specs.Passes.{RegSight, StepsOn}
use Rattle.shared_shapes.specs.Calls.{IsBorn, IsUnstarted}
use Rattle.std.specs.FinMap as fin
use Rattle.std.specs.FinMap.{FinMap, get-empty}
use mathlib.Core.List.{IsPrefix}
use Rattle.shared_shapes.specs.Events.{Noted, place_in, place_of}
use Rattle.front_lock.specs.Passes.{IsSameLock}
use Rattle.atomic_table.specs.Seated.{TableId}
use Rattle.shared_shapes.specs.Seats.{Seated, IsSeat, AreSeats, AtSeat}
use Rattle.shared_shapes.specs.Sharing.{IsSame, IsCopy, AreBoth, AreEach}
use Rattle.shared_shapes.proofs.Places.{place_on}
use Rattle.shared_shapes.proofs.Boards.{put_all}

module _ {A : Type 0} where
  seat_on : (es gs : List (Noted A)) (n : ℕ) (s : Seated A) → IsPrefix es gs → IsSeat es n s → IsSeat gs n s
  seat_on es gs n s pre h = record { place = h.place; at = place_on es gs n h.place pre h.at; lock = h.lock; about = h.about; right = h.right }

  on_each : (o : Option (Seated A)) (P Q : Seated A → Type 0) → ((s : Seated A) → P s → Q s) → IfSome o P → IfSome o Q
  on_each None P Q f h = tt
  on_each (Some s) P Q f h = f s h

  pub seats_on : (es gs : List (Noted A)) (seats : FinMap nat_cmp (Seated A)) → IsPrefix es gs → AreSeats es seats → AreSeats gs seats
  seats_on es gs seats pre all = λ n. on_each (fin.get seats n) (IsSeat es n) (IsSeat gs n) (λ s. seat_on es gs n s pre) (all n)

  pub no_seats : (es : List (Noted A)) → AreSeats es fin.empty
  no_seats es = λ n. subst (λ o. IfSome o (IsSeat es n)) (sym (get-empty nat_cmp n)) tt

  pub seats_put : (es : List (Noted A)) (seats : FinMap nat_cmp (Seated A)) (n : ℕ) (s : Seated A) → AreSeats es seats → IsSeat es n s → AreSeats es (fin.insert seats n s)
  seats_put es seats n s all here = put_all (IsSeat es) seats n s here (λ q apart. all q)

  pub seat_here : (es : List (Noted A)) (seats : FinMap nat_cmp (Seated A)) (n : ℕ) (s : Seated A) → AreSeats es seats → Some s ≡ fin.get seats n → IsSeat es n s
  seat_here es seats n s all at = subst (λ o. IfSome o (IsSeat es n)) (sym at) (all n)

  born_seat : (es : List (Noted A)) (n : ℕ) (test : A) (limits : Limits) (slot : Kept A) (seat : Seated A) (k : Sight A) (w : Written Bool) → IsBorn test limits slot seat k w → place_of es n ≡ Some (place_in k w) → IsSeat es n seat
  born_seat es n test limits slot seat k w born at = subst (λ s. IsSeat es n s) (sym born.seat_is) (record { place = place_in k w; at = at; lock = refl; about = refl; right = refl })

  unstarted_seen : (r r' : RegSight A) (identity : List ℕ) (e : StartError) → IsUnstarted r r' identity e → IsPrefix r.seen r'.seen
  unstarted_seen r r' identity (Exists n) h = h.0.seen
  unstarted_seen r r' identity (TooMany live most) h = h.0.seen
  unstarted_seen r r' identity NumbersSpent h = h.0.seen
  unstarted_seen r r' identity OutOfMemory h = h.seen

  -- the seats after a registration
  pub seats_after : (r r' : RegSight A) (seats seats' : FinMap nat_cmp (Seated A)) (test : A) (limits : Limits) (slot : Kept A) (seat : Seated A) (k : Sight A) (w : Written Bool) (identity : List ℕ) (made : Started → List (Noted A)) (answer : Result Started StartError)
      → IsBorn test limits slot seat k w → AreSeats r.seen seats → IfOk answer (λ s. StepsOn r r' (made s)) → IfOk answer (λ s. place_of r'.seen s.number ≡ Some (place_in k w)) → IfOk answer (λ s. seats' ≡ fin.insert seats s.number seat)
      → IfErr answer (IsUnstarted r r' identity) → OnErr answer (seats' ≡ seats) → AreSeats r'.seen seats'
  seats_after r r' seats seats' test limits slot seat k w identity made (Ok s) born all on place put refused same = subst (λ m. AreSeats r'.seen m) (sym put) (seats_put r'.seen seats s.number seat (seats_on r.seen r'.seen seats on.seen all) (born_seat r'.seen s.number test limits slot seat k w born place))
  seats_after r r' seats seats' test limits slot seat k w identity made (Err e) born all on place put refused same = subst (λ m. AreSeats r'.seen m) (sym same) (seats_on r.seen r'.seen seats (unstarted_seen r r' identity e refused) all)

  -- ---- one seat changes

  pub at_ok : {X E : Type 0} (r : Result X E) (seats seats' : FinMap nat_cmp (Seated A)) (n : ℕ) (s s' : Seated A) (C : X → Seated A → Seated A → Type 0)
      → fin.get seats n ≡ Some s → seats' ≡ fin.insert seats n s' → IfOk r (λ x. C x s s') → IfOk r (λ x. AtSeat seats seats' n (C x))
  at_ok (Ok x) seats seats' n s s' C was now h = record { before = s; after = s'; was = was; now = now; on = h }
  at_ok (Err e) seats seats' n s s' C was now h = tt

  pub at_err : {X E : Type 0} (r : Result X E) (seats seats' : FinMap nat_cmp (Seated A)) (n : ℕ) (s s' : Seated A) (C : E → Seated A → Seated A → Type 0)
      → fin.get seats n ≡ Some s → seats' ≡ fin.insert seats n s' → IfErr r (λ x. C x s s') → IfErr r (λ x. AtSeat seats seats' n (C x))
  at_err (Ok x) seats seats' n s s' C was now h = tt
  at_err (Err e) seats seats' n s s' C was now h = record { before = s; after = s'; was = was; now = now; on = h }

  -- the right stays, or is gone
  pub same_right : (s s' : Seated A) → s'.right ≡ s.right → (list : TableId) → IfSome s.right (λ l. l ≡ list) → IfSome s'.right (λ l. l ≡ list)
  same_right s s' same list h = subst (λ o. IfSome o (λ l. l ≡ list)) (sym same) h

  pub no_right : (s s' : Seated A) → s'.right ≡ None → (list : TableId) → IfSome s.right (λ l. l ≡ list) → IfSome s'.right (λ l. l ≡ list)
  no_right s s' none list h = subst (λ o. IfSome o (λ l. l ≡ list)) (sym none) tt

  -- the seats after one of them changed, and more was seen
  pub seats_changed : (es gs : List (Noted A)) (seats seats' : FinMap nat_cmp (Seated A)) (n : ℕ) (C : Seated A → Seated A → Type 0) (c : AtSeat seats seats' n C) → AreSeats es seats → IsPrefix es gs → IsSameLock c.before.pass c.after.pass
      → ((list : TableId) → IfSome c.before.right (λ l. l ≡ list) → IfSome c.after.right (λ l. l ≡ list)) → AreSeats gs seats'
  seats_changed es gs seats seats' n C c all pre same right = let all' = seats_on es gs seats pre all in let h = seat_here gs seats n c.before all' (sym c.was) in
      subst (λ m. AreSeats gs m) (sym c.now) (seats_put gs seats n c.after all'
      (record { place = h.place; at = h.at; lock = same.0 ∙ h.lock; about = same.1 ∙ h.about; right = right h.place.ready h.right }))

  -- ---- copies

  seat_as : (es : List (Noted A)) (n : ℕ) (s t : Seated A) → IsSameLock s.pass t.pass → ((list : TableId) → IfSome s.right (λ l. l ≡ list) → IfSome t.right (λ l. l ≡ list)) → IsSeat es n s → IsSeat es n t
  seat_as es n s t same right h = record { place = h.place; at = h.at; lock = same.0 ∙ h.lock; about = same.1 ∙ h.about; right = right h.place.ready h.right }

  each_seat : (es : List (Noted A)) (n : ℕ) (R : Seated A → Seated A → Type 0) (o q : Option (Seated A)) → ((s t : Seated A) → R s t → IsSeat es n s → IsSeat es n t) → AreBoth R o q → IfSome o (IsSeat es n) → IfSome q (IsSeat es n)
  each_seat es n R None None f a h = tt
  each_seat es n R None (Some t) f a h = absurd a
  each_seat es n R (Some s) None f a h = tt
  each_seat es n R (Some s) (Some t) f a h = f s t a h

  pub seats_same : (es : List (Noted A)) (seats seats' : FinMap nat_cmp (Seated A)) → AreEach IsSame seats seats' → AreSeats es seats → AreSeats es seats'
  seats_same es seats seats' each all = λ n. each_seat es n IsSame (fin.get seats n) (fin.get seats' n) (λ s t r. seat_as es n s t r.lock (same_right s t r.right)) (each n) (all n)

  pub seats_copied : (es : List (Noted A)) (seats seats' : FinMap nat_cmp (Seated A)) → AreEach IsCopy seats seats' → AreSeats es seats → AreSeats es seats'
  seats_copied es seats seats' each all = λ n. each_seat es n IsCopy (fin.get seats n) (fin.get seats' n) (λ s t r. seat_as es n s t r.lock (no_right s t r.right)) (each n) (all n)
