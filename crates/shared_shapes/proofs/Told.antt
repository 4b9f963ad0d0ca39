-- The seats of a caller as it is told of others, number by number.
use Rattle.std.proofs.Common.{◌≡◌, ℕ, ◌+◌, ◌<◌, ◌≤◌, Bool, true, false, cond, List, [], length, get_or, Option, Some, None, refl, sym, ap, ◌∙◌, subst, arith, nat_cmp, ◌⊎◌, inl, inr, ⊎_elim}
use Rattle.std.proofs.lemmas.Bool.{false≢true, cases_lt}
use Rattle.std.specs.Prelude.{◌==◌, IsSome, IfSome, IfNone, IsSomeAnd, is_some}
use Rattle.std.specs.List.{list_any}
use Rattle.std.specs.Ordering.{eq_by_cmp}
use Rattle.std.specs.Cmp.{nat_cmp_total, unsigned_tied}
use Rattle.std.specs.FinMap as fin
use Rattle.std.specs.FinMap.{FinMap, get-insert, get-remove}
use Rattle.shared_shapes.specs.Events.{Noted}
use Rattle.shared_shapes.specs.Seats.{Seated, IsSeat, AreSeats}
use Rattle.shared_shapes.specs.Sharing.{HasSeen, AreTold, Fits, AreBare, IsCopy, AreBoth, AreEach}
use Rattle.shared_shapes.specs.Asking.{IsOn, AreOn, Admits}
use Rattle.shared_shapes.proofs.Boards.{equal, itself}
use Rattle.shared_shapes.proofs.Copying.{IsLeft, placed}
use Rattle.shared_shapes.proofs.Visiting.{same_lock_at, are_same, are_trans, admits_on, admits_known, got}
use Rattle.shape_lock.proofs.Lengths.{prefix_trans}

when : (b : Bool) (P : Type 0) → (b ≡ true → P) → (b ≡ false → P) → P
when true P f g = f refl
when false P f g = g refl

left_next : (numbers : List ℕ) (i n m : ℕ) → m ≡ get_or numbers i 0 → (n == m) ≡ false → IsLeft numbers i n → IsLeft numbers (i + 1) n
left_next numbers i n m is apart l = record {
  place = l.place;
  from = ⊎_elim (λ (q : i < l.place). omega arith) (λ (q : l.place ≤ i). absurd (false≢true (sym apart ∙ ap (λ k. n == k) (is ∙ ap (λ j. get_or numbers j 0) (let h = l.from in let z : i ≡ l.place = omega arith in z) ∙ l.is) ∙ itself n))) (cases_lt i l.place);
  there = l.there;
  is = l.is;
}

module _ {A : Type 0} where
  cut_if : (b : Bool) (o : Option (Seated A)) → b ≡ false → cond b None o ≡ o
  cut_if true o e = absurd (false≢true (sym e))
  cut_if false o e = refl

  put_if : (b : Bool) (s : Seated A) (o : Option (Seated A)) → b ≡ false → cond b (Some s) o ≡ o
  put_if true s o e = absurd (false≢true (sym e))
  put_if false s o e = refl

  pub cut_other : (t : FinMap nat_cmp (Seated A)) (m n : ℕ) → (n == m) ≡ false → fin.get (fin.remove t m) n ≡ fin.get t n
  cut_other t m n e = get-remove nat_cmp_total t m n ∙ cut_if (eq_by_cmp nat_cmp n m) (fin.get t n) (unsigned_tied n m ∙ e)

  put_other : (t : FinMap nat_cmp (Seated A)) (m n : ℕ) (s : Seated A) → (n == m) ≡ false → fin.get (fin.insert t m s) n ≡ fin.get t n
  put_other t m n s e = get-insert nat_cmp_total t m s n ∙ put_if (eq_by_cmp nat_cmp n m) s (fin.get t n) (unsigned_tied n m ∙ e)

  cut_here : (b : Bool) (o : Option (Seated A)) → IsSome (cond b None o) → b ≡ false
  cut_here true o h = absurd (false≢true h)
  cut_here false o h = refl

  cut_some : (t : FinMap nat_cmp (Seated A)) (m n : ℕ) → IsSome (fin.get (fin.remove t m) n) → (n == m) ≡ false
  cut_some t m n h = sym (unsigned_tied n m) ∙ cut_here (eq_by_cmp nat_cmp n m) (fin.get t n) (subst (λ o. IsSome o) (get-remove nat_cmp_total t m n) h)

  -- ---- one number

  -- What telling of one number makes of the seats.
  pub record Step (s s' t : FinMap nat_cmp (Seated A)) (m : ℕ) : Type 0 where
    pub on : AreOn s s'
    pub keeps : (n : ℕ) → (n == m) ≡ false → fin.get s' n ≡ fin.get s n
    pub known : (es : List (Noted A)) → AreSeats es s → IfSome (fin.get t m) (IsSeat es m) → AreSeats es s'
    pub here : IfSome (fin.get t m) (λ v. IsSomeAnd (fin.get s' m) (HasSeen v))

  still : (s s' t : FinMap nat_cmp (Seated A)) (m : ℕ) → s' ≡ s → fin.get t m ≡ None → Step s s' t m
  still s s' t m e none = record {
    on = subst (λ (k : FinMap nat_cmp (Seated A)). AreOn s k) (sym e) (are_same s);
    keeps = λ n apart. ap (λ k. fin.get k n) e;
    known = λ es all h. subst (λ k. AreSeats es k) (sym e) all;
    here = subst (λ o. IfSome o (λ v. IsSomeAnd (fin.get s' m) (HasSeen v))) (sym none) tt;
  }

  admitted : (s s' t : FinMap nat_cmp (Seated A)) (m : ℕ) (v : Seated A) → fin.get t m ≡ Some v → Admits s s' m v → Step s s' t m
  admitted s s' t m v is a = record {
    on = admits_on s s' m v a;
    keeps = λ n apart. ap (λ k. fin.get k n) a.now ∙ put_other s m n a.after apart;
    known = λ es all h. admits_known s s' m v a es all (subst (λ o. IfSome o (IsSeat es m)) is h);
    here = subst (λ o. IfSome o (λ v. IsSomeAnd (fin.get s' m) (HasSeen v))) (sym is) (subst (λ o. IsSomeAnd o (HasSeen v)) (sym (got s s' m a.after a.now)) (record { lock = a.lock; seen = a.seen }));
  }

  step_by : (s s' t : FinMap nat_cmp (Seated A)) (m : ℕ) (o : Option (Seated A)) → fin.get t m ≡ o → IfNone o (s' ≡ s) → IfSome o (Admits s s' m) → Step s s' t m
  step_by s s' t m None is none some = still s s' t m none is
  step_by s s' t m (Some v) is none some = admitted s s' t m v is some

  pub step_of : (s s' t : FinMap nat_cmp (Seated A)) (m : ℕ) → IfNone (fin.get t m) (s' ≡ s) → IfSome (fin.get t m) (Admits s s' m) → Step s s' t m
  step_of s s' t m none some = step_by s s' t m (fin.get t m) refl none some

  -- ---- the loop

  -- Of t0 those in t are still to be told; they stand in the list of the numbers from that place on. The seats s have seen the others.
  pub record Telling (s0 t0 s t : FinMap nat_cmp (Seated A)) (numbers : List ℕ) (i : ℕ) : Type 0 where
    pub on : AreOn s0 s
    pub known : (es : List (Noted A)) → AreSeats es s0 → AreSeats es t0 → AreSeats es s
    pub fits : Fits t s
    pub rest : (n : ℕ) → IfSome (fin.get t n) (λ v. fin.get t0 n ≡ Some v)
    pub left : (n : ℕ) → IsSome (fin.get t n) → IsLeft numbers i n
    pub told : (n : ℕ) → IfSome (fin.get t0 n) (λ v. (fin.get t n ≡ Some v) ⊎ IsSomeAnd (fin.get s n) (HasSeen v))

  itself_or : (o : Option (Seated A)) (P : Seated A → Type 0) → IfSome o (λ v. (o ≡ Some v) ⊎ P v)
  itself_or None P = tt
  itself_or (Some v) P = inl refl

  itself_is : (o : Option (Seated A)) → IfSome o (λ v. o ≡ Some v)
  itself_is None = tt
  itself_is (Some v) = refl

  pub telling_start : (s t : FinMap nat_cmp (Seated A)) (numbers : List ℕ) → Fits t s → ((n : ℕ) → is_some (fin.get t n) ≡ list_any (eq_by_cmp nat_cmp n) numbers) → Telling s t s t numbers 0
  telling_start s t numbers fits has = record {
    on = are_same s;
    known = λ es a b. a;
    fits = fits;
    rest = λ n. itself_is (fin.get t n);
    left = λ n h. placed numbers n (sym (has n) ∙ h);
    told = λ n. itself_or (fin.get t n) (λ v. IsSomeAnd (fin.get s n) (HasSeen v));
  }

  if_other : (o q : Option (Seated A)) (P : Seated A → Type 0) → (IsSome o → q ≡ o) → IfSome q P → IfSome o P
  if_other None q P f h = tt
  if_other (Some v) q P f h = subst (λ o. IfSome o P) (f refl) h

  if_told : (o : Option (Seated A)) (P Q : Seated A → Type 0) → ((v : Seated A) → o ≡ Some v → P v → Q v) → IfSome o P → IfSome o Q
  if_told None P Q f h = tt
  if_told (Some v) P Q f h = f v refl h

  seen_on : (o q : Option (Seated A)) (v : Seated A) → IsOn o q → IsSomeAnd o (HasSeen v) → IsSomeAnd q (HasSeen v)
  seen_on None q v on h = absurd h
  seen_on (Some s) None v on h = absurd on
  seen_on (Some s) (Some s') v on h = record { lock = on.lock.0 ∙ h.lock; seen = prefix_trans v.pass.seen s.pass.seen s'.pass.seen h.seen on.seen }

  at_some : (o : Option (Seated A)) (v : Seated A) (P : Seated A → Type 0) → o ≡ Some v → IfSome o P → P v
  at_some o v P e h = subst (λ o. IfSome o P) e h

  pub telling_next : (s0 t0 s s' t t' : FinMap nat_cmp (Seated A)) (numbers : List ℕ) (i m : ℕ) → m ≡ get_or numbers i 0 → Telling s0 t0 s t numbers i → t' ≡ fin.remove t m → Step s s' t m → Telling s0 t0 s' t' numbers (i + 1)
  telling_next s0 t0 s s' t t' numbers i m is k cut step =
      let apart : (n : ℕ) → IsSome (fin.get t' n) → (n == m) ≡ false = λ n h. cut_some t m n (subst (λ (q : FinMap nat_cmp (Seated A)). IsSome (fin.get q n)) cut h) in
      let same : (n : ℕ) → (n == m) ≡ false → fin.get t' n ≡ fin.get t n = λ n e. ap (λ q. fin.get q n) cut ∙ cut_other t m n e in record {
        on = are_trans s0 s s' k.on step.on;
        known = λ es a b. step.known es (k.known es a b) (if_told (fin.get t m) (λ v. fin.get t0 m ≡ Some v) (IsSeat es m) (λ v e z. at_some (fin.get t0 m) v (IsSeat es m) z (b m)) (k.rest m));
        fits = λ n. if_other (fin.get t' n) (fin.get t n) (λ v. (v.pass.own ≡ []) × IfSome (fin.get s' n) (λ x. x.pass.lock ≡ v.pass.lock)) (λ h. sym (same n (apart n h)))
            (when (n == m) _ (λ e. if_told (fin.get t n) _ _ (λ v z h. (h.0, fits_here n v e z)) (k.fits n)) (λ e. subst (λ o. IfSome (fin.get t n) (λ v. (v.pass.own ≡ []) × IfSome o (λ x. x.pass.lock ≡ v.pass.lock))) (sym (step.keeps n e)) (k.fits n)));
        rest = λ n. if_other (fin.get t' n) (fin.get t n) (λ v. fin.get t0 n ≡ Some v) (λ h. sym (same n (apart n h))) (k.rest n);
        left = λ n h. left_next numbers i n m is (apart n h) (k.left n (subst (λ o. IsSome o) (same n (apart n h)) h));
        told = λ n. if_told (fin.get t0 n) _ _ (λ v z h. ⊎_elim (λ (q : fin.get t n ≡ Some v). still_or n v q) (λ (q : IsSomeAnd (fin.get s n) (HasSeen v)). inr (seen_on (fin.get s n) (fin.get s' n) v (step.on n) q)) h) (k.told n);
      }
    where
      seen_lock : (o : Option (Seated A)) (v : Seated A) → IsSomeAnd o (HasSeen v) → IfSome o (λ x. x.pass.lock ≡ v.pass.lock)
      seen_lock None v h = tt
      seen_lock (Some x) v h = h.lock

      here_at : (n : ℕ) (v : Seated A) → (n == m) ≡ true → fin.get t n ≡ Some v → IsSomeAnd (fin.get s' n) (HasSeen v)
      here_at n v e z = let p = equal n m e in subst (λ j. IsSomeAnd (fin.get s' j) (HasSeen v)) (sym p) (at_some (fin.get t m) v (λ v. IsSomeAnd (fin.get s' m) (HasSeen v)) (sym (ap (fin.get t) p) ∙ z) step.here)

      fits_here : (n : ℕ) (v : Seated A) → (n == m) ≡ true → fin.get t n ≡ Some v → IfSome (fin.get s' n) (λ x. x.pass.lock ≡ v.pass.lock)
      fits_here n v e z = seen_lock (fin.get s' n) v (here_at n v e z)

      still_or : (n : ℕ) (v : Seated A) → fin.get t n ≡ Some v → (fin.get t' n ≡ Some v) ⊎ IsSomeAnd (fin.get s' n) (HasSeen v)
      still_or n v q = when (n == m) _ (λ e. inr (here_at n v e q)) (λ e. inl (ap (λ k. fin.get k n) cut ∙ cut_other t m n e ∙ q))

  pub telling_end : (s0 t0 s t : FinMap nat_cmp (Seated A)) (numbers : List ℕ) (i : ℕ) → Telling s0 t0 s t numbers i → length numbers ≤ i → AreTold t0 s
  telling_end s0 t0 s t numbers i k l = λ n. if_told (fin.get t0 n) _ _ (λ v z h. ⊎_elim (λ (q : fin.get t n ≡ Some v). absurd (let p = k.left n (subst (λ o. IsSome o) (sym q) refl) in let a = p.from in let b = p.there in omega arith)) (λ q. q) h) (k.told n)

  -- ---- before it

  fit_at : (es : List (Noted A)) (n : ℕ) (o q : Option (Seated A)) → IfSome o (IsSeat es n) → IfSome q (IsSeat es n) → IfSome o (λ s. s.pass.own ≡ []) → IfSome o (λ s. (s.pass.own ≡ []) × IfSome q (λ t. t.pass.lock ≡ s.pass.lock))
  fit_at es n None q a b c = tt
  fit_at es n (Some s) q a b c = (c, same_lock_at es n s q b a)

  pub fits_of : (es : List (Noted A)) (told seats : FinMap nat_cmp (Seated A)) → AreSeats es told → AreSeats es seats → AreBare told → Fits told seats
  fits_of es told seats a b bare = λ n. fit_at es n (fin.get told n) (fin.get seats n) (a n) (b n) (bare n)

  bare_at : (o q : Option (Seated A)) → AreBoth IsCopy o q → IfSome q (λ s. s.pass.own ≡ [])
  bare_at o None h = tt
  bare_at None (Some t) h = absurd h
  bare_at (Some s) (Some t) h = h.own

  pub bare_of : (seats copies : FinMap nat_cmp (Seated A)) → AreEach IsCopy seats copies → AreBare copies
  bare_of seats copies each = λ n. bare_at (fin.get seats n) (fin.get copies n) (each n)
