-- The seats of one caller as they are copied, number by number.
use Rattle.std.proofs.Common.{◌≡◌, ℕ, zero, suc, ◌+◌, ◌<◌, ◌≤◌, Bool, true, false, cond, List, [], ◌∷◌, length, get_or, Option, Some, None, refl, sym, ap, ◌∙◌, subst, arith, nat_cmp, ◌⊎◌, inl, inr, ⊎_elim}
use Rattle.std.proofs.lemmas.Bool.{false≢true, cases_lt}
use Rattle.std.proofs.lemmas.Bool.Decides.{nat_tests}
use Rattle.std.specs.Prelude.{◌==◌, ◌||◌, IsSome, IfSome, IsSomeAnd, is_some}
use Rattle.std.specs.List.{list_any}
use Rattle.std.specs.Ordering.{eq_by_cmp}
use Rattle.std.specs.Cmp.{nat_cmp_total, unsigned_tied}
use Rattle.std.specs.FinMap as fin
use Rattle.std.specs.FinMap.{FinMap, get-insert, get-empty}
use Rattle.shared_shapes.specs.Seats.{Seated, AtSeat}
use Rattle.shared_shapes.specs.Sharing.{IsSame, IsCopy, AreBoth, AreEach}
use Rattle.shared_shapes.proofs.Boards.{put_all, itself}

same_number : (m n : ℕ) → (m == n) ≡ true → m ≡ n
same_number m n e = grind (arith, nat_tests)

other_number : (m n : ℕ) → (m == n) ≡ false → m ≡ n → ⊥
other_number m n e h = false≢true (sym e ∙ ap (λ k. k == n) h ∙ itself n)

-- the number stands at that place or behind it
pub record IsLeft (numbers : List ℕ) (i n : ℕ) : Type 0 where
  pub place : ℕ
  pub from : i ≤ place
  pub there : place < length numbers
  pub is : get_or numbers place 0 ≡ n

left_next : (k : ℕ) (numbers : List ℕ) (n : ℕ) → IsLeft numbers 0 n → IsLeft (k ∷ numbers) 0 n
left_next k numbers n l = record { place = suc l.place; from = omega arith; there = let h = l.there in omega arith; is = l.is }

left_here : (k : ℕ) (numbers : List ℕ) (n : ℕ) → k ≡ n → IsLeft (k ∷ numbers) 0 n
left_here k numbers n e = record { place = zero; from = omega arith; there = omega arith; is = e }

placed_if : (b c : Bool) (k : ℕ) (numbers : List ℕ) (n : ℕ) → (b ≡ true → k ≡ n) → (c ≡ true → IsLeft numbers 0 n) → (b || c) ≡ true → IsLeft (k ∷ numbers) 0 n
placed_if true c k numbers n here there h = left_here k numbers n (here refl)
placed_if false c k numbers n here there h = left_next k numbers n (there h)

tied : (k n : ℕ) → eq_by_cmp nat_cmp n k ≡ true → k ≡ n
tied k n e = sym (same_number n k (sym (unsigned_tied n k) ∙ e))

pub placed : (numbers : List ℕ) (n : ℕ) → list_any (eq_by_cmp nat_cmp n) numbers ≡ true → IsLeft numbers 0 n
placed [] n h = absurd (false≢true h)
placed (k ∷ numbers) n h = placed_if (eq_by_cmp nat_cmp n k) (list_any (eq_by_cmp nat_cmp n) numbers) k numbers n (tied k n) (placed numbers n) h

or_here : (a b : Bool) → a ≡ true → (a || b) ≡ true
or_here true b h = refl
or_here false b h = absurd (false≢true h)

or_there : (a b : Bool) → b ≡ true → (a || b) ≡ true
or_there true b h = refl
or_there false b h = h

member : (numbers : List ℕ) (j : ℕ) → j < length numbers → list_any (eq_by_cmp nat_cmp (get_or numbers j 0)) numbers ≡ true
member [] j l = absurd (omega arith)
member (k ∷ numbers) zero l = or_here (eq_by_cmp nat_cmp k k) (list_any (eq_by_cmp nat_cmp k) numbers) (unsigned_tied k k ∙ itself k)
member (k ∷ numbers) (suc j) l = or_there (eq_by_cmp nat_cmp (get_or numbers j 0) k) (list_any (eq_by_cmp nat_cmp (get_or numbers j 0)) numbers) (member numbers j (omega arith))

pub get_any : (numbers : List ℕ) (i x y : ℕ) → i < length numbers → get_or numbers i x ≡ get_or numbers i y
get_any [] i x y l = absurd (omega arith)
get_any (k ∷ numbers) zero x y l = refl
get_any (k ∷ numbers) (suc i) x y l = get_any numbers i x y (omega arith)

module _ {A : Type 0} where
  -- ---- pairs of seats

  both_same : (o : Option (Seated A)) → AreBoth IsSame o o
  both_same None = tt
  both_same (Some s) = record { lock = (refl, refl); seen = refl; own = refl; right = refl }

  same_trans : (s t u : Seated A) → IsSame s t → IsSame t u → IsSame s u
  same_trans s t u a b = record { lock = (b.lock.0 ∙ a.lock.0, b.lock.1 ∙ a.lock.1); seen = b.seen ∙ a.seen; own = b.own ∙ a.own; right = b.right ∙ a.right }

  both_on : (o : Option (Seated A)) (s t : Seated A) → AreBoth IsSame o (Some s) → IsSame s t → AreBoth IsSame o (Some t)
  both_on None s t a b = a
  both_on (Some r) s t a b = same_trans r s t a b

  copy_of : (o : Option (Seated A)) (s t : Seated A) → AreBoth IsSame o (Some s) → IsCopy s t → IsSomeAnd o (λ r. IsCopy r t)
  copy_of None s t a c = absurd a
  copy_of (Some r) s t a c = record { lock = (c.lock.0 ∙ a.lock.0, c.lock.1 ∙ a.lock.1); seen = c.seen ∙ a.seen; own = c.own; right = c.right }

  some_other : (o q : Option (Seated A)) → AreBoth IsSame o q → IsSome o → IsSome q
  some_other None q a h = absurd (false≢true h)
  some_other (Some s) None a h = absurd a
  some_other (Some s) (Some t) a h = refl

  each_if : (b : Bool) (o q : Option (Seated A)) (t : Seated A) → (b ≡ true → AreBoth IsSame o (Some t)) → AreBoth IsSame o q → AreBoth IsSame o (cond b (Some t) q)
  each_if true o q t f h = f refl
  each_if false o q t f h = h

  each_start : (m : FinMap nat_cmp (Seated A)) → AreEach IsSame m m
  each_start m = λ n. both_same (fin.get m n)

  pub each_after : (m0 m m' : FinMap nat_cmp (Seated A)) (number : ℕ) → AreEach IsSame m0 m → AtSeat m m' number IsSame → AreEach IsSame m0 m'
  each_after m0 m m' number each at = λ n. subst (λ (k : FinMap nat_cmp (Seated A)). AreBoth IsSame (fin.get m0 n) (fin.get k n)) (sym at.now)
      (subst (λ o. AreBoth IsSame (fin.get m0 n) o) (sym (get-insert nat_cmp_total m number at.after n))
      (each_if (eq_by_cmp nat_cmp n number) (fin.get m0 n) (fin.get m n) at.after
      (λ e. both_on (fin.get m0 n) at.before at.after (subst (λ o. AreBoth IsSame (fin.get m0 n) o) (ap (fin.get m) (same_number n number (sym (unsigned_tied n number) ∙ e)) ∙ at.was) (each n)) at.on)
      (each n)))

  -- ---- the loop

  -- Of the seats in m0 some have copies in c; those without stand in the list of the numbers from that place on.
  pub record Copying (m0 m c : FinMap nat_cmp (Seated A)) (numbers : List ℕ) (i : ℕ) : Type 0 where
    pub same : AreEach IsSame m0 m
    pub all : (j : ℕ) → j < length numbers → IsSome (fin.get m0 (get_or numbers j 0))
    pub copied : (n : ℕ) → IfSome (fin.get c n) (λ t. IsSomeAnd (fin.get m0 n) (λ s. IsCopy s t))
    pub left : (n : ℕ) → IsSome (fin.get m0 n) → IsSome (fin.get c n) ⊎ IsLeft numbers i n

  pub copying_start : (m : FinMap nat_cmp (Seated A)) (numbers : List ℕ) → ((n : ℕ) → is_some (fin.get m n) ≡ list_any (eq_by_cmp nat_cmp n) numbers) → Copying m m fin.empty numbers 0
  copying_start m numbers has = record {
    same = each_start m;
    all = λ j l. has (get_or numbers j 0) ∙ member numbers j l;
    copied = λ n. subst (λ o. IfSome o (λ t. IsSomeAnd (fin.get m n) (λ s. IsCopy s t))) (sym (get-empty nat_cmp n)) tt;
    left = λ n h. inr (placed numbers n (sym (has n) ∙ h));
  }

  pub copying_there : (m0 m c : FinMap nat_cmp (Seated A)) (numbers : List ℕ) (i : ℕ) → Copying m0 m c numbers i → i < length numbers → IsSome (fin.get m (get_or numbers i 0))
  copying_there m0 m c numbers i k l = let n = get_or numbers i 0 in some_other (fin.get m0 n) (fin.get m n) (k.same n) (k.all i l)

  left_on : (numbers : List ℕ) (i n : ℕ) (b : Bool) (o : Option (Seated A)) (t : Seated A) → (i ≡ i) → (b ≡ false → get_or numbers i 0 ≡ n → ⊥) → IsLeft numbers i n → IsSome (cond b (Some t) o) ⊎ IsLeft numbers (i + 1) n
  left_on numbers i n true o t e f l = inl refl
  left_on numbers i n false o t e f l = inr (record { place = l.place; from = ⊎_elim (λ (q : i < l.place). omega arith) (λ (q : l.place ≤ i). absurd (f refl (ap (λ j. get_or numbers j 0) (let h = l.from in let z : i ≡ l.place = omega arith in z) ∙ l.is))) (cases_lt i l.place); there = l.there; is = l.is })

  some_if : (b : Bool) (o : Option (Seated A)) (t : Seated A) → IsSome o → IsSome (cond b (Some t) o)
  some_if true o t h = refl
  some_if false o t h = h

  copied_of : (o p : Option (Seated A)) (t : Seated A) → AreBoth IsSame o p → IsSomeAnd p (λ s. IsCopy s t) → IsSomeAnd o (λ s. IsCopy s t)
  copied_of o None t a h = absurd h
  copied_of o (Some s) t a h = copy_of o s t a h

  pub copying_next : (m0 m m' c c' : FinMap nat_cmp (Seated A)) (numbers : List ℕ) (i : ℕ) (t : Seated A) → Copying m0 m c numbers i → AtSeat m m' (get_or numbers i 0) IsSame → IsSomeAnd (fin.get m (get_or numbers i 0)) (λ s. IsCopy s t) → c' ≡ fin.insert c (get_or numbers i 0) t
      → Copying m0 m' c' numbers (i + 1)
  copying_next m0 m m' c c' numbers i t k at copy put = let number = get_or numbers i 0 in record {
    same = each_after m0 m m' number k.same at;
    all = k.all;
    copied = λ n. subst (λ (q : FinMap nat_cmp (Seated A)). IfSome (fin.get q n) (λ t. IsSomeAnd (fin.get m0 n) (λ s. IsCopy s t))) (sym put)
        (put_all (λ n t. IsSomeAnd (fin.get m0 n) (λ s. IsCopy s t)) c number t (copied_of (fin.get m0 number) (fin.get m number) t (k.same number) copy) (λ n apart. k.copied n) n);
    left = λ n h. subst (λ (q : FinMap nat_cmp (Seated A)). IsSome (fin.get q n) ⊎ IsLeft numbers (i + 1) n) (sym put)
        (subst (λ o. IsSome o ⊎ IsLeft numbers (i + 1) n) (sym (get-insert nat_cmp_total c number t n))
        (⊎_elim (λ q. inl (some_if (eq_by_cmp nat_cmp n number) (fin.get c n) t q))
        (λ q. left_on numbers i n (eq_by_cmp nat_cmp n number) (fin.get c n) t refl (λ e z. other_number n number (sym (unsigned_tied n number) ∙ e) (sym z)) q) (k.left n h)));
  }

  both_copied : (o p : Option (Seated A)) → IfSome p (λ t. IsSomeAnd o (λ s. IsCopy s t)) → (IsSome o → IsSome p) → AreBoth IsCopy o p
  both_copied None None h f = tt
  both_copied None (Some t) h f = h
  both_copied (Some s) None h f = absurd (false≢true (f refl))
  both_copied (Some s) (Some t) h f = h

  pub copying_end : (m0 m c : FinMap nat_cmp (Seated A)) (numbers : List ℕ) (i : ℕ) → Copying m0 m c numbers i → length numbers ≤ i → AreEach IsCopy m0 c
  copying_end m0 m c numbers i k l = λ n. both_copied (fin.get m0 n) (fin.get c n) (k.copied n) (λ h. ⊎_elim (λ (q : IsSome (fin.get c n)). q) (λ (q : IsLeft numbers i n). absurd (let a = q.from in let b = q.there in omega arith)) (k.left n h))
