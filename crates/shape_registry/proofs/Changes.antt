-- The two maps of a registry after each change.
use Rattle.std.proofs.Common.{◌≡◌, ℕ, ◌+◌, ◌≤◌, ◌<◌, Bool, true, false, not, cond, ◌||◌, ◌==◌, List, [], ◌∷◌, ◌++◌, map, Option, None, Some, refl, sym, ◌∙◌, ap, subst, arith}
use Rattle.std.specs.Prelude.{IfSome, IsSomeAnd, filter}
use Rattle.std.specs.List.{AllByRecursion}
use Rattle.std.specs.Option.{option_map}
use Rattle.std.specs.Ordering.{nat_cmp}
use Rattle.std.specs.Cmp.Lexicographic.{slice_cmp}
use Rattle.std.specs.declared.cmp.Ordering.TheVariants.{Less, Greater}
use Rattle.std.specs.Map.{lookup, keys_of, remove_entry, set_value}
use Rattle.std.specs.BTreeMap.{is_at, insert_entry}
use Rattle.std.specs.List.Sorted.{IsStrictlySortedBy}
use Rattle.std.proofs.lemmas.Map.Text.{is_eq-slice_cmp}
use Rattle.std.proofs.lemmas.Bool.Decides.{nat_tests}
use Rattle.shape_base.specs.Tables.{same_text}
use Rattle.shape_base.specs.RegistryHistory.{LiveHandle, RegistryState}
use Rattle.shape_registry.specs.declared.handles.LiveEntry.{LiveEntry}
use Rattle.shape_registry.specs.declared.names.Live.{Live}
use Rattle.shape_registry.specs.State.{with_ready}
use Rattle.shape_registry.specs.Entries.{handle_in, name_of, AreLinked, entry_at}
use Rattle.shape_registry.specs.Names.{now_ready}
use Rattle.shape_registry.proofs.Linked.{text_decides, same_at, at_itself}

-- a state with other live handles
unfoldable pub with_live : RegistryState → List LiveHandle → RegistryState
with_live s ls = record s { live = ls }

-- ---- a new number

-- a number past all others is not found
past_apart : (n k given : ℕ) → k ≤ given → given < n → is_at (nat_cmp n) k ≡ false
past_apart n k given h g = grind (arith, nat_tests)

pub none_past : (es : List (ℕ × LiveEntry)) (given n : ℕ) → AllByRecursion (λ k. k ≤ given) (keys_of es) → given < n → lookup (is_at (nat_cmp n)) es ≡ None
none_past [] given n all h = refl
none_past (e ∷ es) given n all h = rw (past_apart n e.0 given all.0 h) (none_past es given n all.1 h)

past_greater : (n k given : ℕ) → k ≤ given → given < n → nat_cmp n k ≡ Greater
past_greater n k given h g = grind (arith, nat_tests)

-- it comes last
pub put_last : (es : List (ℕ × LiveEntry)) (given n : ℕ) (x : LiveEntry) → AllByRecursion (λ k. k ≤ given) (keys_of es) → given < n → insert_entry nat_cmp es n x ≡ es ++ (n, x) ∷ []
put_last [] given n x all h = refl
put_last (e ∷ es) given n x all h = rw (past_greater n e.0 given all.0 h) (ap (λ es. e ∷ es) (put_last es given n x all.1 h))

-- and is taken out again
pub taken_out : (es : List (ℕ × LiveEntry)) (given n : ℕ) (x : LiveEntry) → AllByRecursion (λ k. k ≤ given) (keys_of es) → given < n → remove_entry (is_at (nat_cmp n)) (es ++ (n, x) ∷ []) ≡ es
taken_out [] given n x all h = rw (at_itself n) refl
taken_out (e ∷ es) given n x all h = rw (past_apart n e.0 given all.0 h) (ap (λ es. e ∷ es) (taken_out es given n x all.1 h))

below_last : (es : List (ℕ × LiveEntry)) (given n : ℕ) (x : LiveEntry) → AllByRecursion (λ k. k ≤ given) (keys_of es) → given < n → AllByRecursion (λ k. k ≤ n) (keys_of (es ++ (n, x) ∷ []))
below_last [] given n x all h = (omega arith, tt)
below_last (e ∷ es) given n x all h = (let g : e.0 ≤ given = all.0 in omega arith, below_last es given n x all.1 h)

-- ---- tests of texts in the order of their bytes

pub text_at : (a b : List ℕ) → is_at (slice_cmp nat_cmp a) b ≡ same_text a b
text_at a b = is_eq-slice_cmp a b

pub same_text_at : (a b : List ℕ) → is_at (slice_cmp nat_cmp a) b ≡ true → a ≡ b
same_text_at a b h = (text_decides a b).0 (sym (text_at a b) ∙ h)

text_itself : (a : List ℕ) → is_at (slice_cmp nat_cmp a) a ≡ true
text_itself a = text_at a a ∙ (text_decides a a).1 refl

-- ---- the maps after a registration

push_forth : {A : Type 0} (f f' : Option A) (n m : A) (b : Bool) → f ≡ Some m → (b ≡ true → f ≡ None) → f' ≡ cond b (Some n) f → f' ≡ Some m
push_forth f f' n m true h none is = let e : f ≡ None = none refl in cc
push_forth f f' n m false h none is = is ∙ h

module _ (names names' : List ℕ → Option Live) (entries entries' : List (ℕ × LiveEntry)) (given n : ℕ) (x : LiveEntry) (linked : AreLinked names entries given)
    (next : n ≡ given + 1) (free : names x.identity ≡ None)
    (named : (q : List ℕ) → names' q ≡ cond (is_at (slice_cmp nat_cmp x.identity) q) (Some (name_of n x)) (names q))
    (put : (m : ℕ) → entry_at entries' m ≡ cond (is_at (nat_cmp n) m) (Some x) (entry_at entries m))
    (ordered : IsStrictlySortedBy nat_cmp (keys_of entries')) (is : entries' ≡ insert_entry nat_cmp entries n x) where
  forth_old : (m : ℕ) (o : Option LiveEntry) → IfSome o (λ y. names y.identity ≡ Some (name_of m y)) → IfSome o (λ y. names' y.identity ≡ Some (name_of m y))
  forth_old m None h = tt
  forth_old m (Some y) h = push_forth (names y.identity) (names' y.identity) (name_of n x) (name_of m y) (is_at (slice_cmp nat_cmp x.identity) y.identity) h
      (λ t. subst (λ i. names i ≡ None) (same_text_at x.identity y.identity t) free) (named y.identity)

  forth_new : (m : ℕ) (b : Bool) → (b ≡ true → m ≡ n) → IfSome (entry_at entries m) (λ y. names' y.identity ≡ Some (name_of m y)) → IfSome (cond b (Some x) (entry_at entries m)) (λ y. names' y.identity ≡ Some (name_of m y))
  forth_new m true same old = let m_is : m ≡ n = same refl in let here : is_at (slice_cmp nat_cmp x.identity) x.identity ≡ true = text_itself x.identity in
      named x.identity ∙ subst (λ b. cond b (Some (name_of n x)) (names x.identity) ≡ Some (name_of m x)) (sym here) (ap (λ (k : ℕ). Some (name_of k x)) (sym m_is))
  forth_new m false same old = old

  push_linked_forth : (m : ℕ) → IfSome (entry_at entries' m) (λ y. names' y.identity ≡ Some (name_of m y))
  push_linked_forth m = subst (λ o. IfSome o (λ y. names' y.identity ≡ Some (name_of m y))) (sym (put m))
      (forth_new m (is_at (nat_cmp n) m) (λ t. same_at n m t) (forth_old m (entry_at entries m) (linked.forth m)))

  back_old : (q : List ℕ) (m : ℕ) (b : Bool) (o : Option LiveEntry) → (b ≡ true → o ≡ None) → IsSomeAnd o (λ y. y.identity ≡ q) → IsSomeAnd (cond b (Some x) o) (λ y. y.identity ≡ q)
  back_old q m true None none h = absurd h
  back_old q m true (Some y) none h = let e : Some y ≡ None = none refl in cc
  back_old q m false o none h = h

  none_at : (m : ℕ) → is_at (nat_cmp n) m ≡ true → entry_at entries m ≡ None
  none_at m t = subst (λ k. entry_at entries k ≡ None) (sym (same_at n m t)) (none_past entries given n linked.below (omega arith))

  back_each : (q : List ℕ) (o : Option Live) → IfSome o (λ live. IsSomeAnd (entry_at entries live.number) (λ y. y.identity ≡ q)) → IfSome o (λ live. IsSomeAnd (entry_at entries' live.number) (λ y. y.identity ≡ q))
  back_each q None h = tt
  back_each q (Some live) h = subst (λ o. IsSomeAnd o (λ y. y.identity ≡ q)) (sym (put live.number)) (back_old q live.number (is_at (nat_cmp n) live.number) (entry_at entries live.number) (none_at live.number) h)

  back_new : (q : List ℕ) (b : Bool) (o : Option Live) → (b ≡ true → x.identity ≡ q) → IfSome o (λ live. IsSomeAnd (entry_at entries' live.number) (λ y. y.identity ≡ q))
      → IfSome (cond b (Some (name_of n x)) o) (λ live. IsSomeAnd (entry_at entries' live.number) (λ y. y.identity ≡ q))
  back_new q true o same old = let here : entry_at entries' n ≡ Some x = put n ∙ rw (at_itself n) refl in subst (λ o. IsSomeAnd o (λ y. y.identity ≡ q)) (sym here) (same refl)
  back_new q false o same old = old

  push_linked_back : (q : List ℕ) → IfSome (names' q) (λ live. IsSomeAnd (entry_at entries' live.number) (λ y. y.identity ≡ q))
  push_linked_back q = subst (λ o. IfSome o (λ live. IsSomeAnd (entry_at entries' live.number) (λ y. y.identity ≡ q))) (sym (named q))
      (back_new q (is_at (slice_cmp nat_cmp x.identity) q) (names q) (same_text_at x.identity q) (back_each q (names q) (linked.back q)))

  pub last_is : entries' ≡ entries ++ (n, x) ∷ []
  last_is = is ∙ put_last entries given n x linked.below (omega arith)

  pub push_linked : AreLinked names' entries' n
  push_linked = record {
    ordered = ordered;
    forth = push_linked_forth;
    back = push_linked_back;
    below = subst (λ es. AllByRecursion (λ k. k ≤ n) (keys_of es)) (sym last_is) (below_last entries given n x linked.below (omega arith));
  }

-- ---- a removal

none_after : (n : ℕ) (es : List (ℕ × LiveEntry)) → AllByRecursion (λ k. nat_cmp n k ≡ Less) (keys_of es) → filter (λ l. not (n == l.number)) (map handle_in es) ≡ map handle_in es
none_after n [] h = refl
none_after n (e ∷ es) h = rw (apart n e.0 h.0) (ap (λ ls. handle_in e ∷ ls) (none_after n es h.1))
  where
    apart : (n k : ℕ) → nat_cmp n k ≡ Less → (n == k) ≡ false
    apart n k h = grind (arith, nat_tests)

removed_step : (n : ℕ) (e : ℕ × LiveEntry) (es kept : List (ℕ × LiveEntry)) (ls : List LiveHandle) (b c : Bool) → c ≡ b → (b ≡ true → ls ≡ map handle_in es) → map handle_in kept ≡ ls
    → map handle_in (cond b es (e ∷ kept)) ≡ cond (not c) (handle_in e ∷ ls) ls
removed_step n e es kept ls true true same none rest = sym (none refl)
removed_step n e es kept ls true false same none rest = cc
removed_step n e es kept ls false true same none rest = cc
removed_step n e es kept ls false false same none rest = ap (λ ls. handle_in e ∷ ls) rest

at_itself_is : (n k : ℕ) → (n == k) ≡ is_at (nat_cmp n) k
at_itself_is n k = grind (arith, nat_tests)

pub removed_is : (n : ℕ) (es : List (ℕ × LiveEntry)) → IsStrictlySortedBy nat_cmp (keys_of es) → map handle_in (remove_entry (is_at (nat_cmp n)) es) ≡ filter (λ l. not (n == l.number)) (map handle_in es)
unfolding IsStrictlySortedBy
removed_is n [] sorted = refl
removed_is n (e ∷ es) sorted = removed_step n e es (remove_entry (is_at (nat_cmp n)) es) (filter (λ l. not (n == l.number)) (map handle_in es)) (is_at (nat_cmp n) e.0) (n == e.0) (at_itself_is n e.0)
    (λ t. none_after n es (subst (λ k. AllByRecursion (λ j. nat_cmp k j ≡ Less) (keys_of es)) (same_at n e.0 t) sorted.0))
    (removed_is n es sorted.1)

-- what another identity finds stays
kept_name : (f f' w : Option Live) (live here : Live) (b : Bool) → f ≡ Some live → (b ≡ true → f ≡ Some here) → (live.number ≡ here.number → ⊥) → f' ≡ cond b w f → f' ≡ Some live
kept_name f f' w live here true h same apart is = let e : Some live ≡ Some here = sym h ∙ same refl in let same_live : live ≡ here = cc in absurd (apart (ap (λ l. l.number) same_live))
kept_name f f' w live here false h same apart is = is ∙ h

apart_from : (n m : ℕ) → is_at (nat_cmp n) m ≡ false → m ≡ n → ⊥
apart_from n m f e = let t : is_at (nat_cmp n) m ≡ true = subst (λ k. is_at (nat_cmp n) k ≡ true) (sym e) (at_itself n) in cc

module _ (names names' : List ℕ → Option Live) (entries entries' : List (ℕ × LiveEntry)) (given n : ℕ) (x : LiveEntry) (linked : AreLinked names entries given)
    (there : entry_at entries n ≡ Some x)
    (named : (q : List ℕ) → names' q ≡ cond (is_at (slice_cmp nat_cmp x.identity) q) None (names q))
    (taken : (m : ℕ) → entry_at entries' m ≡ cond (is_at (nat_cmp n) m) None (entry_at entries m))
    (ordered : IsStrictlySortedBy nat_cmp (keys_of entries')) (is : entries' ≡ remove_entry (is_at (nat_cmp n)) entries) where
  named_here : names x.identity ≡ Some (name_of n x)
  named_here = subst (λ o. IfSome o (λ y. names y.identity ≡ Some (name_of n y))) there (linked.forth n)

  forth_kept : (m : ℕ) (o : Option LiveEntry) → (m ≡ n → ⊥) → IfSome o (λ y. names y.identity ≡ Some (name_of m y)) → IfSome o (λ y. names' y.identity ≡ Some (name_of m y))
  forth_kept m None apart h = tt
  forth_kept m (Some y) apart h = kept_name (names y.identity) (names' y.identity) None (name_of m y) (name_of n x) (is_at (slice_cmp nat_cmp x.identity) y.identity) h
      (λ t. subst (λ i. names i ≡ Some (name_of n x)) (same_text_at x.identity y.identity t) named_here) apart (named y.identity)

  forth_left : (m : ℕ) (b : Bool) → is_at (nat_cmp n) m ≡ b → IfSome (cond b None (entry_at entries m)) (λ y. names' y.identity ≡ Some (name_of m y))
  forth_left m true e = tt
  forth_left m false e = forth_kept m (entry_at entries m) (apart_from n m e) (linked.forth m)

  removed_forth : (m : ℕ) → IfSome (entry_at entries' m) (λ y. names' y.identity ≡ Some (name_of m y))
  removed_forth m = subst (λ o. IfSome o (λ y. names' y.identity ≡ Some (name_of m y))) (sym (taken m)) (forth_left m (is_at (nat_cmp n) m) refl)

  -- what is under another identity has another number
  back_entry : (q : List ℕ) (m : ℕ) (b : Bool) → is_at (nat_cmp n) m ≡ b → (x.identity ≡ q → ⊥) → IsSomeAnd (entry_at entries m) (λ y. y.identity ≡ q) → IsSomeAnd (cond b None (entry_at entries m)) (λ y. y.identity ≡ q)
  back_entry q m true e apart h = absurd (apart (subst (λ o. IsSomeAnd o (λ y. y.identity ≡ q)) (subst (λ k. entry_at entries k ≡ Some x) (sym (same_at n m e)) there) h))
  back_entry q m false e apart h = h

  back_kept : (q : List ℕ) (o : Option Live) → (x.identity ≡ q → ⊥) → IfSome o (λ live. IsSomeAnd (entry_at entries live.number) (λ y. y.identity ≡ q)) → IfSome o (λ live. IsSomeAnd (entry_at entries' live.number) (λ y. y.identity ≡ q))
  back_kept q None apart h = tt
  back_kept q (Some live) apart h = subst (λ o. IsSomeAnd o (λ y. y.identity ≡ q)) (sym (taken live.number)) (back_entry q live.number (is_at (nat_cmp n) live.number) refl apart h)

  apart_texts : (q : List ℕ) → is_at (slice_cmp nat_cmp x.identity) q ≡ false → x.identity ≡ q → ⊥
  apart_texts q f e = let t : is_at (slice_cmp nat_cmp x.identity) q ≡ true = subst (λ k. is_at (slice_cmp nat_cmp x.identity) k ≡ true) e (text_itself x.identity) in cc

  back_left : (q : List ℕ) (b : Bool) → is_at (slice_cmp nat_cmp x.identity) q ≡ b → IfSome (cond b None (names q)) (λ live. IsSomeAnd (entry_at entries' live.number) (λ y. y.identity ≡ q))
  back_left q true e = tt
  back_left q false e = back_kept q (names q) (apart_texts q e) (linked.back q)

  removed_back : (q : List ℕ) → IfSome (names' q) (λ live. IsSomeAnd (entry_at entries' live.number) (λ y. y.identity ≡ q))
  removed_back q = subst (λ o. IfSome o (λ live. IsSomeAnd (entry_at entries' live.number) (λ y. y.identity ≡ q))) (sym (named q)) (back_left q (is_at (slice_cmp nat_cmp x.identity) q) refl)

  pub removed_linked : AreLinked names' entries' given
  removed_linked = record {
    ordered = ordered;
    forth = removed_forth;
    back = removed_back;
    below = subst (λ es. AllByRecursion (λ k. k ≤ given) (keys_of es)) (sym is) (below_less entries linked.below);
  }
    where
      below_step : (e : ℕ × LiveEntry) (es kept : List (ℕ × LiveEntry)) (b : Bool) → e.0 ≤ given → AllByRecursion (λ k. k ≤ given) (keys_of es) → AllByRecursion (λ k. k ≤ given) (keys_of kept) → AllByRecursion (λ k. k ≤ given) (keys_of (cond b es (e ∷ kept)))
      below_step e es kept true here all rest = all
      below_step e es kept false here all rest = (here, rest)

      below_less : (es : List (ℕ × LiveEntry)) → AllByRecursion (λ k. k ≤ given) (keys_of es) → AllByRecursion (λ k. k ≤ given) (keys_of (remove_entry (is_at (nat_cmp n)) es))
      below_less [] all = tt
      below_less (e ∷ es) all = below_step e es (remove_entry (is_at (nat_cmp n)) es) (is_at (nat_cmp n) e.0) all.0 all.1 (below_less es all.1)

-- ---- a number becomes ready

unfoldable pub made_ready : LiveEntry → LiveEntry
made_ready x = record x { is_ready = true }

apart_above : (n k : ℕ) → nat_cmp n k ≡ Less → (n == k) ≡ false
apart_above n k h = grind (arith, nat_tests)

stays : (e : ℕ × LiveEntry) (r b : Bool) → e.1.is_ready ≡ r → b ≡ false → record (handle_in e) { ready = r || b } ≡ handle_in e
stays e true b is h = ap (λ r. record (handle_in e) { ready = r }) (sym is)
stays e false b is h = ap (λ r. record (handle_in e) { ready = r }) (h ∙ sym is)

ready_apart : (n : ℕ) (e : ℕ × LiveEntry) → (n == e.0) ≡ false → with_ready n (handle_in e) ≡ handle_in e
ready_apart n e h = stays e e.1.is_ready (n == e.0) refl h

same_above : (n : ℕ) (es : List (ℕ × LiveEntry)) → AllByRecursion (λ k. nat_cmp n k ≡ Less) (keys_of es) → map (with_ready n) (map handle_in es) ≡ map handle_in es
same_above n [] h = refl
same_above n (e ∷ es) h = ap (λ ls. with_ready n (handle_in e) ∷ ls) (same_above n es h.1) ∙ ap (λ l. l ∷ map handle_in es) (ready_apart n e (apart_above n e.0 h.0))

becomes : (e : ℕ × LiveEntry) (r b : Bool) → b ≡ true → handle_in (e.0, made_ready e.1) ≡ record (handle_in e) { ready = r || b }
unfolding made_ready
becomes e true b h = refl
becomes e false b h = ap (λ r. record (handle_in e) { ready = r }) (sym h)

ready_step : (n : ℕ) (e : ℕ × LiveEntry) (es : List (ℕ × LiveEntry)) (x : LiveEntry) (o : Option LiveEntry) (b : Bool) → (n == e.0) ≡ b
    → (b ≡ true → map (with_ready n) (map handle_in es) ≡ map handle_in es)
    → (o ≡ Some x → map handle_in (set_value (is_at (nat_cmp n)) es (made_ready x)) ≡ map (with_ready n) (map handle_in es))
    → cond b (Some e.1) o ≡ Some x
    → map handle_in (cond b ((e.0, made_ready x) ∷ es) (e ∷ set_value (is_at (nat_cmp n)) es (made_ready x))) ≡ with_ready n (handle_in e) ∷ map (with_ready n) (map handle_in es)
ready_step n e es x o true same above rest h = let here : x ≡ e.1 = cc in
    ap (λ x. handle_in (e.0, made_ready x) ∷ map handle_in es) here ∙ ap (λ l. l ∷ map handle_in es) (becomes e e.1.is_ready (n == e.0) same) ∙ ap (λ ls. with_ready n (handle_in e) ∷ ls) (sym (above refl))
ready_step n e es x o false same above rest h = ap (λ l. l ∷ map handle_in (set_value (is_at (nat_cmp n)) es (made_ready x))) (sym (ready_apart n e same)) ∙ ap (λ ls. with_ready n (handle_in e) ∷ ls) (rest h)

pub ready_is : (n : ℕ) (es : List (ℕ × LiveEntry)) (x : LiveEntry) → IsStrictlySortedBy nat_cmp (keys_of es) → lookup (is_at (nat_cmp n)) es ≡ Some x
    → map handle_in (set_value (is_at (nat_cmp n)) es (made_ready x)) ≡ map (with_ready n) (map handle_in es)
unfolding IsStrictlySortedBy
ready_is n [] x sorted h = cc
ready_is n (e ∷ es) x sorted h = ready_step n e es x (lookup (is_at (nat_cmp n)) es) (is_at (nat_cmp n) e.0) (at_itself_is n e.0)
    (λ t. same_above n es (subst (λ k. AllByRecursion (λ j. nat_cmp k j ≡ Less) (keys_of es)) (same_at n e.0 t) sorted.0))
    (ready_is n es x sorted.1) h

module _ (names names' : List ℕ → Option Live) (entries entries' : List (ℕ × LiveEntry)) (given n : ℕ) (x y : LiveEntry) (linked : AreLinked names entries given)
    (there : entry_at entries n ≡ Some x) (same : y.identity ≡ x.identity) (is_ready : y.is_ready ≡ true)
    (renamed : (q : List ℕ) → names' q ≡ cond (is_at (slice_cmp nat_cmp x.identity) q) (option_map now_ready (names x.identity)) (names q))
    (put : (m : ℕ) → entry_at entries' m ≡ cond (is_at (nat_cmp n) m) (Some y) (entry_at entries m))
    (ordered : IsStrictlySortedBy nat_cmp (keys_of entries')) (keys_stay : keys_of entries' ≡ keys_of entries) where
  stood : names x.identity ≡ Some (name_of n x)
  stood = subst (λ o. IfSome o (λ z. names z.identity ≡ Some (name_of n z))) there (linked.forth n)

  named : (q : List ℕ) → names' q ≡ cond (is_at (slice_cmp nat_cmp x.identity) q) (Some (name_of n y)) (names q)
  named q = renamed q ∙ ap (λ o. cond (is_at (slice_cmp nat_cmp x.identity) q) o (names q)) (ap (option_map now_ready) stood ∙ ap (λ (b : Bool). Some (record { number = n; is_ready = b })) (sym is_ready))

  forth_other : (m : ℕ) (o : Option LiveEntry) → (m ≡ n → ⊥) → IfSome o (λ z. names z.identity ≡ Some (name_of m z)) → IfSome o (λ z. names' z.identity ≡ Some (name_of m z))
  forth_other m None apart h = tt
  forth_other m (Some z) apart h = kept_name (names z.identity) (names' z.identity) (Some (name_of n y)) (name_of m z) (name_of n x) (is_at (slice_cmp nat_cmp x.identity) z.identity) h
      (λ t. subst (λ i. names i ≡ Some (name_of n x)) (same_text_at x.identity z.identity t) stood) apart (named z.identity)

  forth_itself : names' y.identity ≡ Some (name_of n y)
  forth_itself = named y.identity ∙ ap (λ b. cond b (Some (name_of n y)) (names y.identity)) (subst (λ i. is_at (slice_cmp nat_cmp x.identity) i ≡ true) (sym same) (text_itself x.identity))

  forth_each : (m : ℕ) (b : Bool) → is_at (nat_cmp n) m ≡ b → IfSome (cond b (Some y) (entry_at entries m)) (λ z. names' z.identity ≡ Some (name_of m z))
  forth_each m true e = subst (λ k. names' y.identity ≡ Some (name_of k y)) (sym (same_at n m e)) forth_itself
  forth_each m false e = forth_other m (entry_at entries m) (apart_from n m e) (linked.forth m)

  ready_forth : (m : ℕ) → IfSome (entry_at entries' m) (λ z. names' z.identity ≡ Some (name_of m z))
  ready_forth m = subst (λ o. IfSome o (λ z. names' z.identity ≡ Some (name_of m z))) (sym (put m)) (forth_each m (is_at (nat_cmp n) m) refl)

  and_stays : (q : List ℕ) (m : ℕ) (b : Bool) → is_at (nat_cmp n) m ≡ b → IsSomeAnd (entry_at entries m) (λ z. z.identity ≡ q) → IsSomeAnd (cond b (Some y) (entry_at entries m)) (λ z. z.identity ≡ q)
  and_stays q m true e h = same ∙ subst (λ o. IsSomeAnd o (λ z. z.identity ≡ q)) (subst (λ k. entry_at entries k ≡ Some x) (sym (same_at n m e)) there) h
  and_stays q m false e h = h

  ready_back_old : (q : List ℕ) (o : Option Live) → IfSome o (λ live. IsSomeAnd (entry_at entries live.number) (λ z. z.identity ≡ q)) → IfSome o (λ live. IsSomeAnd (entry_at entries' live.number) (λ z. z.identity ≡ q))
  ready_back_old q None h = tt
  ready_back_old q (Some live) h = subst (λ o. IsSomeAnd o (λ z. z.identity ≡ q)) (sym (put live.number)) (and_stays q live.number (is_at (nat_cmp n) live.number) refl h)

  ready_back_at : (q : List ℕ) (b : Bool) → is_at (slice_cmp nat_cmp x.identity) q ≡ b → IfSome (cond b (Some (name_of n y)) (names q)) (λ live. IsSomeAnd (entry_at entries' live.number) (λ z. z.identity ≡ q))
  ready_back_at q true e = let here : entry_at entries' n ≡ Some y = put n ∙ rw (at_itself n) refl in subst (λ o. IsSomeAnd o (λ z. z.identity ≡ q)) (sym here) (same ∙ same_text_at x.identity q e)
  ready_back_at q false e = ready_back_old q (names q) (linked.back q)

  ready_back : (q : List ℕ) → IfSome (names' q) (λ live. IsSomeAnd (entry_at entries' live.number) (λ z. z.identity ≡ q))
  ready_back q = subst (λ o. IfSome o (λ live. IsSomeAnd (entry_at entries' live.number) (λ z. z.identity ≡ q))) (sym (named q)) (ready_back_at q (is_at (slice_cmp nat_cmp x.identity) q) refl)

  pub ready_linked : AreLinked names' entries' given
  ready_linked = record {
    ordered = ordered;
    forth = ready_forth;
    back = ready_back;
    below = subst (λ ks. AllByRecursion (λ k. k ≤ given) ks) (sym keys_stay) linked.below;
  }
