-- Names in byte order, each once.
use Rattle.std.proofs.Common.{◌≡◌, ℕ, Bool, true, false, List, [], ◌∷◌, refl, sym, ◌∙◌, ap, subst, ◌||◌}
use Rattle.std.specs.Ordering.{match_ordering, ordering_reverse}
use Rattle.std.specs.List.{list_any, AllByRecursion}
use Rattle.std.specs.List.Sorted.{IsStrictlySortedBy}
use Rattle.std.specs.Cmp.Lexicographic.{nat_list_cmp_total}
use Rattle.std.specs.BTreeMap.{is_at}
use Rattle.std.specs.BTreeSet.{BTreeSet, insert_key, contains}
use Rattle.std.specs.declared.cmp.Ordering.{Ordering}
use Rattle.std.specs.declared.cmp.Ordering.TheVariants.{Less, Equal, Greater}
use Rattle.std.proofs.lemmas.Map.Lookups.{btree_set_from_contains}
use Rattle.shape_base.specs.Tables.{same_text}
use Rattle.shape_base.proofs.Lemmas.{text_cmp, exact}
use Rattle.column_names.proofs.Lemmas.{is_tied}
use Rattle.shape_def.specs.Identity.{Names, in_order, IsSameSet}

-- whether a name is among names
abbrev pub has : Names → List ℕ → Bool
has names name = list_any (same_text name) names

has_tied : (names : Names) (q : List ℕ) → list_any (is_at (text_cmp q)) names ≡ has names q
has_tied [] q = refl
has_tied (x ∷ xs) q = ap (λ b. b || list_any (is_at (text_cmp q)) xs) (sym (is_tied x q)) ∙ ap (λ b. same_text q x || b) (has_tied xs q)

once : (a b : Bool) → (a || b) ≡ (a || (a || b))
once true b = refl
once false b = refl

turn : (a b c : Bool) → (a || (b || c)) ≡ (b || (a || c))
turn true true c = refl
turn true false c = refl
turn false b c = refl

has_step : (k x q : List ℕ) (xs : Names) (r : Ordering) → text_cmp k x ≡ r → has (insert_key text_cmp xs k) q ≡ (same_text q k || has xs q) → has (match_ordering r (k ∷ x ∷ xs) (x ∷ xs) (x ∷ insert_key text_cmp xs k)) q ≡ (same_text q k || (same_text q x || has xs q))
has_step k x q xs Less e ih = refl
has_step k x q xs Equal e ih = subst (λ y. (same_text q x || has xs q) ≡ (same_text q y || (same_text q x || has xs q))) (sym (exact k x e)) (once (same_text q x) (has xs q))
has_step k x q xs Greater e ih = ap (λ b. same_text q x || b) ih ∙ turn (same_text q x) (same_text q k) (has xs q)

has_insert : (k q : List ℕ) (xs : Names) → has (insert_key text_cmp xs k) q ≡ (same_text q k || has xs q)
has_insert k q [] = refl
has_insert k q (x ∷ xs) = has_step k x q xs (text_cmp k x) refl (has_insert k q xs)

-- the names in order are those names
pub has_in_order : (names : Names) (q : List ℕ) → has (in_order names) q ≡ has names q
has_in_order [] q = refl
has_in_order (x ∷ xs) q = has_insert x q (in_order xs) ∙ ap (λ b. same_text q x || b) (has_in_order xs q)

-- they rise strictly

above_all : (k x : List ℕ) (xs : Names) → text_cmp k x ≡ Less → AllByRecursion (λ y. text_cmp x y ≡ Less) xs → AllByRecursion (λ y. text_cmp k y ≡ Less) xs
above_all k x [] h a = tt
above_all k x (y ∷ ys) h a = (nat_list_cmp_total.trans k x y h a.0, above_all k x ys h a.1)

above_step : (k x z : List ℕ) (xs : Names) (r : Ordering) → text_cmp z k ≡ Less → text_cmp z x ≡ Less → AllByRecursion (λ y. text_cmp z y ≡ Less) xs → AllByRecursion (λ y. text_cmp z y ≡ Less) (insert_key text_cmp xs k) → AllByRecursion (λ y. text_cmp z y ≡ Less) (match_ordering r (k ∷ x ∷ xs) (x ∷ xs) (x ∷ insert_key text_cmp xs k))
above_step k x z xs Less h i a ih = (h, (i, a))
above_step k x z xs Equal h i a ih = (i, a)
above_step k x z xs Greater h i a ih = (i, ih)

above_insert : (k z : List ℕ) (xs : Names) → text_cmp z k ≡ Less → AllByRecursion (λ y. text_cmp z y ≡ Less) xs → AllByRecursion (λ y. text_cmp z y ≡ Less) (insert_key text_cmp xs k)
above_insert k z [] h a = (h, tt)
above_insert k z (x ∷ xs) h a = above_step k x z xs (text_cmp k x) h a.0 a.1 (above_insert k z xs h a.1)

sorted_step : (k x : List ℕ) (xs : Names) (r : Ordering) → text_cmp k x ≡ r → IsStrictlySortedBy text_cmp (x ∷ xs) → IsStrictlySortedBy text_cmp (insert_key text_cmp xs k) → IsStrictlySortedBy text_cmp (match_ordering r (k ∷ x ∷ xs) (x ∷ xs) (x ∷ insert_key text_cmp xs k))
unfolding IsStrictlySortedBy
sorted_step k x xs Less e s ih = ((e, above_all k x xs e s.0), s)
sorted_step k x xs Equal e s ih = s
sorted_step k x xs Greater e s ih = (above_insert k x xs (nat_list_cmp_total.antisymm x k ∙ ap ordering_reverse e) s.0, ih)

tail_sorted : (x : List ℕ) (xs : Names) → IsStrictlySortedBy text_cmp (x ∷ xs) → IsStrictlySortedBy text_cmp xs
unfolding IsStrictlySortedBy
tail_sorted x xs s = s.1

none_sorted : IsStrictlySortedBy text_cmp []
unfolding IsStrictlySortedBy
none_sorted = tt

one_sorted : (k : List ℕ) → IsStrictlySortedBy text_cmp (k ∷ [])
unfolding IsStrictlySortedBy
one_sorted k = (tt, tt)

insert_sorted : (k : List ℕ) (xs : Names) → IsStrictlySortedBy text_cmp xs → IsStrictlySortedBy text_cmp (insert_key text_cmp xs k)
insert_sorted k [] s = one_sorted k
insert_sorted k (x ∷ xs) s = sorted_step k x xs (text_cmp k x) refl s (insert_sorted k xs (tail_sorted x xs s))

order_sorted : (names : Names) → IsStrictlySortedBy text_cmp (in_order names)
order_sorted [] = none_sorted
order_sorted (x ∷ xs) = insert_sorted x (in_order xs) (order_sorted xs)

-- one set of names has one order
pub order_from_set : (xs ys : Names) → IsSameSet xs ys → in_order xs ≡ in_order ys
order_from_set xs ys h = btree_set_from_contains nat_list_cmp_total (record { keys = in_order xs }) (record { keys = in_order ys }) (order_sorted xs) (order_sorted ys) (λ q. has_tied (in_order xs) q ∙ has_in_order xs q ∙ h q ∙ sym (has_in_order ys q) ∙ sym (has_tied (in_order ys) q)) exact

pub set_from_order : (xs ys : Names) → in_order xs ≡ in_order ys → IsSameSet xs ys
set_from_order xs ys e q = sym (has_in_order xs q) ∙ ap (λ (ns : Names). has ns q) e ∙ has_in_order ys q

-- whether the set of the program has a name
pub in_set : (set : BTreeSet (List ℕ)) (names : Names) → set.keys ≡ in_order names → (q : List ℕ) → contains text_cmp set q ≡ has names q
in_set set names e q = has_tied set.keys q ∙ ap (λ (ns : Names). has ns q) e ∙ has_in_order names q
