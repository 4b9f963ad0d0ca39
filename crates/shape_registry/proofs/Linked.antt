-- What the two maps of a registry find is what the list of its live handles has.
use Rattle.std.proofs.Common.{◌≡◌, ℕ, Bool, true, false, cond, ◌==◌, List, [], ◌∷◌, map, Option, None, Some, refl, sym, ◌∙◌, ap, subst, arith}
use Rattle.std.specs.Prelude.{IfSome, IsSomeAnd, find}
use Rattle.std.specs.List.{AllByRecursion}
use Rattle.std.specs.Option.{option_map, option_copied}
use Rattle.std.specs.Borrow.{Bor}
use Rattle.std.specs.Ordering.{nat_cmp, is_eq}
use Rattle.std.specs.declared.cmp.Ordering.TheVariants.{Less}
use Rattle.std.specs.Map.{lookup, keys_of}
use Rattle.std.specs.BTreeMap.{is_at}
use Rattle.std.specs.List.Sorted.{IsStrictlySortedBy}
use Rattle.std.proofs.lemmas.Bool.Decides.{Decides-eqb, nat_tests}
use Rattle.std.proofs.lemmas.Slice.Eq.{slice_eq-Decides}
use Rattle.std.specs.Bool.{Decides}
use Rattle.shape_base.specs.Tables.{same_text}
use Rattle.shape_base.specs.RegistryHistory.{LiveHandle, RegistryState}
use Rattle.shape_registry.specs.declared.handles.LiveEntry.{LiveEntry}
use Rattle.shape_registry.specs.declared.names.Live.{Live}
use Rattle.shape_registry.specs.declared.standing.Standing.TheVariants as standings
use Rattle.shape_registry.specs.State.{live_at, standing_in, standing_of}
use Rattle.shape_registry.specs.Entries.{handle_in, live_of, name_of, AreLinked, entry_at}

-- the tests decide

pub text_decides : (a b : List ℕ) → Decides (same_text a b) (a ≡ b)
text_decides a b = slice_eq-Decides Decides-eqb a b (same_text a b) refl

pub at_is : (n k : ℕ) → is_at (nat_cmp n) k ≡ (k == n)
at_is n k = grind (arith, nat_tests)

-- a number of the list finds what the map has for it

number_step : (e : ℕ × LiveEntry) (n : ℕ) (b c : Bool) (r : Option LiveHandle) (o : Option LiveEntry) → b ≡ c → (b ≡ true → e.0 ≡ n) → r ≡ option_map (λ x. handle_in (n, x)) o
    → cond b (Some (handle_in e)) r ≡ option_map (λ x. handle_in (n, x)) (cond c (Some e.1) o)
number_step e n true true r o same is rest = ap (λ k. Some (handle_in (k, e.1))) (is refl)
number_step e n true false r o same is rest = cc
number_step e n false true r o same is rest = cc
number_step e n false false r o same is rest = rest

pub find_number : (es : List (ℕ × LiveEntry)) (n : ℕ) → find (λ l. l.number == n) (map handle_in es) ≡ option_map (λ x. handle_in (n, x)) (lookup (is_at (nat_cmp n)) es)
find_number [] n = refl
find_number (e ∷ es) n = number_step e n (e.0 == n) (is_at (nat_cmp n) e.0) _ _ (sym (at_is n e.0)) (Decides-eqb e.0 n).0 (find_number es n)

-- ---- each entry of the list is found by its number

not_less : (n : ℕ) → nat_cmp n n ≡ Less → ⊥
not_less n h = grind (arith, nat_tests)

less_apart : (n k : ℕ) → nat_cmp n k ≡ Less → is_at (nat_cmp n) k ≡ false
less_apart n k h = ap is_eq h

pub none_above : (n : ℕ) (es : List (ℕ × LiveEntry)) → AllByRecursion (λ k. nat_cmp n k ≡ Less) (keys_of es) → lookup (is_at (nat_cmp n)) es ≡ None
none_above n [] h = refl
none_above n (e ∷ es) h = rw (less_apart n e.0 h.0) (none_above n es h.1)

-- a fact of what a number finds in a list, where its head has another number
tail_step : (P : ℕ → LiveEntry → Type 0) (n : ℕ) (x : LiveEntry) (b : Bool) (o : Option LiveEntry) → (b ≡ true → o ≡ None) → IfSome (cond b (Some x) o) (P n) → IfSome o (P n)
tail_step P n x true o none h = rw (none refl) tt
tail_step P n x false o none h = h

pub same_at : (n k : ℕ) → is_at (nat_cmp n) k ≡ true → k ≡ n
same_at n k h = (Decides-eqb k n).0 (sym (at_is n k) ∙ h)

pub at_itself : (n : ℕ) → is_at (nat_cmp n) n ≡ true
at_itself n = at_is n n ∙ (Decides-eqb n n).1 refl

-- what holds of the entry that each number finds holds of each entry
pub each_found : (P : ℕ → LiveEntry → Type 0) (es : List (ℕ × LiveEntry)) → IsStrictlySortedBy nat_cmp (keys_of es)
    → ((n : ℕ) → IfSome (lookup (is_at (nat_cmp n)) es) (P n)) → AllByRecursion (λ e. P e.0 e.1) es
unfolding IsStrictlySortedBy
each_found P [] sorted found = tt
each_found P (e ∷ es) sorted found = (
  (let h : IfSome (cond (is_at (nat_cmp e.0) e.0) (Some e.1) (lookup (is_at (nat_cmp e.0)) es)) (P e.0) = found e.0 in
      let t : is_at (nat_cmp e.0) e.0 ≡ true = at_itself e.0 in
      subst (λ b. IfSome (cond b (Some e.1) (lookup (is_at (nat_cmp e.0)) es)) (P e.0)) t h),
  each_found P es sorted.1 (λ n. tail_step P n e.1 (is_at (nat_cmp n) e.0) (lookup (is_at (nat_cmp n)) es)
      (λ t. subst (λ k. lookup (is_at (nat_cmp k)) es ≡ None) (same_at n e.0 t) (none_above e.0 es sorted.0)) (found n)),
)

-- ---- what the list has for an identity is what the map of identities has

-- a handle of the list under an identity, with its entry, of which P holds
record IsFound (P : ℕ → LiveEntry → Type 0) (identity : List ℕ) (l : LiveHandle) : Type 0 where
  entry : LiveEntry
  handle : l ≡ handle_in (l.number, entry)
  named : entry.identity ≡ identity
  holds : P l.number entry

find_some_step : (P : ℕ → LiveEntry → Type 0) (e : ℕ × LiveEntry) (identity : List ℕ) (b : Bool) (r : Option LiveHandle) (l : LiveHandle)
    → (b ≡ true → e.1.identity ≡ identity) → P e.0 e.1 → (r ≡ Some l → IsFound P identity l)
    → cond b (Some (handle_in e)) r ≡ Some l → IsFound P identity l
find_some_step P e identity true r l is here rest h = let same : handle_in e ≡ l = cc in
    subst (λ l. IsFound P identity l) same (record { entry = e.1; handle = refl; named = is refl; holds = here })
find_some_step P e identity false r l is here rest h = rest h

find_some : (P : ℕ → LiveEntry → Type 0) (es : List (ℕ × LiveEntry)) → AllByRecursion (λ e. P e.0 e.1) es
    → (identity : List ℕ) (l : LiveHandle) → find (λ l. same_text l.identity identity) (map handle_in es) ≡ Some l → IsFound P identity l
find_some P [] all identity l h = cc
find_some P (e ∷ es) all identity l h = find_some_step P e identity (same_text e.1.identity identity) _ l (text_decides e.1.identity identity).0 all.0 (find_some P es all.1 identity l) h

find_none_step : (e : ℕ × LiveEntry) (identity : List ℕ) (b c : Bool) (r : Option LiveHandle) (o : Option LiveEntry) (x : LiveEntry)
    → same_text e.1.identity identity ≡ b → (r ≡ None → o ≡ Some x → same_text x.identity identity ≡ false)
    → cond b (Some (handle_in e)) r ≡ None → cond c (Some e.1) o ≡ Some x → same_text x.identity identity ≡ false
find_none_step e identity true c r o x is rest h g = cc
find_none_step e identity false true r o x is rest h g = let same : e.1 ≡ x = cc in subst (λ (x : LiveEntry). same_text x.identity identity ≡ false) same is
find_none_step e identity false false r o x is rest h g = rest h g

find_none : (es : List (ℕ × LiveEntry)) (identity : List ℕ) → find (λ l. same_text l.identity identity) (map handle_in es) ≡ None
    → (n : ℕ) (x : LiveEntry) → lookup (is_at (nat_cmp n)) es ≡ Some x → same_text x.identity identity ≡ false
find_none [] identity h n x g = cc
find_none (e ∷ es) identity h n x g = find_none_step e identity (same_text e.1.identity identity) (is_at (nat_cmp n) e.0) _ _ x refl (λ a b. find_none es identity a n x b) h g

back_at : (entries : List (ℕ × LiveEntry)) (identity : List ℕ) (f : Option Live) (live : Live) → IfSome f (λ live. IsSomeAnd (entry_at entries live.number) (λ x. x.identity ≡ identity)) → f ≡ Some live
    → IsSomeAnd (entry_at entries live.number) (λ x. x.identity ≡ identity)
back_at entries identity f live h e = let P : Option Live → Type 0 = λ o. IfSome o (λ live. IsSomeAnd (entry_at entries live.number) (λ x. x.identity ≡ identity)) in subst P e h

no_such : (identity : List ℕ) (o : Option LiveEntry) → IsSomeAnd o (λ x. x.identity ≡ identity) → ((x : LiveEntry) → o ≡ Some x → same_text x.identity identity ≡ false) → ⊥
no_such identity None h none = h
no_such identity (Some x) h none = let t : same_text x.identity identity ≡ true = (text_decides x.identity identity).1 h in let f : same_text x.identity identity ≡ false = none x refl in cc

-- an entry is what its identity finds
abbrev IsNamed : (List ℕ → Option Live) → ℕ → LiveEntry → Type 0
IsNamed names n x = names x.identity ≡ Some (name_of n x)

found_step : (names : List ℕ → Option Live) (identity : List ℕ) (f : Option Live) (r : Option LiveHandle) → names identity ≡ f
    → ((l : LiveHandle) → r ≡ Some l → IsFound (IsNamed names) identity l) → ((live : Live) → r ≡ None → f ≡ Some live → ⊥)
    → f ≡ option_map live_of r
found_step names identity f (Some l) is some none = let s = some l refl in
    sym is ∙ subst (λ i. names i ≡ Some (name_of l.number s.entry)) s.named s.holds ∙ ap (λ l. Some (live_of l)) (sym s.handle)
found_step names identity None None is some none = refl
found_step names identity (Some live) None is some none = absurd (none live refl refl)

module _ (names : List ℕ → Option Live) (entries : List (ℕ × LiveEntry)) (given : ℕ) (linked : AreLinked names entries given) (identity : List ℕ) where
  pub found_under : names identity ≡ option_map live_of (find (λ l. same_text l.identity identity) (map handle_in entries))
  found_under = found_step names identity (names identity) (find (λ l. same_text l.identity identity) (map handle_in entries)) refl
      (λ l e. find_some (IsNamed names) entries (each_found (IsNamed names) entries linked.ordered linked.forth) identity l e)
      (λ live none e. no_such identity (entry_at entries live.number) (back_at entries identity (names identity) live (linked.back identity) e) (λ x is. find_none entries identity none live.number x is))

  -- where no handle of the list has the identity, it finds none
  pub unnamed : find (λ l. same_text l.identity identity) (map handle_in entries) ≡ None → names identity ≡ None
  unnamed none = found_under ∙ ap (option_map live_of) none

-- ---- what the calls of the maps answer, as handles of the list

pub at_answer : (entries : List (ℕ × LiveEntry)) (n : ℕ) (r : Option (Bor LiveEntry)) → option_copied r ≡ entry_at entries n
    → option_map (λ e. handle_in (n, e.now)) r ≡ find (λ l. l.number == n) (map handle_in entries)
at_answer entries n r h = copied r ∙ ap (option_map (λ x. handle_in (n, x))) h ∙ sym (find_number entries n)
  where
    copied : (r : Option (Bor LiveEntry)) → option_map (λ e. handle_in (n, e.now)) r ≡ option_map (λ x. handle_in (n, x)) (option_copied r)
    copied None = refl
    copied (Some e) = refl

pub numbers_of : (es : List (ℕ × LiveEntry)) → keys_of es ≡ map (λ l. l.number) (map handle_in es)
numbers_of [] = refl
numbers_of (e ∷ es) = ap (λ ns. e.0 ∷ ns) (numbers_of es)

-- a number that is not found does not start
pub not_starting : (s : RegistryState) (n : ℕ) → live_at s n ≡ None → standing_in s n ≡ standings.Starting → ⊥
not_starting s n none h = let e : standings.NotLive ≡ standings.Starting = sym (ap standing_of none) ∙ h in cc
