-- The column in which a row cannot be read.
use Rattle.std.proofs.Common.{◌≡◌, inl, inr, ℕ, zero, suc, ◌+◌, ◌<◌, ◌≤◌, Bool, true, false, ◌||◌, ◌==◌, List, [], ◌∷◌, length, refl, sym, ◌∙◌, ap, subst, arith, Option, None, Some, is_none}
use Rattle.std.specs.Prelude.{MatchOption, slice_index_or, find, unwrap_or}
use Rattle.std.specs.Bool.{if◌then◌else◌}
use Rattle.std.specs.List.{list_any, range_with_len}
use Rattle.std.proofs.Math.Nat.{eq-or-lt_of_le}
use Rattle.std.proofs.lemmas.Bool.{and_parts, eq-eqb, eqb-true, cases_lt}
use Rattle.shape_base.specs.declared.truth.Tri.{Tri}
use Rattle.shape_base.specs.declared.value.Value.TheVariants.{Null}
use Rattle.shape_base.specs.declared.change.ChangeKind.{ChangeKind}
use Rattle.shape_base.specs.declared.change.ChangeKind.TheVariants.{Insert}
use Rattle.shape_base.specs.Tables.{Values, lacks_key, is_null}
use Rattle.shape_base.specs.Shape.{Knows, IsTest, IsReader, IsLeast}
use Rattle.change_map.specs.Keys.{is_null_key}
use Rattle.change_map.specs.Emitting.{IsBadAt, IsChangeBadAt, IsWhole}
use Rattle.change_map.proofs.Places.{AreBelow, key_in_row}
use Rattle.shape_json.specs.ShapeHistory.{Reader, least_place}
use Rattle.shape_snapshot.specs.declared.faults.SnapError.TheVariants as errors
use Rattle.shape_snapshot.specs.Refusals.{reader_of, fault_of}

-- ---- the least place that passes a test

here : (p : ℕ → Bool) (i c : ℕ) (rest : Option ℕ) → p i ≡ true → i ≡ c → (if p i then Some i else rest) ≡ Some c
here p i c rest e same = ap (λ (b : Bool). if b then Some i else rest) e ∙ ap Some same

there : (p : ℕ → Bool) (i : ℕ) (rest goal : Option ℕ) → p i ≡ false → rest ≡ goal → (if p i then Some i else rest) ≡ goal
there p i rest goal e h = ap (λ (b : Bool). if b then Some i else rest) e ∙ h

find_least : (p : ℕ → Bool) (i n c : ℕ) → i ≤ c → c < i + n → p c ≡ true → ((m : ℕ) → m < c → p m ≡ false) → find p (range_with_len i n) ≡ Some c
find_least p i zero c le lt passes least = absurd (omega arith)
find_least p i (suc n) c le lt passes least = elim (eq-or-lt_of_le le) as (λ _. find p (range_with_len i (suc n)) ≡ Some c) [
  | inl same ↦ here p i c (find p (range_with_len (i + 1) n)) (ap p same ∙ passes) same
  | inr below ↦ there p i (find p (range_with_len (i + 1) n)) (Some c) (least i below) (find_least p (i + 1) n c (omega arith) (omega arith) passes least)
]

none_in : (p : ℕ → Bool) (i n : ℕ) → ((m : ℕ) → m < i + n → p m ≡ false) → list_any p (range_with_len i n) ≡ false
none_in p i zero none = refl
none_in p i (suc n) none = ap (λ (b : Bool). b || list_any p (range_with_len (i + 1) n)) (none i (omega arith)) ∙ none_in p (i + 1) n (λ m h. none m (omega arith))

-- the least is in range, where one in range passes
within : (p : ℕ → Bool) (n c : ℕ) → IsLeast p c → list_any p (range_with_len 0 n) ≡ true → c < n
within p n c least any = elim (cases_lt c n) as (λ _. c < n) [
  | inl lt ↦ lt
  | inr le ↦ let none : list_any p (range_with_len 0 n) ≡ false = none_in p 0 n (λ m h. least.least m (omega arith)) in absurd (let bad : true ≡ false = sym any ∙ none in cc)
]

least_is : (row : Values) (p : ℕ → Bool) (c : ℕ) → IsLeast p c → c < length row → least_place row p ≡ c
least_is row p c least lt = ap (λ (o : Option ℕ). unwrap_or o 0) (find_least p 0 (length row) c (omega arith) (omega arith) least.passes least.least)

-- ---- null key values

below_by : (n p c : ℕ) (rest b : Bool) → (p == c) ≡ b → p < n → (rest ≡ true → c < n) → (b || rest) ≡ true → c < n
below_by n p c rest true e lt later h = subst (λ m. m < n) (eqb-true p c e) lt
below_by n p c rest false e lt later h = later h

below_of : (c n : ℕ) (key : List ℕ) → list_any (λ p. p == c) key ≡ true → AreBelow n key → c < n
below_of c n [] h k = cc
below_of c n (p ∷ key) h k = below_by n p c (list_any (λ q. q == c) key) (p == c) refl k.0 (λ rest. below_of c n key rest k.1) h

key_within : (s : Knows) (row : Values) (c : ℕ) → IsTest s → length row ≡ length s.definition.columns → IsLeast (is_null_key s.key row) c → c < length row
key_within s row c test wide least = below_of c (length row) s.key (and_parts (list_any (λ p. p == c) s.key) (is_null (slice_index_or row c Null)) least.passes).0 (key_in_row s (length row) s.key test refl wide)

lacks_by : (key : List ℕ) (row : Values) (p c : ℕ) (b : Bool) → (p == c) ≡ b → is_null (slice_index_or row c Null) ≡ true → (list_any (λ q. q == c) key ≡ true → lacks_key key row ≡ true) → (b || list_any (λ q. q == c) key) ≡ true
    → (is_null (slice_index_or row p Null) || lacks_key key row) ≡ true
lacks_by key row p c true e null later h = ap (λ (b : Bool). b || lacks_key key row) (ap (λ (i : ℕ). is_null (slice_index_or row i Null)) (eqb-true p c e) ∙ null)
lacks_by key row p c false e null later h = let rest : lacks_key key row ≡ true = later h in or_right (is_null (slice_index_or row p Null)) (lacks_key key row) rest
  where
    or_right : (a b : Bool) → b ≡ true → (a || b) ≡ true
    or_right true b h = refl
    or_right false b h = h

lacks_at : (key : List ℕ) (row : Values) (c : ℕ) → is_null (slice_index_or row c Null) ≡ true → list_any (λ p. p == c) key ≡ true → lacks_key key row ≡ true
lacks_at [] row c null h = cc
lacks_at (p ∷ key) row c null h = lacks_by key row p c (p == c) refl null (lacks_at key row c null) h

null_lacks : (key : List ℕ) (row : Values) (c : ℕ) → is_null_key key row c ≡ true → lacks_key key row ≡ true
null_lacks key row c h = let both = and_parts (list_any (λ p. p == c) key) (is_null (slice_index_or row c Null)) h in lacks_at key row c both.1 both.0

-- ---- why a row is refused

wide_test : (s : Knows) (row : Values) → length row ≡ length s.definition.columns → (length row == length s.definition.columns) ≡ true
wide_test s row wide = eq-eqb (length row) (length s.definition.columns) wide

pub fault_none : (r : Reader) (row : Values) (c : ℕ) → IsReader r.knows r.unread → length row ≡ length r.knows.definition.columns → r.knows.truth row ≡ None → IsLeast (r.unread row) c → fault_of r row ≡ Some (errors.BadValue c)
fault_none r row c reads wide e least =
    let any : list_any (r.unread row) (range_with_len 0 (length row)) ≡ true = sym (reads row wide) ∙ ap is_none e in
    rw (wide_test r.knows row wide, e) (ap (λ (n : ℕ). Some (errors.BadValue n)) (least_is row (r.unread row) c least (within (r.unread row) (length row) c least any)))

pub fault_some : (r : Reader) (row : Values) (c : ℕ) (t : Tri) → IsTest r.knows → length row ≡ length r.knows.definition.columns → r.knows.truth row ≡ Some t → IsLeast (is_null_key r.knows.key row) c → fault_of r row ≡ Some (errors.NullKey c)
fault_some r row c t test wide e least =
    rw (wide_test r.knows row wide, e, null_lacks r.knows.key row c least.passes) (ap (λ (n : ℕ). Some (errors.NullKey n)) (least_is row (is_null_key r.knows.key row) c least (key_within r.knows row c test wide least)))

-- ---- the row that a change inserts

wide_of : (s : Knows) (kind : ChangeKind) (row : Values) → kind ≡ Insert row → IsWhole s.definition kind → length row ≡ length s.definition.columns
wide_of s kind row is wide = subst (λ (k : ChangeKind). IsWhole s.definition k) is wide

bad_of : (s : Knows) (unread : Values → ℕ → Bool) (kind : ChangeKind) (row : Values) (c : ℕ) → kind ≡ Insert row → IsChangeBadAt s unread kind c → IsBadAt s unread row c
bad_of s unread kind row c is bad = subst (λ (k : ChangeKind). IsChangeBadAt s unread k c) is bad

-- its truth is there, so a key value is null
pub inserts_null : (s : Knows) (unread : Values → ℕ → Bool) (kind : ChangeKind) (row : Values) (c : ℕ) (t : Tri) → IsTest s → IsWhole s.definition kind → IsChangeBadAt s unread kind c → kind ≡ Insert row → s.truth row ≡ Some t
    → fault_of (reader_of s unread) row ≡ Some (errors.NullKey c)
inserts_null s unread kind row c t test whole bad is e =
    fault_some (reader_of s unread) row c t test (wide_of s kind row is whole) e (subst (λ (o : Option Tri). MatchOption o (IsLeast (unread row) c) (λ truth. IsLeast (is_null_key s.key row) c)) e (bad_of s unread kind row c is bad))

-- its truth is not there
pub inserts_unread : (s : Knows) (unread : Values → ℕ → Bool) (kind : ChangeKind) (row : Values) (c : ℕ) → IsReader s unread → IsWhole s.definition kind → IsChangeBadAt s unread kind c → kind ≡ Insert row → s.truth row ≡ None
    → fault_of (reader_of s unread) row ≡ Some (errors.BadValue c)
inserts_unread s unread kind row c reads whole bad is e =
    fault_none (reader_of s unread) row c reads (wide_of s kind row is whole) e (subst (λ (o : Option Tri). MatchOption o (IsLeast (unread row) c) (λ truth. IsLeast (is_null_key s.key row) c)) e (bad_of s unread kind row c is bad))

pub same_row : (kind : ChangeKind) (new row : Values) → kind ≡ Insert new → kind ≡ Insert row → new ≡ row
same_row kind new row e f = let both : Insert new ≡ Insert row = sym e ∙ f in cc
