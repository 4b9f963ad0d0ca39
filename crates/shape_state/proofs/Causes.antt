-- Why a change stops a shape, and the column that it names.
use Rattle.std.proofs.Common.{◌≡◌, ◌⊎◌, inl, inr, ℕ, zero, suc, ◌+◌, ◌<◌, ◌≤◌, Bool, true, false, true≢false, not, ◌&&◌, ◌||◌, ◌==◌, List, [], ◌∷◌, ◌++◌, length, drop, get_or, refl, sym, ◌∙◌, ap, ap₂, subst, arith, Option, None, Some, is_none}
use Rattle.std.specs.Prelude.{MatchOption, MatchBool, slice_get, slice_index_or, find, unwrap_or, is_some}
use Rattle.std.specs.Bool.{if◌then◌else◌}
use Rattle.std.specs.List.{list_any, range_with_len}
use Rattle.std.proofs.Math.Nat.{eq-or-lt_of_le}
use Rattle.std.proofs.Math.ListN.{drop_of_length-le}
use Rattle.std.proofs.lemmas.List.{append-nil, drop_more}
use Rattle.std.proofs.lemmas.Bool.{and_parts, eq-eqb, eqb-true, cases_lt, false_from_ne_true}
use Rattle.shape_base.specs.declared.truth.Tri.{Tri}
use Rattle.shape_base.specs.declared.value.Value.TheVariants.{Null}
use Rattle.shape_base.specs.declared.cause.Cause.{Cause}
use Rattle.shape_base.specs.declared.cause.Cause.TheVariants.{Truncated, Changed, BadRow}
use Rattle.shape_base.specs.declared.change.Change.{Change}
use Rattle.shape_base.specs.declared.change.ChangeKind.{ChangeKind}
use Rattle.shape_base.specs.declared.change.ChangeKind.TheVariants.{Insert, Update, Delete, Truncate}
use Rattle.shape_base.specs.declared.change.Tx.{Tx}
use Rattle.shape_base.specs.declared.definition.TableDef.{TableDef}
use Rattle.shape_base.specs.Tables.{Values, Own, own_of, own_from, changes_of, lacks_key, is_null, same_def}
use Rattle.shape_base.specs.Transactions.{IsAsWide}
use Rattle.shape_base.specs.Shape.{Knows, IsTest, IsReader, IsLeast, is_bad, is_truncate, old_of, new_of}
use Rattle.shape_base.proofs.Lemmas.{Decides-same_def}
use Rattle.change_map.specs.Keys.{is_null_key}
use Rattle.change_map.specs.Emitting.{IsWhole, IsBadAt, IsThereAndBadAt, IsChangeBadAt}
use Rattle.change_map.proofs.Places.{AreBelow, key_in_row}
use Rattle.shape_json.specs.ShapeHistory.{Reader, bad_column, bad_row, least_place, or_else, stop_of, first_stop}
use Rattle.shape_state.specs.Reading.{own_at}

-- ---- the least place that passes a test

here : (p : ℕ → Bool) (i c : ℕ) (rest : Option ℕ) → p i ≡ true → i ≡ c → (if p i then Some i else rest) ≡ Some c
here p i c rest e same = ap (λ (b : Bool). if b then Some i else rest) e ∙ ap Some same

there : (p : ℕ → Bool) (i : ℕ) (rest goal : Option ℕ) → p i ≡ false → rest ≡ goal → (if p i then Some i else rest) ≡ goal
there p i rest goal e h = ap (λ (b : Bool). if b then Some i else rest) e ∙ h

find_least : (p : ℕ → Bool) (i n c : ℕ) → i ≤ c → c < i + n → p c ≡ true → ((m : ℕ) → m < c → p m ≡ false) → find p (range_with_len i n) ≡ Some c
find_least p i zero c le lt passes least = absurd (omega arith)
find_least p i (suc n) c le lt passes least = elim (eq-or-lt_of_le le) as (λ _. find p (range_with_len i (suc n)) ≡ Some c) [
  | inl same ↦ here p i c (find p (range_with_len (i + 1) n)) (ap p same ∙ passes) same
  | inr below ↦ there p i (find p (range_with_len (i + 1) n)) (Some c) (least i below) (find_least p (i + 1) n c (omega arith) (omega arith) passes least)
]

none_in : (p : ℕ → Bool) (i n : ℕ) → ((m : ℕ) → m < i + n → p m ≡ false) → list_any p (range_with_len i n) ≡ false
none_in p i zero none = refl
none_in p i (suc n) none = ap (λ (b : Bool). b || list_any p (range_with_len (i + 1) n)) (none i (omega arith)) ∙ none_in p (i + 1) n (λ m h. none m (omega arith))

-- the least is in range, where one in range passes
within : (p : ℕ → Bool) (n c : ℕ) → IsLeast p c → list_any p (range_with_len 0 n) ≡ true → c < n
within p n c least any = elim (cases_lt c n) as (λ _. c < n) [
  | inl lt ↦ lt
  | inr le ↦ let none : list_any p (range_with_len 0 n) ≡ false = none_in p 0 n (λ m h. least.least m (omega arith)) in absurd (let bad : true ≡ false = sym any ∙ none in cc)
]

least_is : (row : Values) (p : ℕ → Bool) (c : ℕ) → IsLeast p c → c < length row → least_place row p ≡ c
least_is row p c least lt = ap (λ (o : Option ℕ). unwrap_or o 0) (find_least p 0 (length row) c (omega arith) (omega arith) least.passes least.least)

-- ---- null key values

below_by : (n p c : ℕ) (rest b : Bool) → (p == c) ≡ b → p < n → (rest ≡ true → c < n) → (b || rest) ≡ true → c < n
below_by n p c rest true e lt later h = subst (λ m. m < n) (eqb-true p c e) lt
below_by n p c rest false e lt later h = later h

below_of : (c n : ℕ) (key : List ℕ) → list_any (λ p. p == c) key ≡ true → AreBelow n key → c < n
below_of c n [] h k = cc
below_of c n (p ∷ key) h k = below_by n p c (list_any (λ q. q == c) key) (p == c) refl k.0 (λ rest. below_of c n key rest k.1) h

key_within : (s : Knows) (row : Values) (c : ℕ) → IsTest s → length row ≡ length s.definition.columns → IsLeast (is_null_key s.key row) c → c < length row
key_within s row c test wide least = below_of c (length row) s.key (and_parts (list_any (λ p. p == c) s.key) (is_null (slice_index_or row c Null)) least.passes).0 (key_in_row s (length row) s.key test refl wide)

or_right : (a b : Bool) → b ≡ true → (a || b) ≡ true
or_right true b h = refl
or_right false b h = h

lacks_by : (key : List ℕ) (row : Values) (p c : ℕ) (b : Bool) → (p == c) ≡ b → is_null (slice_index_or row c Null) ≡ true → (list_any (λ q. q == c) key ≡ true → lacks_key key row ≡ true) → (b || list_any (λ q. q == c) key) ≡ true
    → (is_null (slice_index_or row p Null) || lacks_key key row) ≡ true
lacks_by key row p c true e null later h = ap (λ (b : Bool). b || lacks_key key row) (ap (λ (i : ℕ). is_null (slice_index_or row i Null)) (eqb-true p c e) ∙ null)
lacks_by key row p c false e null later h = or_right (is_null (slice_index_or row p Null)) (lacks_key key row) (later h)

lacks_at : (key : List ℕ) (row : Values) (c : ℕ) → is_null (slice_index_or row c Null) ≡ true → list_any (λ p. p == c) key ≡ true → lacks_key key row ≡ true
lacks_at [] row c null h = cc
lacks_at (p ∷ key) row c null h = lacks_by key row p c (p == c) refl null (lacks_at key row c null) h

null_lacks : (key : List ℕ) (row : Values) (c : ℕ) → is_null_key key row c ≡ true → lacks_key key row ≡ true
null_lacks key row c h = let both = and_parts (list_any (λ p. p == c) key) (is_null (slice_index_or row c Null)) h in lacks_at key row c both.1 both.0

bad_by : (s : Knows) (unread : Values → ℕ → Bool) (row : Values) (column : ℕ) (o : Option Tri) → MatchOption o (IsLeast (unread row) column) (λ truth. IsLeast (is_null_key s.key row) column) → (is_none o || lacks_key s.key row) ≡ true
bad_by s unread row column None h = refl
bad_by s unread row column (Some truth) h = null_lacks s.key row column h.passes

-- ---- a row that cannot be read

bad_if : (r : Reader) (lsn : ℕ) (row : Values) (c : ℕ) (b : Bool) → is_bad r.knows (Some row) ≡ b → b ≡ true → bad_column r row ≡ c → bad_row r lsn (Some row) ≡ Some (BadRow lsn c)
bad_if r lsn row c b e t same = ap (λ (x : Bool). if x then Some (BadRow lsn (bad_column r row)) else None) (e ∙ t) ∙ ap (λ (n : ℕ). Some (BadRow lsn n)) same

column_by : (r : Reader) (row : Values) (c : ℕ) (o : Option Tri) → r.knows.truth row ≡ o → IsReader r.knows r.unread → IsTest r.knows → length row ≡ length r.knows.definition.columns
    → MatchOption o (IsLeast (r.unread row) c) (λ truth. IsLeast (is_null_key r.knows.key row) c) → bad_column r row ≡ c
column_by r row c None e reads test wide least =
    let any : list_any (r.unread row) (range_with_len 0 (length row)) ≡ true = sym (reads row wide) ∙ ap is_none e in
    ap (λ (o : Option Tri). least_place row (if is_none o then r.unread row else is_null_key r.knows.key row)) e ∙ least_is row (r.unread row) c least (within (r.unread row) (length row) c least any)
column_by r row c (Some t) e reads test wide least =
    ap (λ (o : Option Tri). least_place row (if is_none o then r.unread row else is_null_key r.knows.key row)) e ∙ least_is row (is_null_key r.knows.key row) c least (key_within r.knows row c test wide least)

-- a row that cannot be read names its column
one_bad : (r : Reader) (lsn : ℕ) (row : Values) (c : ℕ) → IsReader r.knows r.unread → IsTest r.knows → length row ≡ length r.knows.definition.columns → IsBadAt r.knows r.unread row c → bad_row r lsn (Some row) ≡ Some (BadRow lsn c)
one_bad r lsn row c reads test wide bad =
    bad_if r lsn row c (is_bad r.knows (Some row)) refl (bad_by r.knows r.unread row c (r.knows.truth row) bad) (column_by r row c (r.knows.truth row) refl reads test wide bad)

-- a row that is there is as wide as the definition
IsWideIn : TableDef → Option Values → Type 0
IsWideIn d None = Unit {0}
IsWideIn d (Some row) = length row ≡ length d.columns

there_bad : (r : Reader) (lsn : ℕ) (row : Option Values) (c : ℕ) → IsReader r.knows r.unread → IsTest r.knows → IsWideIn r.knows.definition row → IsThereAndBadAt r.knows r.unread row c → bad_row r lsn row ≡ Some (BadRow lsn c)
unfolding IsWideIn
there_bad r lsn None c reads test wide bad = absurd bad
there_bad r lsn (Some row) c reads test wide bad = one_bad r lsn row c reads test wide bad

good_row : (r : Reader) (lsn : ℕ) (row : Option Values) → is_bad r.knows row ≡ false → bad_row r lsn row ≡ None
good_row r lsn None e = refl
good_row r lsn (Some row) e = ap (λ (x : Bool). if x then Some (BadRow lsn (bad_column r row)) else None) e

either_bad : (r : Reader) (lsn : ℕ) (old new : Option Values) (c : ℕ) (b : Bool) → is_bad r.knows old ≡ b → IsReader r.knows r.unread → IsTest r.knows → IsWideIn r.knows.definition old → IsWideIn r.knows.definition new
    → MatchBool b (IsThereAndBadAt r.knows r.unread old c) (IsThereAndBadAt r.knows r.unread new c) → or_else (bad_row r lsn old) (bad_row r lsn new) ≡ Some (BadRow lsn c)
either_bad r lsn old new c true e reads test wo wn bad = ap (λ (x : Option Cause). or_else x (bad_row r lsn new)) (there_bad r lsn old c reads test wo bad)
either_bad r lsn old new c false e reads test wo wn bad = ap (λ (x : Option Cause). or_else x (bad_row r lsn new)) (good_row r lsn old e) ∙ there_bad r lsn new c reads test wn bad

wide_old : (d : TableDef) (kind : ChangeKind) → IsWhole d kind → IsWideIn d (old_of kind)
unfolding IsWideIn
wide_old d (Insert new) w = tt
wide_old d (Update old new) w = w.0
wide_old d (Delete old) w = w
wide_old d Truncate w = tt

wide_new : (d : TableDef) (kind : ChangeKind) → IsWhole d kind → IsWideIn d (new_of kind)
unfolding IsWideIn
wide_new d (Insert new) w = w
wide_new d (Update old new) w = w.1
wide_new d (Delete old) w = tt
wide_new d Truncate w = tt

-- ---- one change

pub stop_truncate : (r : Reader) (lsn : ℕ) (d : TableDef) (j : ℕ) (kind : ChangeKind) → is_truncate kind ≡ true → Some (Truncated lsn) ≡ stop_of r lsn (own_at d j kind)
stop_truncate r lsn d j kind t = rw t refl

pub stop_changed : (r : Reader) (lsn : ℕ) (d : TableDef) (j : ℕ) (kind : ChangeKind) → is_truncate kind ≡ false → same_def d r.knows.definition ≡ false → Some (Changed lsn) ≡ stop_of r lsn (own_at d j kind)
stop_changed r lsn d j kind t e = rw (t, e) refl

pub stop_bad : (r : Reader) (lsn : ℕ) (d : TableDef) (j : ℕ) (kind : ChangeKind) (c : ℕ) → IsReader r.knows r.unread → IsTest r.knows → is_truncate kind ≡ false → same_def d r.knows.definition ≡ true → IsWhole r.knows.definition kind → IsChangeBadAt r.knows r.unread kind c
    → Some (BadRow lsn c) ≡ stop_of r lsn (own_at d j kind)
stop_bad r lsn d j kind c reads test t e w bad =
    rw (t, e) (sym (either_bad r lsn (old_of kind) (new_of kind) c (is_bad r.knows (old_of kind)) refl reads test (wide_old r.knows.definition kind w) (wide_new r.knows.definition kind w) bad))

pub stop_none : (r : Reader) (lsn : ℕ) (d : TableDef) (j : ℕ) (kind : ChangeKind) → is_truncate kind ≡ false → same_def d r.knows.definition ≡ true → is_bad r.knows (old_of kind) ≡ false → is_bad r.knows (new_of kind) ≡ false → None ≡ stop_of r lsn (own_at d j kind)
stop_none r lsn d j kind t e o n = rw (t, e) (sym (ap₂ or_else (good_row r lsn (old_of kind) o) (good_row r lsn (new_of kind) n)))

-- ---- one change of many

else_none : (a : Option Cause) → or_else a None ≡ a
else_none None = refl
else_none (Some c) = refl

split_if : (r : Reader) (lsn : ℕ) (b : Bool) (x : Own) (rest : List Own) → first_stop r lsn (if b then x ∷ rest else rest) ≡ or_else (first_stop r lsn (if b then x ∷ [] else [])) (first_stop r lsn rest)
split_if r lsn true x rest = ap (λ (c : Option Cause). or_else c (first_stop r lsn rest)) (sym (else_none (stop_of r lsn x)))
split_if r lsn false x rest = refl

split_own : (r : Reader) (lsn t j : ℕ) (kind : ChangeKind) (d : Option TableDef) (rest : List Own) → first_stop r lsn (own_of t j kind d rest) ≡ or_else (first_stop r lsn (own_of t j kind d [])) (first_stop r lsn rest)
split_own r lsn t j kind None rest = refl
split_own r lsn t j kind (Some d) rest = split_if r lsn (d.table == t) (own_at d j kind) rest

-- no change so far stopped the shape
pub record GoesOn (r : Reader) (tx : Tx) (j : ℕ) : Type 0 where
  pub rest : first_stop r tx.lsn (own_from r.knows.definition.table tx.defs j (drop j tx.changes)) ≡ first_stop r tx.lsn (changes_of r.knows.definition.table tx)

cut : (r : Reader) (tx : Tx) (j : ℕ) (c : Change) → j < length tx.changes → c ≡ get_or tx.changes j c → GoesOn r tx j
    → or_else (first_stop r tx.lsn (own_of r.knows.definition.table j c.kind (slice_get tx.defs c.def) [])) (first_stop r tx.lsn (own_from r.knows.definition.table tx.defs (j + 1) (drop (j + 1) tx.changes))) ≡ first_stop r tx.lsn (changes_of r.knows.definition.table tx)
cut r tx j c lt is on =
    sym (split_own r tx.lsn r.knows.definition.table j c.kind (slice_get tx.defs c.def) (own_from r.knows.definition.table tx.defs (j + 1) (drop (j + 1) tx.changes)))
    ∙ ap (λ (cs : List Change). first_stop r tx.lsn (own_from r.knows.definition.table tx.defs j cs)) (sym (drop_more tx.changes j c lt ∙ ap (λ (x : Change). x ∷ drop (j + 1) tx.changes) (sym is)))
    ∙ on.rest

pub goes_more : (r : Reader) (tx : Tx) (j : ℕ) (c : Change) (stop : Option Cause) → j < length tx.changes → c ≡ get_or tx.changes j c → GoesOn r tx j
    → stop ≡ first_stop r tx.lsn (own_of r.knows.definition.table j c.kind (slice_get tx.defs c.def) []) → stop ≡ None → GoesOn r tx (j + 1)
goes_more r tx j c stop lt is on stops none = record {
  rest = ap (λ (x : Option Cause). or_else x (first_stop r tx.lsn (own_from r.knows.definition.table tx.defs (j + 1) (drop (j + 1) tx.changes)))) (sym none ∙ stops) ∙ cut r tx j c lt is on;
}

some_first : (stop later : Option Cause) → is_some stop ≡ true → or_else stop later ≡ stop
some_first None later e = absurd (true≢false (sym e))
some_first (Some y) later e = refl

pub stops_here : (r : Reader) (tx : Tx) (j : ℕ) (c : Change) (stop : Option Cause) → j < length tx.changes → c ≡ get_or tx.changes j c → GoesOn r tx j
    → stop ≡ first_stop r tx.lsn (own_of r.knows.definition.table j c.kind (slice_get tx.defs c.def) []) → is_some stop ≡ true → stop ≡ first_stop r tx.lsn (changes_of r.knows.definition.table tx)
stops_here r tx j c stop lt is on stops some =
    let rest = first_stop r tx.lsn (own_from r.knows.definition.table tx.defs (j + 1) (drop (j + 1) tx.changes)) in
    sym (some_first stop rest some) ∙ ap (λ (y : Option Cause). or_else y rest) stops ∙ cut r tx j c lt is on

pub goes_none : (r : Reader) (tx : Tx) (j : ℕ) → length tx.changes ≤ j → GoesOn r tx j → None ≡ first_stop r tx.lsn (changes_of r.knows.definition.table tx)
goes_none r tx j le on = ap (λ (cs : List Change). first_stop r tx.lsn (own_from r.knows.definition.table tx.defs j cs)) (sym (drop_of_length-le tx.changes le)) ∙ on.rest

-- a change under the shape's definition that is no truncation is as wide as that
pub is_whole : (s d : TableDef) (kind : ChangeKind) → is_truncate kind ≡ false → same_def d s ≡ true → IsAsWide d kind → IsWhole s kind
is_whole s d (Insert new) t e w = w ∙ ap (λ (x : TableDef). length x.columns) ((Decides-same_def d s).0 e)
is_whole s d (Update old new) t e w = let same = ap (λ (x : TableDef). length x.columns) ((Decides-same_def d s).0 e) in (w.0 ∙ same, w.1 ∙ same)
is_whole s d (Delete old) t e w = w ∙ ap (λ (x : TableDef). length x.columns) ((Decides-same_def d s).0 e)
is_whole s d Truncate t e w = cc
