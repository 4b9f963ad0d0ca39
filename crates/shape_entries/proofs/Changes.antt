-- The changes of a commit, one by one.
use Rattle.std.proofs.Common.{◌≡◌, ℕ, zero, suc, ◌+◌, ◌<◌, ◌≤◌, Bool, true, false, not, ◌||◌, ◌==◌, List, [], ◌∷◌, ◌++◌, length, drop, get_or, refl, sym, ◌∙◌, ap, subst, arith, append_assoc, Option, None, Some, is_none}
use Rattle.std.specs.Prelude.{slice_get, slice_index_or, MatchOption, MatchBool, Result, Ok, Err, IfOk}
use Rattle.std.specs.Bool.{if◌then◌else◌}
use Rattle.std.specs.List.{list_any, flat_map, AllByRecursion}
use Rattle.std.specs.Option.{IsSomeAnd}
use Rattle.std.proofs.lemmas.List.{append-nil, drop_more}
use Rattle.std.proofs.lemmas.Grind.{flat_map-append}
use Rattle.std.proofs.Math.ListN.{drop_of_length-le}
use Rattle.std.proofs.lemmas.List.Folds.{list_any-append}
use Rattle.std.proofs.lemmas.Bool.{eqb-true, eq-eqb, false_from_ne_true, and_parts}
use Rattle.shape_base.specs.declared.value.Value.TheVariants.{Null}
use Rattle.shape_base.specs.declared.change.Change.{Change}
use Rattle.shape_base.specs.declared.change.ChangeKind.{ChangeKind}
use Rattle.shape_base.specs.declared.change.ChangeKind.TheVariants.{Insert, Update, Delete, Truncate}
use Rattle.shape_base.specs.declared.change.Tx.{Tx}
use Rattle.shape_base.specs.declared.definition.TableDef.{TableDef}
use Rattle.shape_base.specs.declared.entry.Entry.{Entry}
use Rattle.shape_base.specs.declared.truth.Tri.{Tri}
use Rattle.shape_base.specs.Tables.{Values, Own, own_of, own_from, changes_of, is_null, lacks_key, same_def}
use Rattle.shape_base.specs.Shape.{Knows, IsLeast, emit, stops, is_bad, is_truncate, old_of, new_of}
use Rattle.shape_base.proofs.Lemmas.{Decides-same_def}
use Rattle.shape_base.specs.Transactions.{IsAsWide, IsUnder}
use Rattle.chunked_log.specs.Chunked.{Texts, Writes}
use Rattle.change_map.specs.Keys.{is_null_key}
use Rattle.change_map.specs.Emitting.{IsWhole, IsThereAndBadAt, IsChangeBadAt}
use Rattle.shape_entries.specs.Commit.{own_at}

-- ---- rows that cannot be read

or_left : (a b : Bool) → a ≡ true → (a || b) ≡ true
or_left a b h = rw h refl

or_right : (a b : Bool) → b ≡ true → (a || b) ≡ true
or_right true b h = refl
or_right false b h = h

null_at_same : (row : Values) (p c : ℕ) → (p == c) ≡ true → is_null (slice_index_or row c Null) ≡ true → is_null (slice_index_or row p Null) ≡ true
null_at_same row p c e h = subst (λ (i : ℕ). is_null (slice_index_or row i Null) ≡ true) (sym (eqb-true p c e)) h

null_by : (key : List ℕ) (row : Values) (p c : ℕ) (b : Bool) → (p == c) ≡ b → (list_any (λ q. q == c) key ≡ true → lacks_key key row ≡ true) → (b || list_any (λ q. q == c) key) ≡ true → is_null (slice_index_or row c Null) ≡ true
    → (is_null (slice_index_or row p Null) || lacks_key key row) ≡ true
null_by key row p c true e rest h null = or_left _ _ (null_at_same row p c e null)
null_by key row p c false e rest h null = or_right _ _ (rest h)

null_here : (key : List ℕ) (row : Values) (c : ℕ) → is_null (slice_index_or row c Null) ≡ true → list_any (λ p. p == c) key ≡ true → lacks_key key row ≡ true
null_here [] row c null h = cc
null_here (p ∷ key) row c null h = null_by key row p c (p == c) refl (null_here key row c null) h null

pub null_bad : (key : List ℕ) (row : Values) (c : ℕ) → is_null_key key row c ≡ true → lacks_key key row ≡ true
null_bad key row c h = let p = and_parts (list_any (λ p. p == c) key) (is_null (slice_index_or row c Null)) h in null_here key row c p.1 p.0

bad_by : (s : Knows) (unread : Values → ℕ → Bool) (row : Values) (column : ℕ) (o : Option Tri) → MatchOption o (IsLeast (unread row) column) (λ truth. IsLeast (is_null_key s.key row) column) → (is_none o || lacks_key s.key row) ≡ true
bad_by s unread row column None h = refl
bad_by s unread row column (Some truth) h = null_bad s.key row column h.passes

bad_there : (s : Knows) (unread : Values → ℕ → Bool) (row : Option Values) (column : ℕ) → IsThereAndBadAt s unread row column → is_bad s row ≡ true
bad_there s unread None column h = absurd h
bad_there s unread (Some row) column h = bad_by s unread row column (s.truth row) h

bad_either : (s : Knows) (unread : Values → ℕ → Bool) (old new : Option Values) (column : ℕ) (b : Bool) → is_bad s old ≡ b → MatchBool b (IsThereAndBadAt s unread old column) (IsThereAndBadAt s unread new column) → (is_bad s old || is_bad s new) ≡ true
bad_either s unread old new column true e h = or_left _ _ e
bad_either s unread old new column false e h = or_right _ _ (bad_there s unread new column h)

-- a change with a row that cannot be read stops the shape
pub bad_stops : (s : Knows) (unread : Values → ℕ → Bool) (d : TableDef) (j : ℕ) (kind : ChangeKind) (column : ℕ) → IsChangeBadAt s unread kind column → true ≡ stops s (own_at d j kind)
bad_stops s unread d j kind column h = sym (or_right (is_truncate kind) _ (or_right (not (same_def d s.definition)) _ (bad_either s unread (old_of kind) (new_of kind) column (is_bad s (old_of kind)) refl h)))

pub truncate_stops : (s : Knows) (d : TableDef) (j : ℕ) (kind : ChangeKind) → is_truncate kind ≡ true → true ≡ stops s (own_at d j kind)
truncate_stops s d j kind h = sym (or_left _ _ h)

pub other_stops : (s : Knows) (d : TableDef) (j : ℕ) (kind : ChangeKind) → same_def d s.definition ≡ false → true ≡ stops s (own_at d j kind)
other_stops s d j kind h = sym (or_right (is_truncate kind) _ (or_left _ _ (ap not h)))

pub goes_on : (s : Knows) (d : TableDef) (j : ℕ) (kind : ChangeKind) → is_truncate kind ≡ false → same_def d s.definition ≡ true → is_bad s (old_of kind) ≡ false → is_bad s (new_of kind) ≡ false → false ≡ stops s (own_at d j kind)
goes_on s d j kind t e o n = rw (t, e, o, n) refl

-- a change under the shape's definition that is no truncation is as wide as that
pub is_whole : (s d : TableDef) (kind : ChangeKind) → is_truncate kind ≡ false → same_def d s ≡ true → IsAsWide d kind → IsWhole s kind
is_whole s d (Insert new) t e w = w ∙ ap (λ (x : TableDef). length x.columns) ((Decides-same_def d s).0 e)
is_whole s d (Update old new) t e w = let same = ap (λ (x : TableDef). length x.columns) ((Decides-same_def d s).0 e) in (w.0 ∙ same, w.1 ∙ same)
is_whole s d (Delete old) t e w = w ∙ ap (λ (x : TableDef). length x.columns) ((Decides-same_def d s).0 e)
is_whole s d Truncate t e w = cc

-- ---- one change of many

split_by : (b : Bool) (x : Own) (rest : List Own) → (if b then x ∷ rest else rest) ≡ (if b then x ∷ [] else []) ++ rest
split_by true x rest = refl
split_by false x rest = refl

own_split : (t j : ℕ) (kind : ChangeKind) (d : Option TableDef) (rest : List Own) → own_of t j kind d rest ≡ own_of t j kind d [] ++ rest
own_split t j kind None rest = refl
own_split t j kind (Some d) rest = split_by (d.table == t) (own_at d j kind) rest

-- the one change of the table, or none
own_if : (b : Bool) (x : Own) → b ≡ true → (if b then x ∷ [] else []) ≡ x ∷ []
own_if b x h = rw h refl

pub own_some : (t j : ℕ) (kind : ChangeKind) (o : Option TableDef) (d : TableDef) → o ≡ Some d → d.table ≡ t → own_of t j kind o [] ≡ own_at d j kind ∷ []
own_some t j kind o d is same = ap (λ (x : Option TableDef). own_of t j kind x []) is ∙ own_if (d.table == t) (own_at d j kind) (eq-eqb d.table t same)

other_if : (b : Bool) (x : Own) → b ≡ false → ◌≡◌ {A = List Own} (if b then x ∷ [] else []) []
other_if b x h = rw h refl

pub own_other : (t j : ℕ) (kind : ChangeKind) (o : Option TableDef) (d : TableDef) → o ≡ Some d → (d.table ≡ t → ⊥) → own_of t j kind o [] ≡ []
own_other t j kind o d is other = ap (λ (x : Option TableDef). own_of t j kind x []) is ∙ other_if (d.table == t) (own_at d j kind) (false_from_ne_true _ (λ h. other (eqb-true d.table t h)))

pub own_none : (t j : ℕ) (kind : ChangeKind) (o : Option TableDef) → o ≡ None → own_of t j kind o [] ≡ []
own_none t j kind o is = ap (λ (x : Option TableDef). own_of t j kind x []) is

-- what one change adds, and whether it stops
pub adds_none : (s : Knows) (lsn : ℕ) (own : List Own) (made : List Entry) → own ≡ [] → made ++ flat_map (emit s lsn) own ≡ made
adds_none s lsn own made is = ap (λ (os : List Own). made ++ flat_map (emit s lsn) os) is ∙ append-nil made

pub stops_none : (s : Knows) (own : List Own) → own ≡ [] → false ≡ list_any (stops s) own
stops_none s own is = sym (ap (list_any (stops s)) is)

pub adds_one : (s : Knows) (lsn : ℕ) (own : List Own) (x : Own) (made : List Entry) → own ≡ x ∷ [] → made ++ emit s lsn x ≡ made ++ flat_map (emit s lsn) own
adds_one s lsn own x made is = ap (λ (es : List Entry). made ++ es) (sym (append-nil (emit s lsn x))) ∙ ap (λ (os : List Own). made ++ flat_map (emit s lsn) os) (sym is)

or_none : (b : Bool) → b ≡ (b || false)
or_none true = refl
or_none false = refl

pub stops_one : (s : Knows) (own : List Own) (x : Own) (b : Bool) → own ≡ x ∷ [] → b ≡ stops s x → b ≡ list_any (stops s) own
stops_one s own x b is h = h ∙ or_none (stops s x) ∙ ap (list_any (stops s)) (sym is)

-- the entries of what is left, and whether it stops the shape
pub record Left (s : Knows) (tx : Tx) (j : ℕ) (written : Texts) : Type 0 where
  pub made : List Entry
  pub writes : Writes written made
  pub entries : made ++ flat_map (emit s tx.lsn) (own_from s.definition.table tx.defs j (drop j tx.changes)) ≡ flat_map (emit s tx.lsn) (changes_of s.definition.table tx)
  pub stop : list_any (stops s) (own_from s.definition.table tx.defs j (drop j tx.changes)) ≡ list_any (stops s) (changes_of s.definition.table tx)

pub left_start : (s : Knows) (tx : Tx) (written : Texts) → Writes written [] → Left s tx 0 written
left_start s tx written writes = record { made = []; writes = writes; entries = refl; stop = refl }

cut : (tx : Tx) (t j : ℕ) (c : Change) → j < length tx.changes → get_or tx.changes j c ≡ c
    → own_from t tx.defs j (drop j tx.changes) ≡ own_of t j c.kind (slice_get tx.defs c.def) [] ++ own_from t tx.defs (j + 1) (drop (j + 1) tx.changes)
cut tx t j c lt is =
    ap (own_from t tx.defs j) (drop_more tx.changes j c lt ∙ ap (λ (x : Change). x ∷ drop (j + 1) tx.changes) is)
    ∙ own_split t j c.kind (slice_get tx.defs c.def) (own_from t tx.defs (j + 1) (drop (j + 1) tx.changes))

pub left_more : (s : Knows) (tx : Tx) (j : ℕ) (written new : Texts) (c : Change) → j < length tx.changes → c ≡ get_or tx.changes j c → Left s tx j written
    → ((made : List Entry) → Writes written made → Writes new (made ++ flat_map (emit s tx.lsn) (own_of s.definition.table j c.kind (slice_get tx.defs c.def) [])))
    → false ≡ list_any (stops s) (own_of s.definition.table j c.kind (slice_get tx.defs c.def) [])
    → Left s tx (j + 1) new
left_more s tx j written new c lt is l adds keeps =
    let own = own_of s.definition.table j c.kind (slice_get tx.defs c.def) [] in
    let rest = own_from s.definition.table tx.defs (j + 1) (drop (j + 1) tx.changes) in
    let split = cut tx s.definition.table j c lt (sym is) in
    record {
      made = l.made ++ flat_map (emit s tx.lsn) own;
      writes = adds l.made l.writes;
      entries = append_assoc l.made (flat_map (emit s tx.lsn) own) (flat_map (emit s tx.lsn) rest)
          ∙ ap (λ (xs : List Entry). l.made ++ xs) (sym (flat_map-append (emit s tx.lsn) own rest) ∙ ap (flat_map (emit s tx.lsn)) (sym split)) ∙ l.entries;
      stop = sym (ap (λ (b : Bool). b || list_any (stops s) rest) (sym keeps)) ∙ sym (list_any-append (stops s) own rest) ∙ ap (list_any (stops s)) (sym split) ∙ l.stop;
    }

pub left_stops : (s : Knows) (tx : Tx) (j : ℕ) (written : Texts) (c : Change) → j < length tx.changes → c ≡ get_or tx.changes j c → Left s tx j written
    → true ≡ list_any (stops s) (own_of s.definition.table j c.kind (slice_get tx.defs c.def) []) → true ≡ list_any (stops s) (changes_of s.definition.table tx)
left_stops s tx j written c lt is l stop =
    let own = own_of s.definition.table j c.kind (slice_get tx.defs c.def) [] in
    let rest = own_from s.definition.table tx.defs (j + 1) (drop (j + 1) tx.changes) in
    ap (λ (b : Bool). b || list_any (stops s) rest) stop ∙ sym (list_any-append (stops s) own rest) ∙ ap (list_any (stops s)) (sym (cut tx s.definition.table j c lt (sym is))) ∙ l.stop

drop_all : {A : Type 0} (xs : List A) (j : ℕ) → length xs ≤ j → drop j xs ≡ []
drop_all xs j h = drop_of_length-le xs h

pub left_none : (s : Knows) (tx : Tx) (j : ℕ) (written : Texts) → length tx.changes ≤ j → Left s tx j written
    → Writes written (flat_map (emit s tx.lsn) (changes_of s.definition.table tx)) × (false ≡ list_any (stops s) (changes_of s.definition.table tx))
left_none s tx j written h l =
    let none = ap (own_from s.definition.table tx.defs j) (drop_all tx.changes j h) in
    (subst (λ (es : List Entry). Writes written es) (sym (append-nil l.made) ∙ ap (λ (os : List Own). l.made ++ flat_map (emit s tx.lsn) os) (sym none) ∙ l.entries) l.writes, ap (list_any (stops s)) (sym none) ∙ l.stop)

-- each of a list
pub all_at : {A : Type 0} (P : A → Type 0) (xs : List A) (i : ℕ) (d : A) → AllByRecursion P xs → i < length xs → P (get_or xs i d)
all_at P [] i d h lt = absurd (omega (arith, lt))
all_at P (x ∷ xs) zero d h lt = h.0
all_at P (x ∷ xs) (suc i) d h lt = all_at P xs i d h.1 (omega (arith, lt))

pub wide_of : (defs : List TableDef) (c : Change) (d : TableDef) → IsUnder defs c → slice_get defs c.def ≡ Some d → IsAsWide d c.kind
wide_of defs c d h e = subst (λ (o : Option TableDef). IsSomeAnd o (λ x. IsAsWide x c.kind)) e h

-- what follows of a value follows of what is there
pub if_ok : {A E : Type 0} (r : Result A E) (P Q : A → Type 0) → ((x : A) → P x → Q x) → IfOk r P → IfOk r Q
if_ok (Ok x) P Q f h = f x h
if_ok (Err e) P Q f h = tt

-- ---- a commit of other tables

none_of : (t : ℕ) (defs : List TableDef) (i : ℕ) → list_any (λ (d : TableDef). d.table == t) defs ≡ false → MatchOption (slice_get defs i) (Unit {0}) (λ d. (d.table == t) ≡ false)
none_of t [] i h = tt
none_of t (d ∷ ds) zero h = first (d.table == t) h
  where
    first : (b : Bool) → (b || list_any (λ (d : TableDef). d.table == t) ds) ≡ false → b ≡ false
    first true h = h
    first false h = refl
none_of t (d ∷ ds) (suc i) h = none_of t ds i (rest (d.table == t) h)
  where
    rest : (b : Bool) → (b || list_any (λ (d : TableDef). d.table == t) ds) ≡ false → list_any (λ (d : TableDef). d.table == t) ds ≡ false
    rest true h = cc
    rest false h = h

not_own : (t j : ℕ) (kind : ChangeKind) (o : Option TableDef) (rest : List Own) → MatchOption o (Unit {0}) (λ d. (d.table == t) ≡ false) → own_of t j kind o rest ≡ rest
not_own t j kind None rest h = refl
not_own t j kind (Some d) rest h = ap (λ (b : Bool). if b then record { number = j; definition = d; kind = kind } ∷ rest else rest) h

none_own : (t : ℕ) (defs : List TableDef) (j : ℕ) (cs : List Change) → list_any (λ (d : TableDef). d.table == t) defs ≡ false → own_from t defs j cs ≡ []
none_own t defs j [] h = refl
none_own t defs j (c ∷ cs) h = not_own t j c.kind (slice_get defs c.def) (own_from t defs (j + 1) cs) (none_of t defs c.def h) ∙ none_own t defs (j + 1) cs h

-- where none of its definitions is of a table, it has no changes of it
pub no_changes : (t : ℕ) (tx : Tx) → list_any (λ (d : TableDef). d.table == t) tx.defs ≡ false → changes_of t tx ≡ []
no_changes t tx h = none_own t tx.defs 0 tx.changes h
