-- The entries of a log are plain.
use Rattle.std.proofs.Common.{◌≡◌, ℕ, ◌+◌, ◌*◌, Bool, true, false, List, [], ◌∷◌, ◌++◌, map, take, drop, refl, ◌∙◌, ap, Option, None, Some, IfSome}
use Rattle.std.specs.Prelude.{◌&&◌}
use Rattle.std.specs.Bool.{if◌then◌else◌}
use Rattle.std.specs.List.{AllByRecursion, IsDistinct, list_any, list_all, flat_map, filter}
use Rattle.std.specs.Ordering.{nat_cmp, is_lt, ordering_reverse}
use Rattle.std.specs.Cmp.Lexicographic.{slice_cmp, nat_list_cmp_total}
use Rattle.std.specs.declared.cmp.Ordering.{Ordering}
use Rattle.std.specs.declared.cmp.Ordering.TheVariants.{Less, Equal, Greater}
use Rattle.std.proofs.lemmas.Bool.{and_parts, and_from}
use Rattle.shape_base.specs.declared.entry.Cell.{Cell}
use Rattle.shape_base.specs.declared.entry.Entry.{Entry}
use Rattle.shape_base.specs.declared.definition.TableDef.{TableDef}
use Rattle.shape_base.specs.declared.change.Tx.{Tx}
use Rattle.shape_base.specs.declared.history.Step.{Step}
use Rattle.shape_base.specs.declared.history.Step.TheVariants.{Commit, Define}
use Rattle.shape_base.specs.Tables.{Values, Own, same_text, changes_of}
use Rattle.shape_base.specs.Shape.{Knows, Keyed, IsTest, name_at, cell_at, by_name, put_place, cells_of, same_cell, differing, picks, keyed, pick, old_of, new_of, emit, stops, entries_of, update_at, shown}
use Rattle.shape_base.specs.Log.{later, start_from, step_of, unseen, entries_past}
use Rattle.shape_base.proofs.Lemmas.{Decides-same_text, text_cmp, exact}
use Rattle.shape_json.specs.Plain.{rise_by_name, is_plain, ArePlain}
use Rattle.shape_json.specs.Laws.{LogIsPlain, TakenIsPlain}

-- ---- the cells of a row, in byte order of their names

-- each of the places has a name past this one
abbrev AreAfter : TableDef → List ℕ → List ℕ → Type 0
AreAfter d name ps = AllByRecursion (λ n. text_cmp name n ≡ Less) (map (name_at d) ps)

abbrev RiseByName : TableDef → List ℕ → Type 0
RiseByName d [] = Unit {0}
RiseByName d (p ∷ ps) = AreAfter d (name_at d p) ps × RiseByName d ps

-- no place has this name
abbrev PlacesLack : TableDef → List ℕ → List ℕ → Type 0
PlacesLack d name ps = AllByRecursion (λ n. same_text name n ≡ false) (map (name_at d) ps)

abbrev HaveNames : TableDef → List ℕ → Type 0
HaveNames d ps = IsDistinct same_text (map (name_at d) ps)

turned : (a b : List ℕ) (o : Ordering) → text_cmp a b ≡ o → is_lt o ≡ false → same_text a b ≡ false → text_cmp b a ≡ Less
turned a b Less e lt apart = cc
turned a b Equal e lt apart = let same : same_text a b ≡ true = (Decides-same_text a b).1 (exact a b e) in cc
turned a b Greater e lt apart = nat_list_cmp_total.antisymm b a ∙ ap ordering_reverse e

less_of : (o : Ordering) → is_lt o ≡ true → o ≡ Less
less_of Less h = refl
less_of Equal h = cc
less_of Greater h = cc

after_trans : (d : TableDef) (a b : List ℕ) (ps : List ℕ) → text_cmp a b ≡ Less → AreAfter d b ps → AreAfter d a ps
after_trans d a b [] h k = tt
after_trans d a b (p ∷ ps) h k = (nat_list_cmp_total.trans a b (name_at d p) h k.0, after_trans d a b ps h k.1)

after_put_if : (d : TableDef) (name : List ℕ) (p q : ℕ) (qs rest : List ℕ) (b : Bool) → text_cmp name (name_at d p) ≡ Less → AreAfter d name (q ∷ qs) → AreAfter d name rest → AreAfter d name (if b then p ∷ q ∷ qs else q ∷ rest)
after_put_if d name p q qs rest true h k m = (h, k)
after_put_if d name p q qs rest false h k m = (k.0, m)

after_put : (d : TableDef) (name : List ℕ) (p : ℕ) (ps : List ℕ) → text_cmp name (name_at d p) ≡ Less → AreAfter d name ps → AreAfter d name (put_place d p ps)
after_put d name p [] h k = (h, tt)
after_put d name p (q ∷ qs) h k = after_put_if d name p q qs (put_place d p qs) (is_lt (text_cmp (name_at d p) (name_at d q))) h k (after_put d name p qs h k.1)

rise_put_if : (d : TableDef) (p q : ℕ) (qs rest : List ℕ) (b : Bool) → is_lt (text_cmp (name_at d p) (name_at d q)) ≡ b → same_text (name_at d p) (name_at d q) ≡ false → RiseByName d (q ∷ qs)
    → (text_cmp (name_at d q) (name_at d p) ≡ Less → AreAfter d (name_at d q) rest) → RiseByName d rest → RiseByName d (if b then p ∷ q ∷ qs else q ∷ rest)
rise_put_if d p q qs rest true e apart h after rises = let less = less_of _ e in ((less, after_trans d (name_at d p) (name_at d q) qs less h.0), h)
rise_put_if d p q qs rest false e apart h after rises = (after (turned (name_at d p) (name_at d q) _ refl e apart), rises)

rise_put : (d : TableDef) (p : ℕ) (ps : List ℕ) → PlacesLack d (name_at d p) ps → RiseByName d ps → RiseByName d (put_place d p ps)
rise_put d p [] h k = (tt, tt)
rise_put d p (q ∷ qs) h k = rise_put_if d p q qs (put_place d p qs) (is_lt (text_cmp (name_at d p) (name_at d q))) refl h.0 k (λ less. after_put d (name_at d q) p qs less k.0) (rise_put d p qs h.1 k.1)

lack_put_if : (d : TableDef) (name : List ℕ) (p q : ℕ) (qs rest : List ℕ) (b : Bool) → same_text name (name_at d p) ≡ false → PlacesLack d name (q ∷ qs) → PlacesLack d name rest → PlacesLack d name (if b then p ∷ q ∷ qs else q ∷ rest)
lack_put_if d name p q qs rest true h k m = (h, k)
lack_put_if d name p q qs rest false h k m = (k.0, m)

lack_put : (d : TableDef) (name : List ℕ) (p : ℕ) (ps : List ℕ) → same_text name (name_at d p) ≡ false → PlacesLack d name ps → PlacesLack d name (put_place d p ps)
lack_put d name p [] h k = (h, tt)
lack_put d name p (q ∷ qs) h k = lack_put_if d name p q qs (put_place d p qs) (is_lt (text_cmp (name_at d p) (name_at d q))) h k (lack_put d name p qs h k.1)

lack_by_name : (d : TableDef) (name : List ℕ) (ps : List ℕ) → PlacesLack d name ps → PlacesLack d name (by_name d ps)
lack_by_name d name [] h = tt
lack_by_name d name (p ∷ ps) h = lack_put d name p (by_name d ps) h.0 (lack_by_name d name ps h.1)

rise_names : (d : TableDef) (ps : List ℕ) → HaveNames d ps → RiseByName d (by_name d ps)
unfolding IsDistinct
rise_names d [] h = tt
rise_names d (p ∷ ps) h = rise_put d p (by_name d ps) (lack_by_name d (name_at d p) ps h.0) (rise_names d ps h.1)

-- ---- cells whose names rise

-- each of the cells has a name past this one
abbrev ArePast : List ℕ → List Cell → Type 0
ArePast name cs = AllByRecursion (λ (c : Cell). slice_cmp nat_cmp name c.name ≡ Less) cs

abbrev AreInOrder : List Cell → Type 0
AreInOrder [] = Unit {0}
AreInOrder (c ∷ cs) = ArePast c.name cs × AreInOrder cs

past_cells : (d : TableDef) (r : Values) (name : List ℕ) (ps : List ℕ) → AreAfter d name ps → ArePast name (map (cell_at d r) ps)
past_cells d r name [] h = tt
past_cells d r name (p ∷ ps) h = (h.0, past_cells d r name ps h.1)

order_cells : (d : TableDef) (r : Values) (ps : List ℕ) → RiseByName d ps → AreInOrder (map (cell_at d r) ps)
order_cells d r [] h = tt
order_cells d r (p ∷ ps) h = (past_cells d r (name_at d p) ps h.0, order_cells d r ps h.1)

past_if : (b : Bool) (name : List ℕ) (n : Cell) (rest : List Cell) → slice_cmp nat_cmp name n.name ≡ Less → ArePast name rest → ArePast name (if b then rest else n ∷ rest)
past_if true name n rest h k = k
past_if false name n rest h k = (h, k)

past_differing : (name : List ℕ) (os ns : List Cell) → ArePast name ns → ArePast name (differing os ns)
past_differing name [] ns h = tt
past_differing name (o ∷ os) [] h = tt
past_differing name (o ∷ os) (n ∷ ns) h = past_if (same_cell o n) name n (differing os ns) h.0 (past_differing name os ns h.1)

order_if : (b : Bool) (n : Cell) (rest : List Cell) → ArePast n.name rest → AreInOrder rest → AreInOrder (if b then rest else n ∷ rest)
order_if true n rest h k = k
order_if false n rest h k = (h, k)

order_differing : (os ns : List Cell) → AreInOrder ns → AreInOrder (differing os ns)
order_differing [] ns h = tt
order_differing (o ∷ os) [] h = tt
order_differing (o ∷ os) (n ∷ ns) h = order_if (same_cell o n) n (differing os ns) (past_differing n.name os ns h.0) (order_differing os ns h.1)

-- the test of the definitions says the same
rises_in_order : (cs : List Cell) → AreInOrder cs → rise_by_name cs ≡ true
rises_in_order [] h = refl
rises_in_order (c ∷ []) h = refl
rises_in_order (c ∷ d ∷ cs) h = and_from (is_lt (slice_cmp nat_cmp c.name d.name)) _ (ap is_lt h.0.0) (rises_in_order (d ∷ cs) h.1)

abbrev Ordered : Option Keyed → Type 0
Ordered o = IfSome o (λ k. AreInOrder k.1)

order_row : (s : Knows) (row : Values) → IsTest s → AreInOrder (cells_of s row)
order_row s row test = order_cells s.definition row (by_name s.definition s.selected) (rise_names s.definition s.selected test.names)

order_if_picked : (s : Knows) (row : Values) (b : Bool) → IsTest s → Ordered (if b then Some (keyed s row) else None)
order_if_picked s row true test = order_row s row test
order_if_picked s row false test = tt

order_pick : (s : Knows) (o : Option Values) → IsTest s → Ordered (pick s o)
order_pick s None test = tt
order_pick s (Some row) test = order_if_picked s row (picks s row) test

-- ---- lists of plain entries

pub plain_both : (es fs : List Entry) → ArePlain es → ArePlain fs → ArePlain (es ++ fs)
plain_both [] fs h k = k
plain_both (e ∷ es) fs h k = let p = and_parts (is_plain e) (list_all is_plain es) h in and_from (is_plain e) _ p.0 (plain_both es fs p.1 k)

pub plain_front : (es fs : List Entry) → ArePlain (es ++ fs) → ArePlain es
plain_front [] fs h = refl
plain_front (e ∷ es) fs h = let p = and_parts (is_plain e) (list_all is_plain (es ++ fs)) h in and_from (is_plain e) _ p.0 (plain_front es fs p.1)

pub plain_back : (es fs : List Entry) → ArePlain (es ++ fs) → ArePlain fs
plain_back [] fs h = h
plain_back (e ∷ es) fs h = plain_back es fs (and_parts (is_plain e) (list_all is_plain (es ++ fs)) h).1

-- an insert or an update, behind plain entries
plain_cells : (cs : List Cell) (b : Bool) → AreInOrder cs → b ≡ true → (rise_by_name cs && true) && b ≡ true
plain_cells cs b h rest = and_from (rise_by_name cs && true) b (and_from (rise_by_name cs) true (rises_in_order cs h) refl) rest

plain_update : (lsn pos : ℕ) (key : List ℕ) (cs : List Cell) → AreInOrder cs → ArePlain (update_at lsn pos key cs)
plain_update lsn pos key [] h = refl
plain_update lsn pos key (c ∷ cs) h = plain_cells (c ∷ cs) true h refl

plain_pair : (lsn j : ℕ) (o n : Keyed) (b : Bool) → same_text o.0 n.0 ≡ b → AreInOrder n.1 → ArePlain (entries_of lsn j (Some o) (Some n))
plain_pair lsn j o n true e h = rw e (plain_update lsn (2 * j) n.0 (differing o.1 n.1) (order_differing o.1 n.1 h))
plain_pair lsn j o n false e h = rw e (plain_cells n.1 true h refl)

plain_entries : (lsn j : ℕ) (o n : Option Keyed) → Ordered n → ArePlain (entries_of lsn j o n)
plain_entries lsn j None None h = refl
plain_entries lsn j None (Some n) h = plain_cells n.1 true h refl
plain_entries lsn j (Some o) None h = refl
plain_entries lsn j (Some o) (Some n) h = plain_pair lsn j o n (same_text o.0 n.0) refl h

plain_commit : (s : Knows) (lsn : ℕ) (cs : List Own) → IsTest s → ArePlain (flat_map (emit s lsn) cs)
plain_commit s lsn [] test = refl
plain_commit s lsn (c ∷ cs) test = plain_both (emit s lsn c) _ (plain_entries lsn c.number (pick s (old_of c.kind)) (pick s (new_of c.kind)) (order_pick s (new_of c.kind) test)) (plain_commit s lsn cs test)

plain_if : (b : Bool) (es : List Entry) → ArePlain es → ArePlain (if b then [] else es)
plain_if true es h = refl
plain_if false es h = h

-- ---- logs

plain_later : (s : Knows) (ss : List Step) → IsTest s → ArePlain (later s ss)
plain_later s [] test = refl
plain_later s (Commit tx ∷ ss) test =
    plain_if (list_any (stops s) (changes_of s.definition.table tx)) _ (plain_both (flat_map (emit s tx.lsn) (changes_of s.definition.table tx)) (later s ss) (plain_commit s tx.lsn (changes_of s.definition.table tx) test) (plain_later s ss test))
plain_later s (Define d rows ∷ ss) test = plain_later s ss test

plain_past : (s : Knows) (txs : List Tx) → IsTest s → ArePlain (entries_past s txs)
plain_past s [] test = refl
plain_past s (tx ∷ txs) test =
    plain_if (list_any (stops s) (changes_of s.definition.table tx)) _ (plain_both (flat_map (emit s tx.lsn) (changes_of s.definition.table tx)) (entries_past s txs) (plain_commit s tx.lsn (changes_of s.definition.table tx) test) (plain_past s txs test))

plain_start : (s : Knows) (i : ℕ) (rows : List Values) → IsTest s → ArePlain (start_from i (map (keyed s) rows))
plain_start s i [] test = refl
plain_start s i (row ∷ rows) test = plain_cells (cells_of s row) _ (order_row s row test) (plain_start s (i + 1) rows test)

pub log_is_plain : LogIsPlain
log_is_plain h s snapshot k n test =
    plain_both (start_from 1 (shown s snapshot)) (later s (drop k (take (step_of h.steps n) h.steps))) (plain_start s 1 (filter (picks s) snapshot) test) (plain_later s (drop k (take (step_of h.steps n) h.steps)) test)

pub taken_is_plain : TakenIsPlain
taken_is_plain s v snapshot txs test =
    plain_both (start_from 1 (shown s snapshot)) (entries_past s (unseen v txs)) (plain_start s 1 (filter (picks s) snapshot) test) (plain_past s (unseen v txs) test)
