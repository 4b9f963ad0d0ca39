-- The log and the keys of one row more.
use Rattle.std.proofs.Common.{◌≡◌, ℕ, suc, ◌+◌, Bool, true, false, cond, ◌||◌, List, [], ◌∷◌, ◌++◌, length, map, filter, refl, sym, ◌∙◌, ap, subst, arith}
use Rattle.std.specs.Bool.{if◌then◌else◌}
use Rattle.std.specs.List.{list_any, sum}
use Rattle.std.specs.BTreeSet as sorted
use Rattle.std.specs.BTreeSet.{BTreeSet}
use Rattle.std.specs.BTreeMap.{is_at}
use Rattle.std.specs.Cmp.{eq_by_cmp_equiv}
use Rattle.std.specs.Cmp.Lexicographic.{nat_list_cmp_total}
use Rattle.std.proofs.lemmas.List.{append-nil, map-append}
use Rattle.std.proofs.lemmas.List.Elements.{filter-append}
use Rattle.std.proofs.lemmas.List.Folds.{list_any-append}
use Rattle.std.proofs.lemmas.List.Sums.{sum_by_push}
use Rattle.shape_base.specs.declared.entry.Entry.{Entry}
use Rattle.shape_base.specs.Tables.{Values, Table, same_text}
use Rattle.shape_base.specs.Shape.{Knows, Keyed, key_text, keyed, picks, shown, insert_at}
use Rattle.shape_base.specs.Log.{start_from}
use Rattle.shape_base.proofs.Lemmas.{text_cmp, tied, same_from_tied, tied_self, Decides-same_text}
use Rattle.shape_json.specs.Body.{entry_text}
use Rattle.shape_json.specs.Page.{sizes_of}
use Rattle.shape_json.specs.ShapeHistory.{bytes_of}
use Rattle.shape_snapshot.specs.Refusals.{is_taken_key, log_of}

-- ---- rows

pub shown_more : (s : Knows) (rows : Table) (row : Values) → shown s (rows ++ row ∷ []) ≡ shown s rows ++ shown s (row ∷ [])
shown_more s rows row = ap (map (keyed s)) (filter-append (picks s) rows (row ∷ [])) ∙ map-append (keyed s) (filter (picks s) rows) (filter (picks s) (row ∷ []))

-- a row that is not selected shows nothing
pub shown_same : (s : Knows) (rows : Table) (row : Values) → picks s row ≡ false → shown s (rows ++ row ∷ []) ≡ shown s rows
shown_same s rows row passed = shown_more s rows row ∙ ap (λ (b : Bool). shown s rows ++ map (keyed s) (if b then row ∷ [] else [])) passed ∙ append-nil (shown s rows)

pub shown_one : (s : Knows) (rows : Table) (row : Values) → picks s row ≡ true → shown s (rows ++ row ∷ []) ≡ shown s rows ++ keyed s row ∷ []
shown_one s rows row picked = shown_more s rows row ∙ ap (λ (b : Bool). shown s rows ++ map (keyed s) (if b then row ∷ [] else [])) picked

-- ---- entries

start_more : (i : ℕ) (ks ls : List Keyed) → start_from i (ks ++ ls) ≡ start_from i ks ++ start_from (i + length ks) ls
start_more i [] ls = ap (λ (n : ℕ). start_from n ls) (omega arith)
start_more i (k ∷ ks) ls = ap (λ (es : List Entry). insert_at 0 i k ∷ es) (start_more (i + 1) ks ls ∙ ap (λ (n : ℕ). start_from (i + 1) ks ++ start_from n ls) (omega arith))

length_start : (i : ℕ) (ks : List Keyed) → length (start_from i ks) ≡ length ks
length_start i [] = refl
length_start i (k ∷ ks) = ap suc (length_start (i + 1) ks)

-- the log with one selected row more
pub log_more : (s : Knows) (rows : Table) (row : Values) (pos : ℕ) → picks s row ≡ true → pos ≡ length (log_of s rows) + 1 → log_of s (rows ++ row ∷ []) ≡ log_of s rows ++ insert_at 0 pos (keyed s row) ∷ []
log_more s rows row pos picked is =
    ap (start_from 1) (shown_one s rows row picked) ∙ start_more 1 (shown s rows) (keyed s row ∷ [])
    ∙ ap (λ (n : ℕ). log_of s rows ++ insert_at 0 n (keyed s row) ∷ []) (omega (arith, length_start 1 (shown s rows), is))

pub bytes_more : (es : List Entry) (e : Entry) → bytes_of (es ++ e ∷ []) ≡ bytes_of es + length (entry_text e)
bytes_more es e = ap sum (map-append (λ (x : Entry). length (entry_text x)) es (e ∷ [])) ∙ sum_by_push (λ (n : ℕ). n) (sizes_of es) (length (entry_text e))

-- ---- keys

-- whether the set has the key
abbrev pub has : BTreeSet (List ℕ) → List ℕ → Bool
has m q = sorted.contains text_cmp m q

same_tests : (x q : List ℕ) (a b : Bool) → same_text q x ≡ a → tied q x ≡ b → a ≡ b
same_tests x q true true e f = refl
same_tests x q false false e f = refl
same_tests x q true false e f = let same : q ≡ x = (Decides-same_text q x).0 e in let t : tied q x ≡ true = subst (λ y. tied q y ≡ true) same (tied_self q) in cc
same_tests x q false true e f = let t : same_text q x ≡ true = (Decides-same_text q x).1 (same_from_tied q x f) in cc

is_it : (x q : List ℕ) → is_at (text_cmp x) q ≡ same_text q x
is_it x q = (eq_by_cmp_equiv nat_list_cmp_total).symm x q ∙ sym (same_tests x q (same_text q x) (tied q x) refl refl)

has_after : (b o : Bool) → cond b true o ≡ (b || o)
has_after true o = refl
has_after false o = refl

-- after one key more the set has that one and those before
pub has_more : (m n : BTreeSet (List ℕ)) (k x : List ℕ) → k ≡ x → ((q : List ℕ) → has n q ≡ cond (is_at (text_cmp k) q) true (has m q)) → (q : List ℕ) → has n q ≡ (same_text q x || has m q)
has_more m n k x is h q = h q ∙ has_after (is_at (text_cmp k) q) (has m q) ∙ ap (λ (b : Bool). b || has m q) (is_it k q ∙ ap (same_text q) is)

or_swap : (a b : Bool) → (a || (b || false)) ≡ (b || a)
or_swap true true = refl
or_swap true false = refl
or_swap false true = refl
or_swap false false = refl

-- the keys of one selected row more
pub keys_more : (s : Knows) (rows : Table) (row : Values) (q : List ℕ) → picks s row ≡ true → is_taken_key s (rows ++ row ∷ []) q ≡ (same_text q (key_text s row) || is_taken_key s rows q)
keys_more s rows row q picked =
    ap (list_any (λ (k : Keyed). same_text q k.0)) (shown_one s rows row picked) ∙ list_any-append (λ (k : Keyed). same_text q k.0) (shown s rows) (keyed s row ∷ [])
    ∙ or_swap (is_taken_key s rows q) (same_text q (key_text s row))
