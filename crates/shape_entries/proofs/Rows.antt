-- The rows of a snapshot, one by one.
use Rattle.std.proofs.Common.{◌≡◌, ℕ, suc, ◌+◌, ◌*◌, Bool, true, false, cond, not, ◌&&◌, ◌||◌, ◌==◌, List, [], ◌∷◌, ◌++◌, length, map, filter, refl, sym, ◌∙◌, ap, subst, arith, append_assoc, Option, None, Some, is_none, IfSome}
use Rattle.std.specs.Bool.{if◌then◌else◌}
use Rattle.std.specs.List.{list_all}
use Rattle.std.specs.Option.{option_to_list}
use Rattle.std.specs.BTreeSet as sorted
use Rattle.std.specs.BTreeSet.{BTreeSet}
use Rattle.std.specs.BTreeMap.{is_at}
use Rattle.std.specs.Cmp.{eq_by_cmp_equiv}
use Rattle.std.specs.Cmp.Lexicographic.{nat_list_cmp_total}
use Rattle.std.proofs.lemmas.List.{append-nil, length-append}
use Rattle.std.proofs.lemmas.Bool.{eqb-true, and_parts}
use Rattle.shape_base.specs.declared.offset.Offset.TheVariants.{At}
use Rattle.shape_base.specs.declared.entry.Entry.{Entry}
use Rattle.shape_base.specs.declared.change.ChangeKind.TheVariants.{Insert}
use Rattle.shape_base.specs.Tables.{Values, Table, same_text, lacks_key}
use Rattle.shape_base.specs.Shape.{Knows, Keyed, key_text, keyed, picks, shown, insert_at, emit, entries_of}
use Rattle.shape_base.specs.Log.{start_from}
use Rattle.shape_base.proofs.Lemmas.{text_cmp, tied, same_from_tied, tied_self, Decides-same_text}
use Rattle.change_map.specs.declared.emitting.Emitted.{Emitted}
use Rattle.change_map.specs.Emitting.{in_order, own}
use Rattle.shape_entries.specs.Start.{is_good_row, are_new, are_good_after}

-- ---- which keys were seen

-- whether the set has the key
abbrev pub has : BTreeSet (List ℕ) → List ℕ → Bool
has m q = sorted.contains text_cmp m q

new_same_if : (b c : Bool) (f g : List ℕ → Bool) (xs : List (List ℕ)) → b ≡ c → are_new f xs ≡ are_new g xs → (if b then false else are_new f xs) ≡ (if c then false else are_new g xs)
new_same_if true true f g xs e h = refl
new_same_if true false f g xs e h = cc
new_same_if false true f g xs e h = cc
new_same_if false false f g xs e h = h

-- only which texts were seen plays a part
new_same : (xs : List (List ℕ)) (f g : List ℕ → Bool) → ((q : List ℕ) → f q ≡ g q) → are_new f xs ≡ are_new g xs
new_same [] f g h = refl
new_same (x ∷ xs) f g h = new_same_if (f x) (g x) (λ q. same_text q x || f q) (λ q. same_text q x || g q) xs (h x) (new_same xs (λ q. same_text q x || f q) (λ q. same_text q x || g q) (λ q. ap (λ b. same_text q x || b) (h q)))

same_tests : (x q : List ℕ) (a b : Bool) → same_text q x ≡ a → tied q x ≡ b → a ≡ b
same_tests x q true true e f = refl
same_tests x q false false e f = refl
same_tests x q true false e f = let same : q ≡ x = (Decides-same_text q x).0 e in let t : tied q x ≡ true = subst (λ y. tied q y ≡ true) same (tied_self q) in cc
same_tests x q false true e f = let t : same_text q x ≡ true = (Decides-same_text q x).1 (same_from_tied q x f) in cc

is_it : (x q : List ℕ) → is_at (text_cmp x) q ≡ same_text q x
is_it x q = (eq_by_cmp_equiv nat_list_cmp_total).symm x q ∙ sym (same_tests x q (same_text q x) (tied q x) refl refl)

has_after : (b o : Bool) → cond b true o ≡ (b || o)
has_after true o = refl
has_after false o = refl

-- after one key more the set has that one and those before
pub has_more : (m n : BTreeSet (List ℕ)) (k x : List ℕ) → ((q : List ℕ) → has n q ≡ cond (is_at (text_cmp k) q) true (has m q)) → k ≡ x → (q : List ℕ) → (same_text q x || has m q) ≡ has n q
has_more m n k x h e q = sym (h q ∙ has_after (is_at (text_cmp k) q) (has m q) ∙ ap (λ b. b || has m q) (is_it k q ∙ ap (same_text q) e))

pub new_start : (xs : List (List ℕ)) (m : BTreeSet (List ℕ)) → ((q : List ℕ) → has m q ≡ false) → are_new (has m) xs ≡ are_new (λ q. false) xs
new_start xs m h = new_same xs (has m) (λ q. false) h

-- ---- good rows

good_step : (b : Bool) (rest : Bool) (f g : List ℕ → Bool) (x : List ℕ) (xs : List (List ℕ)) → f x ≡ false → ((q : List ℕ) → (same_text q x || f q) ≡ g q) → (rest && (if f x then false else are_new (λ q. same_text q x || f q) xs)) ≡ (rest && are_new g xs)
good_step b rest f g x xs h more = ap (λ (c : Bool). rest && (if c then false else are_new (λ q. same_text q x || f q) xs)) h ∙ ap (λ (c : Bool). rest && c) (new_same xs (λ q. same_text q x || f q) g more)

-- one row more was good, and its key is new
pub good_more : (s : Knows) (row : Values) (rows : Table) (f g : List ℕ → Bool) (key : List ℕ) → is_good_row s row ≡ true → key ≡ key_text s row → f key ≡ false → ((q : List ℕ) → (same_text q (key_text s row) || f q) ≡ g q)
    → are_good_after f s (row ∷ rows) ≡ are_good_after g s rows
good_more s row rows f g key good is unseen more =
    ap (λ (b : Bool). (b && list_all (is_good_row s) rows) && are_new f (map (key_text s) (row ∷ rows))) good
    ∙ good_step true (list_all (is_good_row s) rows) f g (key_text s row) (map (key_text s) rows) (ap f (sym is) ∙ unseen) more

-- the row is not good
pub not_good : (s : Knows) (row : Values) (rows : Table) (f : List ℕ → Bool) → is_good_row s row ≡ false → false ≡ are_good_after f s (row ∷ rows)
not_good s row rows f bad = sym (ap (λ (b : Bool). (b && list_all (is_good_row s) rows) && are_new f (map (key_text s) (row ∷ rows))) bad)

and_none : (b : Bool) → (b && false) ≡ false
and_none true = refl
and_none false = refl

-- its key came before
pub not_new : (s : Knows) (row : Values) (rows : Table) (f : List ℕ → Bool) (key : List ℕ) → key ≡ key_text s row → f key ≡ true → false ≡ are_good_after f s (row ∷ rows)
not_new s row rows f key is seen = sym (
    ap (λ (b : Bool). list_all (is_good_row s) (row ∷ rows) && (if b then false else are_new (λ q. same_text q (key_text s row) || f q) (map (key_text s) rows))) (ap f (sym is) ∙ seen)
    ∙ and_none (list_all (is_good_row s) (row ∷ rows)))

-- ---- entries

start_more : (i : ℕ) (ks ls : List Keyed) → start_from i (ks ++ ls) ≡ start_from i ks ++ start_from (i + length ks) ls
start_more i [] ls = ap (λ (n : ℕ). start_from n ls) (omega arith)
start_more i (k ∷ ks) ls = ap (λ (es : List Entry). insert_at 0 i k ∷ es) (start_more (i + 1) ks ls ∙ ap (λ (n : ℕ). start_from (i + 1) ks ++ start_from n ls) (omega arith))

shown_by : (s : Knows) (b : Bool) (row : Values) (rows : Table) → map (keyed s) (if b then row ∷ filter (picks s) rows else filter (picks s) rows) ≡ map (keyed s) (if b then row ∷ [] else []) ++ map (keyed s) (filter (picks s) rows)
shown_by s true row rows = refl
shown_by s false row rows = refl

pub shown_more : (s : Knows) (row : Values) (rows : Table) → shown s (row ∷ rows) ≡ shown s (row ∷ []) ++ shown s rows
shown_more s row rows = shown_by s (picks s row) row rows

length_start : (i : ℕ) (ks : List Keyed) → length (start_from i ks) ≡ length ks
length_start i [] = refl
length_start i (k ∷ ks) = ap suc (length_start (i + 1) ks)

-- one row more
pub entries_more : (s : Knows) (row : Values) (rows : Table) (made new all : List Entry) → new ≡ made ++ start_from (length made + 1) (shown s (row ∷ [])) → made ++ start_from (length made + 1) (shown s (row ∷ rows)) ≡ all
    → new ++ start_from (length new + 1) (shown s rows) ≡ all
entries_more s row rows made new all is h =
    let one = start_from (length made + 1) (shown s (row ∷ [])) in
    let count : length new + 1 ≡ (length made + 1) + length (shown s (row ∷ [])) = omega (arith, ap (length {A = Entry}) is, length-append made one, length_start (length made + 1) (shown s (row ∷ []))) in
    ap (λ (es : List Entry). es ++ start_from (length new + 1) (shown s rows)) is ∙ append_assoc made one (start_from (length new + 1) (shown s rows))
    ∙ ap (λ (n : ℕ). made ++ (one ++ start_from n (shown s rows))) count
    ∙ ap (λ (es : List Entry). made ++ es) (sym (start_more (length made + 1) (shown s (row ∷ [])) (shown s rows)) ∙ ap (start_from (length made + 1)) (sym (shown_more s row rows)))
    ∙ h

-- ---- the entry of one row

none_by : (s : Knows) (row : Values) (n : ℕ) (b : Bool) → ◌≡◌ {A = List Entry} [] (entries_of 0 0 None (if b then Some (keyed s row) else None)) → ◌≡◌ {A = List Entry} [] (start_from n (map (keyed s) (if b then row ∷ [] else [])))
none_by s row n true h = cc
none_by s row n false h = refl

-- a row that gives no entry is not selected
pub start_none : (s : Knows) (row : Values) (e : Emitted) (made : List Entry) → e.first ≡ None → e.second ≡ None → in_order e ≡ emit s 0 (own s 0 (Insert row)) → made ≡ made ++ start_from (length made + 1) (shown s (row ∷ []))
start_none s row e made f g h =
    let all : ◌≡◌ {A = List Entry} [] (emit s 0 (own s 0 (Insert row))) = sym (ap (λ (o : Option Entry). option_to_list o ++ option_to_list e.second) f ∙ ap (λ (o : Option Entry). option_to_list {X = Entry} None ++ option_to_list o) g) ∙ h in
    sym (append-nil made) ∙ ap (λ (es : List Entry). made ++ es) (none_by s row (length made + 1) (picks s row) all)

-- the entry in another place
abbrev placed : ℕ → Entry → Entry
placed n e = record { offset = At 0 n; op = e.op; key = e.key; cells = e.cells }

some_by : (s : Knows) (row : Values) (n : ℕ) (b : Bool) (f : Entry) (more : List Entry) → f ∷ more ≡ entries_of 0 0 None (if b then Some (keyed s row) else None) → placed n f ∷ [] ≡ start_from n (map (keyed s) (if b then row ∷ [] else []))
some_by s row n true f more h = let same : f ≡ insert_at 0 (2 * 0) (keyed s row) = cc in ap (λ (x : Entry). placed n x ∷ []) same
some_by s row n false f more h = cc

pub start_some : (s : Knows) (row : Values) (e : Emitted) (f : Entry) (made new : List Entry) (n : ℕ) → e.first ≡ Some f → in_order e ≡ emit s 0 (own s 0 (Insert row)) → n ≡ length made + 1 → new ≡ made ++ placed n f ∷ [] → new ≡ made ++ start_from (length made + 1) (shown s (row ∷ []))
start_some s row e f made new n first h count is =
    let all : f ∷ option_to_list e.second ≡ emit s 0 (own s 0 (Insert row)) = sym (ap (λ (o : Option Entry). option_to_list o ++ option_to_list e.second) first) ∙ h in
    is ∙ ap (λ (es : List Entry). made ++ es) (some_by s row n (picks s row) f (option_to_list e.second) all) ∙ ap (λ (m : ℕ). made ++ start_from m (shown s (row ∷ []))) count

-- a good row is as wide as an insert of it has to be
pub good_wide : (s : Knows) (row : Values) → is_good_row s row ≡ true → length row ≡ length s.definition.columns
good_wide s row h = eqb-true _ _ (and_parts (length row == length s.definition.columns) _ h).0

lacking_by : (a b c : Bool) → c ≡ true → false ≡ (a && not (b || c))
lacking_by false b c h = refl
lacking_by true true c h = refl
lacking_by true false c h = sym (ap not h)

-- a row with a null key value is not good
pub lacking : (s : Knows) (row : Values) → lacks_key s.key row ≡ true → false ≡ is_good_row s row
lacking s row h = lacking_by (length row == length s.definition.columns) (is_none (s.truth row)) (lacks_key s.key row) h

not_true : (b : Bool) → not b ≡ true → b ≡ false
not_true true h = cc
not_true false h = refl

-- what was added was not there
pub was_new : (added seen : Bool) → added ≡ not seen → added ≡ true → seen ≡ false
was_new added seen e h = not_true seen (sym e ∙ h)

-- the key that is there
pub key_there : (o : Option (List ℕ)) (key text : List ℕ) → o ≡ Some key → IfSome o (λ t. t ≡ text) → key ≡ text
key_there o key text is h = subst (λ (x : Option (List ℕ)). IfSome x (λ t. t ≡ text)) is h
