-- The program's map beside the one of the definitions.
use Rattle.std.proofs.Common.{◌≡◌, ℕ, true, cond, List, [], ◌∷◌, refl, sym, ◌∙◌, ap, subst, None, Some}
use Rattle.std.specs.Map.{lookup, keys_of}
use Rattle.std.specs.Ordering.{eq_by_cmp}
use Rattle.std.specs.Cmp.{eq_by_cmp_equiv}
use Rattle.std.specs.Cmp.Lexicographic.{nat_list_cmp_total}
use Rattle.std.specs.BTreeMap as tree
use Rattle.std.specs.BTreeMap.{BTreeMap, is_at, IsOrdered}
use Rattle.std.specs.FinMap as fin
use Rattle.std.specs.FinMap.{find, get-from_entries, get-insert, get-remove, same_map, get-from_sorted, entries-from_sorted}
use Rattle.std.specs.FinMap.Entries.{below_all, is_sorted}
use Rattle.std.specs.List.{AllByRecursion}
use Rattle.std.specs.List.Sorted.{IsStrictlySortedBy}
use Rattle.std.specs.Prelude.{T}
use Rattle.std.specs.declared.cmp.Ordering.TheVariants.{Less}
use Rattle.shape_base.specs.declared.entry.Cell.{Cell}
use Rattle.shape_base.specs.Shape.{Keyed}
use Rattle.shape_base.specs.Maps.{map_in}
use Rattle.shape_base.proofs.MapLaws.{text_cmp, exact}

abbrev pub Texts : Type 0
Texts = BTreeMap (List ℕ) (List Cell)

find_at : (es : List Keyed) (q : List ℕ) → find text_cmp q es ≡ lookup (is_at (text_cmp q)) es
find_at [] q = refl
find_at (e ∷ es) q = ap (cond (is_at (text_cmp q) e.0) (Some e.1)) (find_at es q)

pub get_in : (m : Texts) (q : List ℕ) → fin.get (map_in m) q ≡ tree.get text_cmp m q
get_in m q = get-from_entries nat_list_cmp_total m.entries q ∙ find_at m.entries q

turn : (k q : List ℕ) → is_at (text_cmp k) q ≡ eq_by_cmp text_cmp q k
turn k q = (eq_by_cmp_equiv nat_list_cmp_total).symm k q

pub insert_in : (m n : Texts) (k : List ℕ) (v : List Cell) → ((q : List ℕ) → tree.get text_cmp n q ≡ cond (is_at (text_cmp k) q) (Some v) (tree.get text_cmp m q)) → map_in n ≡ fin.insert (map_in m) k v
insert_in m n k v h = same_map nat_list_cmp_total exact _ _ (λ q. get_in n q ∙ h q ∙ ap (λ b. cond b (Some v) (tree.get text_cmp m q)) (turn k q) ∙ ap (cond (eq_by_cmp text_cmp q k) (Some v)) (sym (get_in m q)) ∙ sym (get-insert nat_list_cmp_total (map_in m) k v q))

pub remove_in : (m n : Texts) (k : List ℕ) → ((q : List ℕ) → tree.get text_cmp n q ≡ cond (is_at (text_cmp k) q) None (tree.get text_cmp m q)) → map_in n ≡ fin.remove (map_in m) k
remove_in m n k h = same_map nat_list_cmp_total exact _ _ (λ q. get_in n q ∙ h q ∙ ap (λ b. cond b None (tree.get text_cmp m q)) (turn k q) ∙ ap (cond (eq_by_cmp text_cmp q k) None) (sym (get_in m q)) ∙ sym (get-remove nat_list_cmp_total (map_in m) k q))

below_all_of : (k : List ℕ) (es : List Keyed) → AllByRecursion (λ y. text_cmp k y ≡ Less) (keys_of es) → below_all text_cmp k es ≡ true
below_all_of k [] h = refl
below_all_of k (e ∷ es) h = rw h.0 (below_all_of k es h.1)

sorted_of : (es : List Keyed) → IsStrictlySortedBy text_cmp (keys_of es) → is_sorted text_cmp es ≡ true
unfolding IsStrictlySortedBy
sorted_of [] h = refl
sorted_of (e ∷ es) h = rw (below_all_of e.0 es h.0) (sorted_of es h.1)

-- the entries of a map of the program are those of the map of the definitions
pub entries_in : (m : Texts) → IsOrdered text_cmp m → fin.entries (map_in m) ≡ m.entries
entries_in m h =
    let sorted : T (is_sorted text_cmp m.entries) = subst T (sym (sorted_of m.entries h)) tt in
    let same : map_in m ≡ fin.from_sorted m.entries = same_map nat_list_cmp_total exact _ _ (λ q. get-from_entries nat_list_cmp_total m.entries q ∙ sym (get-from_sorted text_cmp m.entries q sorted)) in
    ap fin.entries same ∙ entries-from_sorted text_cmp m.entries sorted
