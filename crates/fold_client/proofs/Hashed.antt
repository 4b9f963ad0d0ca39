-- The rows of a hash map beside the map of the definitions.
use Rattle.std.proofs.Common.{◌≡◌, ℕ, Bool, true, false, cond, List, [], ◌∷◌, refl, sym, ◌∙◌, ap, subst, Option, None, Some, string_bytes}
use Rattle.std.specs.Option.{option_or}
use Rattle.std.specs.List.{AllByRecursion, IsDistinct}
use Rattle.std.specs.Map.{lookup, keys_of}
use Rattle.std.specs.Str.{bytes_eq}
use Rattle.std.specs.String.{string_eq}
use Rattle.std.specs.Prelude.{String}
use Rattle.std.specs.HashMap as hash
use Rattle.std.specs.HashMap.{HashMap}
use Rattle.std.specs.FinMap as fin
use Rattle.std.specs.FinMap.{find, get-empty, get-from_entries, get-insert, get-remove, same_map}
use Rattle.std.specs.Cmp.{eq_by_cmp_equiv}
use Rattle.std.specs.Cmp.Lexicographic.{nat_list_cmp_total}
use Rattle.std.proofs.lemmas.Map.Text.{is_eq-slice_cmp, hash_map_updates_text}
use Rattle.shape_base.specs.declared.entry.Cell.{Cell}
use Rattle.shape_base.specs.Shape.{Map}
use Rattle.shape_base.proofs.Lemmas.{text_cmp, exact, tied, same_from_tied}
use Rattle.fold_client.specs.Hashed.{texts_of, rows_in}

find_text : {Y : Type 0} (es : List (String Y × List Cell)) (q : List ℕ) → find text_cmp q (texts_of es) ≡ lookup (λ k. bytes_eq q (string_bytes k)) es
find_text [] q = refl
find_text (e ∷ es) q = ap (λ b. cond b (Some e.1) (find text_cmp q (texts_of es))) (is_eq-slice_cmp q (string_bytes e.0)) ∙ ap (cond (bytes_eq q (string_bytes e.0)) (Some e.1)) (find_text es q)

pub get_hashed : {Y S : Type 0} (m : HashMap (String Y) (List Cell) S) (q : List ℕ) → fin.get (rows_in m) q ≡ hash.get_by_text m q
get_hashed m q = get-from_entries nat_list_cmp_total (texts_of m.entries) q ∙ find_text m.entries q

turned : (k q : List ℕ) → bytes_eq k q ≡ tied q k
turned k q = sym (is_eq-slice_cmp k q) ∙ (eq_by_cmp_equiv nat_list_cmp_total).symm k q

-- a key has other cells, or none
update_in : {Y S : Type 0} (m n : HashMap (String Y) (List Cell) S) (k : List ℕ) (w : Option (List Cell)) → hash.UpdatesBy string_eq (λ x. bytes_eq k (string_bytes x)) m n w → (q : List ℕ) → fin.get (rows_in n) q ≡ cond (tied q k) w (fin.get (rows_in m) q)
update_in m n k w h q = get_hashed n q ∙ hash_map_updates_text k m n w h q ∙ ap (λ b. cond b w (hash.get_by_text m q)) (turned k q) ∙ ap (cond (tied q k) w) (sym (get_hashed m q))

pub insert_hashed : {Y S : Type 0} (m n : HashMap (String Y) (List Cell) S) (k : List ℕ) (v : List Cell) → hash.UpdatesBy string_eq (λ x. bytes_eq k (string_bytes x)) m n (Some v) → rows_in n ≡ fin.insert (rows_in m) k v
insert_hashed m n k v h = same_map nat_list_cmp_total exact _ _ (λ q. update_in m n k (Some v) h q ∙ sym (get-insert nat_list_cmp_total (rows_in m) k v q))

pub remove_hashed : {Y S : Type 0} (m n : HashMap (String Y) (List Cell) S) (k : List ℕ) → hash.UpdatesBy string_eq (λ x. bytes_eq k (string_bytes x)) m n None → rows_in n ≡ fin.remove (rows_in m) k
remove_hashed m n k h = same_map nat_list_cmp_total exact _ _ (λ q. update_in m n k None h q ∙ sym (get-remove nat_list_cmp_total (rows_in m) k q))

-- ---- in order

-- what is left to put in stands before what is in
pub record Joins {Y : Type 0} (all : Map) (left : List (String Y × List Cell)) (now : Map) : Type 0 where
  pub distinct : IsDistinct string_eq (keys_of left)
  pub finds : (q : List ℕ) → option_or (find text_cmp q (texts_of left)) (fin.get now q) ≡ fin.get all q

or_none : {A : Type 0} (o : Option A) → option_or o None ≡ o
or_none None = refl
or_none (Some x) = refl

pub joins_start : {Y S : Type 0} (m : HashMap (String Y) (List Cell) S) (now : Map) → hash.IsUnique string_eq m → now ≡ fin.empty → Joins (rows_in m) m.entries now
joins_start m now u is = record {
  distinct = u;
  finds = λ q. ap (λ (n : Map). option_or (find text_cmp q (texts_of m.entries)) (fin.get n q)) is ∙ ap (option_or (find text_cmp q (texts_of m.entries))) (get-empty text_cmp q) ∙ or_none _ ∙ sym (get-from_entries nat_list_cmp_total (texts_of m.entries) q);
}

-- a key is not among others
find_apart : {Y : Type 0} (k : String Y) (es : List (String Y × List Cell)) → AllByRecursion (λ y. string_eq k y ≡ false) (keys_of es) → find text_cmp (string_bytes k) (texts_of es) ≡ None
find_apart k [] h = refl
find_apart k (e ∷ es) h = ap (λ b. cond b (Some e.1) (find text_cmp (string_bytes k) (texts_of es))) (is_eq-slice_cmp (string_bytes k) (string_bytes e.0) ∙ h.0) ∙ find_apart k es h.1

moved : {A : Type 0} (b : Bool) (v : A) (found before : Option A) → (b ≡ true → found ≡ None) → option_or found (cond b (Some v) before) ≡ option_or (cond b (Some v) found) before
moved true v found before h = ap (λ o. option_or o (Some v)) (h refl)
moved false v found before h = refl

pub joins_more : {Y : Type 0} (all : Map) (left next : List (String Y × List Cell)) (now new : Map) (e : String Y × List Cell) → left ≡ e ∷ next → new ≡ fin.insert now (string_bytes e.0) e.1 → Joins all left now → Joins all next new
unfolding IsDistinct
joins_more all left next now new e is put j =
    let d : IsDistinct string_eq (keys_of (e ∷ next)) = subst (λ xs. IsDistinct string_eq (keys_of xs)) is j.distinct in
    record {
      distinct = d.1;
      finds = λ q. ap (λ (n : Map). option_or (find text_cmp q (texts_of next)) (fin.get n q)) put
          ∙ ap (option_or (find text_cmp q (texts_of next))) (get-insert nat_list_cmp_total now (string_bytes e.0) e.1 q)
          ∙ moved (tied q (string_bytes e.0)) e.1 (find text_cmp q (texts_of next)) (fin.get now q) (λ h. ap (λ (x : List ℕ). find text_cmp x (texts_of next)) (same_from_tied q (string_bytes e.0) h) ∙ find_apart e.0 next d.0)
          ∙ ap (λ xs. option_or (find text_cmp q (texts_of xs)) (fin.get now q)) (sym is) ∙ j.finds q;
    }

pub joins_all : {Y : Type 0} (all : Map) (left : List (String Y × List Cell)) (now : Map) → left ≡ [] → Joins all left now → now ≡ all
joins_all all left now is j = same_map nat_list_cmp_total exact _ _ (λ q. ap (λ xs. option_or (find text_cmp q (texts_of xs)) (fin.get now q)) (sym is) ∙ j.finds q)
