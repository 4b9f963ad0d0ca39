-- Texts of key values, and which texts a map of the program has as keys.
use Rattle.std.proofs.Common.{◌≡◌, ℕ, ◌+◌, ◌<◌, ◌++◌, ◌∷◌, [], Bool, true, false, cond, List, Option, Some, is_some, suc, length, map, drop, get_or, add-one, drop-cons, refl, sym, ◌∙◌, ap, subst, ◌||◌}
use Rattle.std.specs.Bool.{if◌then◌else◌}
use Rattle.std.specs.Str.{IsUtf8}
use Rattle.std.proofs.lemmas.Str.{IsUtf8-append}
use Rattle.std.proofs.Math.Utf8.{encode, encodes}
use Rattle.std.specs.BTreeMap as tree
use Rattle.std.specs.BTreeMap.{BTreeMap, is_at}
use Rattle.std.specs.Cmp.{eq_by_cmp_equiv}
use Rattle.std.specs.Cmp.Lexicographic.{nat_list_cmp_total}
use Rattle.shape_base.specs.Tables.{Values, Table, same_text}
use Rattle.shape_base.specs.Shape.{quoted}
use Rattle.shape_base.proofs.Lemmas.{text_cmp, tied, same_from_tied, tied_self, Decides-same_text, IsUtf8-quoted}
use Rattle.shape_model.specs.Checks.{are_new, values_text}

slash_is : encodes (47 ∷ []) ≡ 47 ∷ []
unfolding encode
slash_is = refl

-- the text of a value goes on UTF-8
pub value_utf8 : (old mid new words : List ℕ) → mid ≡ old ++ 47 ∷ [] → new ≡ mid ++ quoted words → IsUtf8 words → IsUtf8 old → IsUtf8 new
value_utf8 old mid new words m n whole before =
    let slash : IsUtf8 (47 ∷ []) = (47 ∷ [], (refl, slash_is)) in
    subst IsUtf8 (sym n) (IsUtf8-append mid (quoted words) (subst IsUtf8 (sym m) (IsUtf8-append old (47 ∷ []) before slash)) (IsUtf8-quoted words whole))

-- whether the map has the key
abbrev pub has : BTreeMap (List ℕ) ℕ → List ℕ → Bool
has m q = is_some (tree.get text_cmp m q)

new_same_if : (b c : Bool) (f g : List ℕ → Bool) (xs : List (List ℕ)) → b ≡ c → are_new f xs ≡ are_new g xs → (if b then false else are_new f xs) ≡ (if c then false else are_new g xs)
new_same_if true true f g xs e h = refl
new_same_if true false f g xs e h = cc
new_same_if false true f g xs e h = cc
new_same_if false false f g xs e h = h

-- only which texts were seen plays a part
pub new_same : (xs : List (List ℕ)) (f g : List ℕ → Bool) → ((q : List ℕ) → f q ≡ g q) → are_new f xs ≡ are_new g xs
new_same [] f g h = refl
new_same (x ∷ xs) f g h = new_same_if (f x) (g x) (λ q. same_text q x || f q) (λ q. same_text q x || g q) xs (h x) (new_same xs (λ q. same_text q x || f q) (λ q. same_text q x || g q) (λ q. ap (λ b. same_text q x || b) (h q)))

same_tests : (x q : List ℕ) (a b : Bool) → same_text q x ≡ a → tied q x ≡ b → a ≡ b
same_tests x q true true e f = refl
same_tests x q false false e f = refl
same_tests x q true false e f = let same : q ≡ x = (Decides-same_text q x).0 e in let t : tied q x ≡ true = subst (λ y. tied q y ≡ true) same (tied_self q) in cc
same_tests x q false true e f = let t : same_text q x ≡ true = (Decides-same_text q x).1 (same_from_tied q x f) in cc

is_it : (x q : List ℕ) → is_at (text_cmp x) q ≡ same_text q x
is_it x q = (eq_by_cmp_equiv nat_list_cmp_total).symm x q ∙ sym (same_tests x q (same_text q x) (tied q x) refl refl)

has_after : (b : Bool) (v : ℕ) (o : Option ℕ) → is_some (cond b (Some v) o) ≡ (b || is_some o)
has_after true v o = refl
has_after false v o = refl

-- after one key more the map has that one and those before
pub has_more : (m n : BTreeMap (List ℕ) ℕ) (k x : List ℕ) (v : ℕ) → ((q : List ℕ) → tree.get text_cmp n q ≡ cond (is_at (text_cmp k) q) (Some v) (tree.get text_cmp m q)) → k ≡ x → (q : List ℕ) → (same_text q x || has m q) ≡ has n q
has_more m n k x v h e q = sym (ap is_some (h q) ∙ has_after (is_at (text_cmp k) q) v (tree.get text_cmp m q) ∙ ap (λ b. b || has m q) (is_it k q ∙ ap (same_text q) e))

-- one text more, which was not seen
pub new_passed : (f g : List ℕ → Bool) (x : List ℕ) (xs : List (List ℕ)) → f x ≡ false → ((q : List ℕ) → (same_text q x || f q) ≡ g q) → are_new f (x ∷ xs) ≡ are_new g xs
new_passed f g x xs h more = rw h (new_same xs (λ q. same_text q x || f q) g more)

-- one row more, whose text was not seen
pub rows_passed : (key : List ℕ) (rows : Table) (i : ℕ) (row : Values) (text : List ℕ) (f g : List ℕ → Bool) (all : Bool) → i < length rows → row ≡ get_or rows i row → text ≡ values_text key row → f text ≡ false → ((q : List ℕ) → (same_text q (values_text key row) || f q) ≡ g q)
    → are_new f (map (values_text key) (drop i rows)) ≡ all → are_new g (map (values_text key) (drop (i + 1) rows)) ≡ all
rows_passed key rows i row text f g all lt is same unseen more before =
    let cut : drop i rows ≡ row ∷ drop (i + 1) rows = drop-cons rows i row lt ∙ ap (λ (y : Values). y ∷ drop (suc i) rows) (sym is) ∙ ap (λ (j : ℕ). row ∷ drop j rows) (sym (add-one i)) in
    sym (new_passed f g (values_text key row) (map (values_text key) (drop (i + 1) rows)) (ap f (sym same) ∙ unseen) more) ∙ ap (λ rs. are_new f (map (values_text key) rs)) (sym cut) ∙ before
