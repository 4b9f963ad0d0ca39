-- The kinds under which columns are read.
use Rattle.std.proofs.Common.{◌≡◌, ◌≢◌, ◌≤◌, ◌<◌, ◌+◌, ℕ, zero, suc, Bool, true, false, ◌||◌, List, [], ◌∷◌, ◌++◌, length, slice_index_or, slice_set, nat_lt, ◌==◌, if◌then◌else◌, Some, None, refl, sym, ap, ◌∙◌, subst, arith, append_assoc}
use Rattle.std.proofs.lemmas.List.{get_or_past, get_or-set_same, get_or-set_other, set_past, length-set, append-nil}
use Rattle.std.proofs.lemmas.Bool.{ltb-true, ltb-false}
use Rattle.std.proofs.lemmas.Bool.Decides.{eqb_tells}
use Rattle.std.proofs.Common.{⊎_elim}
use Rattle.std.proofs.Math.Nat.{zero-add}
use Rattle.std.proofs.lemmas.List.Folds.{list_any-append, list_any_at}
use Rattle.std.proofs.lemmas.List.FromFn.{get_or-range_with_len, length-range_with_len}
use Rattle.std.specs.List.{list_any, range_with_len}
use Rattle.shape_base.specs.declared.definition.Column.{Column}
use Rattle.shape_base.specs.declared.truth.Tri.{Tri}
use Rattle.shape_base.specs.declared.value.Value.{Value}
use Rattle.shape_base.specs.declared.value.Value.TheVariants as values
use Rattle.shape_base.specs.Tables.{Values}
use Rattle.shape_base.specs.Shape.{IsLeast}
use Rattle.pg_values.specs.declared.kind.Kind.{Kind}
use Rattle.pg_values.specs.declared.kind.Kind.TheVariants as kinds
use Rattle.pg_values.specs.Values.{kind_under}
use Rattle.where_grammar.specs.Tree.{Tree}
use Rattle.where_eval.specs.declared.leaves.Leaf.{Leaf}
use Rattle.where_eval.specs.declared.leaves.Leaf.TheVariants as leaf
use Rattle.where_eval.specs.declared.checked.Checked.{Checked}
use Rattle.where_eval.specs.Leaves.{names_place}
use Rattle.where_eval.specs.Kinds.{kind_at}
use Rattle.where_eval.specs.Plans.{meaning}
use Rattle.where_eval.specs.Scalars.{tri_of}
use Rattle.where_eval.specs.Truth.{is_unreadable, unread, truth_in, truth_of}
use Rattle.where_eval.specs.Checked.{AreRead, kind_read, is_unread, IsChecked, width}

-- the kinds read by the leaves before those that are left
pub record IsReadSoFar (c : List Column) (all left : List Leaf) (read : List Kind) : Type 0 where
  pub before : List Leaf
  pub cut : all ≡ before ++ left
  pub are : AreRead c before read

pub read_none : (c : List Column) (all : List Leaf) (read : List Kind) → AreRead c [] read → IsReadSoFar c all all read
read_none c all read r = record { before = []; cut = refl; are = r }

pub read_all : (c : List Column) (all left : List Leaf) (read : List Kind) → IsReadSoFar c all left read → left ≡ [] → AreRead c all read
read_all c all left read r e = subst (λ ls. AreRead c ls read) (sym (r.cut ∙ (ap (λ u. r.before ++ u) e ∙ append-nil r.before))) r.are

-- no kind is read yet, and one more column
pub none_more : (read : List Kind) → ((place : ℕ) → slice_index_or read place kinds.Other ≡ kinds.Other) → (place : ℕ) → slice_index_or (read ++ kinds.Other ∷ []) place kinds.Other ≡ kinds.Other
none_more [] h zero = refl
none_more [] h (suc n) = refl
none_more (k ∷ ks) h zero = h zero
none_more (k ∷ ks) h (suc n) = none_more ks (λ p. h (suc p)) n

no_such_column : (c : List Column) (place : ℕ) → length c ≤ place → kind_at c place ≡ kinds.Other
no_such_column c place past = ap (λ (x : Column). kind_under x.oid) (get_or_past c place (record { name = []; oid = 0 }) past)

or_none : (b : Bool) → (b || (false || false)) ≡ b
or_none true = refl
or_none false = refl

or_one : (b : Bool) → (b || (true || false)) ≡ true
or_one true = refl
or_one false = refl

-- one more leaf, which names no column
other_leaf : (c : List Column) (before : List Leaf) (l : Leaf) (place : ℕ) → names_place place l ≡ false → kind_read c (before ++ l ∷ []) place ≡ kind_read c before place
other_leaf c before l place free = ap (λ b. if b then kind_at c place else kinds.Other)
    (list_any-append (names_place place) before (l ∷ []) ∙ (ap (λ b. list_any (names_place place) before || (b || false)) free ∙ or_none (list_any (names_place place) before)))

-- one more leaf, which names the column
this_leaf : (c : List Column) (before : List Leaf) (l : Leaf) (place : ℕ) → names_place place l ≡ true → kind_read c (before ++ l ∷ []) place ≡ kind_at c place
this_leaf c before l place named = ap (λ b. if b then kind_at c place else kinds.Other)
    (list_any-append (names_place place) before (l ∷ []) ∙ (ap (λ b. list_any (names_place place) before || (b || false)) named ∙ or_one (list_any (names_place place) before)))

put_here : (c : List Column) (read : List Kind) (p place : ℕ) → length read ≡ length c → p ≡ place → (b : Bool) → nat_lt p (length read) ≡ b → slice_index_or (slice_set read p (kind_at c p)) place kinds.Other ≡ kind_at c place
put_here c read p place wide same true is = ap (λ q. slice_index_or (slice_set read p (kind_at c p)) q kinds.Other) (sym same) ∙ (get_or-set_same read p (kind_at c p) kinds.Other (ltb-true p (length read) is) ∙ ap (kind_at c) same)
put_here c read p place wide same false is =
    let past : length read ≤ p = ltb-false p (length read) is in
    let far : length c ≤ place = omega (arith, past, wide, same) in
    let far_ : length read ≤ place = omega (arith, past, same) in
    ap (λ (ks : List Kind). slice_index_or ks place kinds.Other) (set_past read p (kind_at c p) past) ∙ (get_or_past read place kinds.Other far_ ∙ sym (no_such_column c place far))

each_put : (c : List Column) (before : List Leaf) (read : List Kind) (p place : ℕ) → AreRead c before read → slice_index_or (slice_set read p (kind_at c p)) place kinds.Other ≡ kind_read c (before ++ leaf.Column p ∷ []) place
each_put c before read p place r = ⊎_elim
    (λ (t : ((p == place) ≡ true) × (p ≡ place)). put_here c read p place r.wide t.1 (nat_lt p (length read)) refl ∙ sym (this_leaf c before (leaf.Column p) place t.0))
    (λ (t : ((p == place) ≡ false) × (p ≢ place)). get_or-set_other read p place (kind_at c p) kinds.Other (λ e. t.1 (sym e)) ∙ (r.each place ∙ sym (other_leaf c before (leaf.Column p) place t.0)))
    (eqb_tells p place)

pub read_column : (c : List Column) (all left rest : List Leaf) (read after : List Kind) (l : Leaf) (p : ℕ) → IsReadSoFar c all left read → left ≡ l ∷ rest → l ≡ leaf.Column p → after ≡ slice_set read p (kind_at c p) → IsReadSoFar c all rest after
read_column c all left rest read after l p r cut is put = record {
  before = r.before ++ l ∷ [];
  cut = r.cut ∙ (ap (λ u. r.before ++ u) cut ∙ sym (append_assoc r.before (l ∷ []) rest));
  are = subst (λ ks. AreRead c (r.before ++ l ∷ []) ks) (sym put) (subst (λ m. AreRead c (r.before ++ m ∷ []) (slice_set read p (kind_at c p))) (sym is)
      (record { wide = length-set read p (kind_at c p) ∙ r.are.wide; each = λ place. each_put c r.before read p place r.are }));
}

names_none : (l : Leaf) (place : ℕ) → ((p : ℕ) → l ≡ leaf.Column p → ⊥) → names_place place l ≡ false
names_none leaf.Unknown place none = refl
names_none (leaf.Column p) place none = absurd (none p refl)
names_none leaf.Constant place none = refl

pub read_other : (c : List Column) (all left rest : List Leaf) (read : List Kind) (l : Leaf) → IsReadSoFar c all left read → left ≡ l ∷ rest → ((p : ℕ) → l ≡ leaf.Column p → ⊥) → IsReadSoFar c all rest read
read_other c all left rest read l r cut none = record {
  before = r.before ++ l ∷ [];
  cut = r.cut ∙ (ap (λ u. r.before ++ u) cut ∙ sym (append_assoc r.before (l ∷ []) rest));
  are = record { wide = r.are.wide; each = λ place. r.are.each place ∙ sym (other_leaf c r.before l place (names_none l place none)) };
}

-- a kind that is not read has no unread text
pub readable : (v : Value) → is_unreadable kinds.Other v ≡ false
readable values.Null = refl
readable (values.Words text) = refl

pub past_all : (read : List Kind) (row : Values) (place : ℕ) → length read ≤ place → is_unread read row place ≡ false
past_all read row place past = ap (λ k. is_unreadable k (slice_index_or row place values.Null)) (get_or_past read place kinds.Other past) ∙ readable (slice_index_or row place values.Null)

none_passes : (f : ℕ → Bool) (xs : List ℕ) → ((n : ℕ) → f n ≡ false) → list_any f xs ≡ false
none_passes f [] h = refl
none_passes f (x ∷ xs) h = ap (λ b. b || list_any f xs) (h x) ∙ none_passes f xs h

pub all_read : (checked : Checked) (c : List Column) (tree : Tree) (row : Values) (tri : Tri) → IsChecked checked c tree → ((place : ℕ) → is_unread checked.kinds.items row place ≡ false) → tri ≡ tri_of (meaning checked.plan row) → truth_of c tree row ≡ Some tri
all_read checked c tree row tri k none is =
    ap (λ b. if b then None else Some (truth_in c row tree)) (none_passes (unread c tree row) (range_with_len 0 (length row)) (λ n. sym (k.reads row n) ∙ none n))
    ∙ ap Some (sym (k.means row) ∙ sym is)

in_row : (read : List Kind) (row : Values) (n : ℕ) → length row ≡ length read → is_unread read row n ≡ true → (b : Bool) → nat_lt n (length row) ≡ b → n < length row
in_row read row n wide h true is = ltb-true n (length row) is
in_row read row n wide h false is = let past : length read ≤ n = omega (arith, ltb-false n (length row) is, wide) in let none = past_all read row n past in absurd (cc)

pub one_unread : (checked : Checked) (c : List Column) (tree : Tree) (row : Values) (n : ℕ) → length row ≡ width checked → IsChecked checked c tree → IsLeast (is_unread checked.kinds.items row) n → (truth_of c tree row ≡ None) × IsLeast (unread c tree row) n
one_unread checked c tree row n wide k l =
    let passes : unread c tree row n ≡ true = sym (k.reads row n) ∙ l.passes in
    let inside : n < length row = in_row checked.kinds.items row n wide l.passes (nat_lt n (length row)) refl in
    let there : slice_index_or (range_with_len 0 (length row)) n 0 ≡ n = get_or-range_with_len 0 (length row) n 0 inside ∙ zero-add n in
    let long : n < length (range_with_len 0 (length row)) = omega (arith, inside, length-range_with_len 0 (length row)) in
    let any : list_any (unread c tree row) (range_with_len 0 (length row)) ≡ true = list_any_at (unread c tree row) (range_with_len 0 (length row)) n 0 long (ap (unread c tree row) there ∙ passes) in
    (ap (λ b. if b then None else Some (truth_in c row tree)) any, record { passes = passes; least = λ m lt. sym (k.reads row m) ∙ l.least m lt })

-- one more place without an unread text
pub one_more_read : (f : ℕ → Bool) (n : ℕ) → ((place : ℕ) → place < n → f place ≡ false) → f n ≡ false → (place : ℕ) → place < n + 1 → f place ≡ false
one_more_read f n h here place lt = ⊎_elim
    (λ (t : ((place == n) ≡ true) × (place ≡ n)). ap f t.1 ∙ here)
    (λ (t : ((place == n) ≡ false) × (place ≢ n)). h place (omega (arith, lt, t.1)))
    (eqb_tells place n)

pub one_unread_in : (checked : Checked) (c : List Column) (tree : Tree) (row r : Values) (read : List Kind) (n : ℕ) → read ≡ checked.kinds.items → r ≡ row → length row ≡ width checked → IsChecked checked c tree → IsLeast (is_unread read r) n → (truth_of c tree row ≡ None) × IsLeast (unread c tree row) n
one_unread_in checked c tree row r read n same same_ wide k l = one_unread checked c tree row n wide k (subst (λ u. IsLeast (is_unread checked.kinds.items u) n) same_ (subst (λ ks. IsLeast (is_unread ks r) n) same l))

pub all_read_in : (checked : Checked) (c : List Column) (tree : Tree) (row r : Values) (read : List Kind) (tri : Tri) → read ≡ checked.kinds.items → r ≡ row → IsChecked checked c tree → ((place : ℕ) → is_unread read r place ≡ false) → tri ≡ tri_of (meaning checked.plan row) → truth_of c tree row ≡ Some tri
all_read_in checked c tree row r read tri same same_ k none is = all_read checked c tree row tri k (λ p. ap (λ ks. is_unread ks row p) (sym same) ∙ (ap (λ u. is_unread read u p) (sym same_) ∙ none p)) is
