-- Transactions that do the same lead to the same entries.
use Rattle.std.proofs.Common.{◌≡◌, ℕ, zero, suc, ◌+◌, Bool, true, false, List, [], ◌∷◌, ◌++◌, length, map, take, drop, refl, sym, ◌∙◌, ap, Option}
use Rattle.std.specs.Bool.{if◌then◌else◌}
use Rattle.std.specs.List.{list_any, flat_map, slice_get}
use Rattle.std.proofs.lemmas.List.{length-map}
use Rattle.shape_base.specs.declared.entry.Entry.{Entry}
use Rattle.shape_base.specs.declared.change.Tx.{Tx}
use Rattle.shape_base.specs.declared.definition.TableDef.{TableDef}
use Rattle.shape_base.specs.declared.change.Change.{Change}
use Rattle.shape_base.specs.declared.change.ChangeKind.{ChangeKind}
use Rattle.shape_base.specs.Tables.{Own, own_of, own_from, changes_of}
use Rattle.shape_base.specs.Visibility.{Visibility, is_visible}
use Rattle.shape_base.specs.Shape.{Knows, stops, emit, shown}
use Rattle.shape_base.specs.Log.{entries_past, unseen, start_from}
use Rattle.shape_base.specs.Transactions.{Meaning, meaning}
use Rattle.shape_base.specs.Laws.{SameMeaning}

listed : ℕ → ℕ → List (Option TableDef × ChangeKind) → List Own
listed t j [] = []
listed t j (c ∷ cs) = own_of t j c.1 c.0 (listed t (j + 1) cs)

own_listed : (t j : ℕ) (defs : List TableDef) (cs : List Change) → own_from t defs j cs ≡ listed t j (map (λ (c : Change). (slice_get defs c.def, c.kind)) cs)
unfolding listed
own_listed t j defs [] = refl
own_listed t j defs (c ∷ cs) = ap (own_of t j c.kind (slice_get defs c.def)) (own_listed t (j + 1) defs cs)

pub changes_alike : (t : ℕ) (a b : Tx) → meaning a ≡ meaning b → changes_of t a ≡ changes_of t b
changes_alike t a b e = own_listed t 0 a.defs a.changes ∙ ap (λ (m : Meaning). listed t 0 m.1) e ∙ sym (own_listed t 0 b.defs b.changes)

head_alike : (a b : Tx) (xs ys : List Tx) → map meaning (a ∷ xs) ≡ map meaning (b ∷ ys) → meaning a ≡ meaning b
head_alike a b xs ys e = cc

tail_alike : (a b : Tx) (xs ys : List Tx) → map meaning (a ∷ xs) ≡ map meaning (b ∷ ys) → map meaning xs ≡ map meaning ys
tail_alike a b xs ys e = cc

pub past_alike : (s : Knows) (xs ys : List Tx) → map meaning xs ≡ map meaning ys → entries_past s xs ≡ entries_past s ys
past_alike s [] [] e = refl
past_alike s [] (b ∷ ys) e = cc
past_alike s (a ∷ xs) [] e = cc
past_alike s (a ∷ xs) (b ∷ ys) e =
    let m = head_alike a b xs ys e in
    let own = changes_alike s.definition.table a b m in
    let rest = past_alike s xs ys (tail_alike a b xs ys e) in
    ap (λ (os : List Own). if list_any (stops s) os then [] else flat_map (emit s a.lsn) os ++ entries_past s xs) own
    ∙ ap (λ (n : ℕ). if list_any (stops s) (changes_of s.definition.table b) then [] else flat_map (emit s n) (changes_of s.definition.table b) ++ entries_past s xs) (ap (λ (x : Meaning). x.0.0) m)
    ∙ ap (λ (es : List Entry). if list_any (stops s) (changes_of s.definition.table b) then [] else flat_map (emit s b.lsn) (changes_of s.definition.table b) ++ es) rest

xid_alike : (a b : Tx) → meaning a ≡ meaning b → a.xid ≡ b.xid
xid_alike a b e = ap (λ (x : Meaning). x.0.1) e

unseen_if : (v : Visibility) (a b : Tx) (xs ys us vs : List Tx) (p q : Bool) → p ≡ q → map meaning us ≡ map meaning vs → map meaning (a ∷ xs) ≡ map meaning (b ∷ ys) → map meaning (if p then us else a ∷ xs) ≡ map meaning (if q then vs else b ∷ ys)
unseen_if v a b xs ys us vs true true e h k = h
unseen_if v a b xs ys us vs true false e h k = cc
unseen_if v a b xs ys us vs false true e h k = cc
unseen_if v a b xs ys us vs false false e h k = k

pub unseen_alike : (v : Visibility) (xs ys : List Tx) → map meaning xs ≡ map meaning ys → map meaning (unseen v xs) ≡ map meaning (unseen v ys)
unseen_alike v [] [] e = refl
unseen_alike v [] (b ∷ ys) e = cc
unseen_alike v (a ∷ xs) [] e = cc
unseen_alike v (a ∷ xs) (b ∷ ys) e = unseen_if v a b xs ys (unseen v xs) (unseen v ys) (is_visible v a.xid) (is_visible v b.xid) (ap (is_visible v) (xid_alike a b (head_alike a b xs ys e))) (unseen_alike v xs ys (tail_alike a b xs ys e)) e

pub drop_alike : (n : ℕ) (xs ys : List Tx) → map meaning xs ≡ map meaning ys → map meaning (drop n xs) ≡ map meaning (drop n ys)
drop_alike zero xs ys e = e
drop_alike (suc n) [] [] e = refl
drop_alike (suc n) [] (b ∷ ys) e = cc
drop_alike (suc n) (a ∷ xs) [] e = cc
drop_alike (suc n) (a ∷ xs) (b ∷ ys) e = drop_alike n xs ys (tail_alike a b xs ys e)

pub take_alike : (n : ℕ) (xs ys : List Tx) → map meaning xs ≡ map meaning ys → map meaning (take n xs) ≡ map meaning (take n ys)
take_alike zero xs ys e = refl
take_alike (suc n) [] [] e = refl
take_alike (suc n) [] (b ∷ ys) e = cc
take_alike (suc n) (a ∷ xs) [] e = cc
take_alike (suc n) (a ∷ xs) (b ∷ ys) e = ap (λ (m : Meaning). m ∷ map meaning (take n xs)) (head_alike a b xs ys e) ∙ ap (λ (ms : List Meaning). meaning b ∷ ms) (take_alike n xs ys (tail_alike a b xs ys e))

pub length_alike : (xs ys : List Tx) → map meaning xs ≡ map meaning ys → length xs ≡ length ys
length_alike xs ys e = sym (length-map xs meaning) ∙ ap length e ∙ length-map ys meaning

pub same_meaning : SameMeaning
same_meaning s v snapshot xs ys e = ap (λ es. start_from 1 (shown s snapshot) ++ es) (past_alike s (unseen v xs) (unseen v ys) (unseen_alike v xs ys e))
