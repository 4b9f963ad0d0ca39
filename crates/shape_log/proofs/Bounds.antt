-- The end of a log, and where an offset stands in it.
use Rattle.std.proofs.Common.{◌≡◌, ℕ, zero, suc, ◌+◌, ◌-◌, ◌<◌, ◌≤◌, Bool, true, false, List, [], ◌∷◌, length, get_or, take, drop, refl, sym, ap, subst, ◌⊎◌, arith, Some, inl, inr}
use Rattle.std.specs.Prelude.{not, slice_get}
use Rattle.std.specs.List.{AllWithin}
use Rattle.std.specs.List.Sorted.{IsPartitionedBy, IsPartitionPoint}
use Rattle.shape_base.specs.declared.offset.Offset.{Offset}
use Rattle.shape_base.specs.declared.entry.Entry.{Entry}
use Rattle.shape_base.specs.Offsets.{is_before, rises_after, upto, past}
use Rattle.shape_base.specs.Log.{last_offset}
use Rattle.shape_base.proofs.Lemmas.{before_trans}
use Rattle.shape_log.specs.Logged.{IsBound}
use Rattle.std.proofs.lemmas.Bool.{cases_lt, and_parts, false_from_ne_true}

pub last_is : (o : Offset) (es : List Entry) (e : Entry) → slice_get es (length es - 1) ≡ Some e → e.offset ≡ last_offset o es
last_is o [] e h = cc
last_is o (x ∷ []) e h = let same : x ≡ e = cc in ap (λ (y : Entry). y.offset) (sym same)
last_is o (x ∷ y ∷ es) e h =
    let next : length (x ∷ y ∷ es) - 1 ≡ suc (length (y ∷ es) - 1) = omega arith in
    last_is x.offset (y ∷ es) e (subst (λ (n : ℕ). slice_get (x ∷ y ∷ es) n ≡ Some e) next h)

-- ---- a cut at an offset

abbrev pub is_upto : Offset → Entry → Bool
is_upto o e = not (is_before o e.offset)

above : (o : Offset) (es : List Entry) → rises_after o es ≡ true → (j : ℕ) (d : Entry) → j < length es → is_before o (get_or es j d).offset ≡ true
above o [] h j d lt = absurd (omega arith)
above o (x ∷ es) h zero d lt = (and_parts (is_before o x.offset) _ h).0
above o (x ∷ es) h (suc j) d lt = let p = and_parts (is_before o x.offset) _ h in before_trans o x.offset _ p.0 (above x.offset es p.1 j d (omega arith))

increasing : (o : Offset) (es : List Entry) → rises_after o es ≡ true → (i j : ℕ) (d : Entry) → i < j → j < length es → is_before (get_or es i d).offset (get_or es j d).offset ≡ true
increasing o [] h i j d lt le = absurd (omega arith)
increasing o (x ∷ es) h i zero d lt le = absurd (omega arith)
increasing o (x ∷ es) h zero (suc j) d lt le = above x.offset es (and_parts (is_before o x.offset) _ h).1 j d (omega arith)
increasing o (x ∷ es) h (suc i) (suc j) d lt le = increasing x.offset es (and_parts (is_before o x.offset) _ h).1 i j d (omega arith) (omega arith)

not_true : (b : Bool) → not b ≡ true → b ≡ false
not_true true h = cc
not_true false h = refl

not_false : (b : Bool) → not b ≡ false → b ≡ true
not_false true h = refl
not_false false h = cc

before_later : (o a b : Offset) → is_before a b ≡ true → not (is_before o b) ≡ true → not (is_before o a) ≡ true
before_later o a b h k = ap not (false_from_ne_true (is_before o a) (λ t. let u = before_trans o a b t h in let v = not_true _ k in cc))

earlier : (o from : Offset) (es : List Entry) → rises_after from es ≡ true → (i j : ℕ) (d : Entry) → i ≤ j → j < length es → (i < j) ⊎ (j ≤ i) → is_upto o (get_or es j d) ≡ true → is_upto o (get_or es i d) ≡ true
earlier o from es h i j d up le (inl lt) k = before_later o _ _ (increasing from es h i j d lt le) k
earlier o from es h i j d up le (inr down) k = let e : i ≡ j = omega arith in rw e k

-- no entry that is not after the offset comes after one that is
pub partitioned : (o from : Offset) (es : List Entry) → rises_after from es ≡ true → IsPartitionedBy (is_upto o) es
partitioned o from es h i j d le lt k = earlier o from es h i j d le lt (cases_lt i j) k

cut : (o : Offset) (es : List Entry) (n : ℕ) → n ≤ length es → AllWithin (λ e. is_upto o e ≡ true) es 0 n → AllWithin (λ e. is_upto o e ≡ false) es n (length es) → (take n es ≡ upto o es) × (drop n es ≡ past o es)
cut o [] zero le low high = (refl, refl)
cut o [] (suc n) le low high = absurd (omega arith)
cut o (e ∷ es) zero le low high = let h = not_false _ (high 0 e (omega arith) (omega arith)) in (rw h refl, rw h refl)
cut o (e ∷ es) (suc n) le low high =
    let h = not_true _ (low 0 e (omega arith) (omega arith)) in
    let rest = cut o es n (omega arith) (λ k d lo hi. low (suc k) d (omega arith) (omega arith)) (λ k d lo hi. high (suc k) d (omega arith) (omega arith)) in
    (rw h (ap (λ (xs : List Entry). e ∷ xs) rest.0), rw h rest.1)

-- where a search finds the place of an offset
pub bound_at : (o : Offset) (es : List Entry) (n : ℕ) → n ≤ length es → IsPartitionPoint (λ e. is_upto o e ≡ true) (λ e. is_upto o e ≡ false) es n → IsBound es o n
bound_at o es n le p = let parts = cut o es n le p.0 p.1 in record { within = le; before = parts.0; after = parts.1 }

-- room for one entry less
pub room_left : (len len' spare cap cap' : ℕ) → len + spare ≤ cap → 1 ≤ spare → len' ≡ len + 1 → cap ≤ cap' → len' + (spare - 1) ≤ cap'
room_left len len' spare cap cap' h some more grown = omega arith
