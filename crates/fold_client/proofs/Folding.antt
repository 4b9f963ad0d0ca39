-- Rows under one entry and its undoing, and under many.
use Rattle.std.proofs.Common.{◌≡◌, ℕ, ◌+◌, Bool, true, false, cond, List, [], ◌∷◌, ◌++◌, drop, map, refl, sym, ◌∙◌, ap, subst, append_assoc, Option, None, Some, is_some, Ok}
use Rattle.std.specs.Bool.{if◌then◌else◌}
use Rattle.std.specs.Option.{option_and_then, option_map}
use Rattle.std.specs.FinMap as fin
use Rattle.std.specs.Cmp.Lexicographic.{nat_list_cmp_total}
use Rattle.shape_base.specs.declared.entry.Cell.{Cell}
use Rattle.shape_base.specs.declared.entry.Entry.{Entry}
use Rattle.shape_base.specs.declared.entry.Op.TheVariants.{Insert, Update, Delete}
use Rattle.shape_base.specs.declared.entry.KeyedRow.{KeyedRow}
use Rattle.shape_base.specs.Shape.{Keyed, Map}
use Rattle.shape_base.specs.Tables.{same_text}
use Rattle.shape_base.specs.Log.{value_in, replaced, fold_op, fold_from, fault_or, first_fault}
use Rattle.shape_base.proofs.Lemmas.{exact, tied, same_from_tied, insert_twice, remove_inserted}
use Rattle.fold_client.specs.declared.rows.Undo.{Undo}
use Rattle.fold_client.specs.Rows.{keyed_row, restored, undone, Steps}

-- ---- one entry

there : (m : Map) (k : List ℕ) → fin.contains_key m k ≡ is_some (fin.get m k)
there m k = refl

same_there : (m : Map) (k q : List ℕ) (v : List Cell) → fin.get m k ≡ Some v → (b : Bool) → tied q k ≡ b → cond b (Some v) (fin.get m q) ≡ fin.get m q
same_there m k q v h true e = sym (subst (λ (x : List ℕ). fin.get m x ≡ Some v) (sym (same_from_tied q k e)) h)
same_there m k q v h false e = refl

-- what stands there is put there again
pub insert_same : (m : Map) (k : List ℕ) (v : List Cell) → fin.get m k ≡ Some v → fin.insert m k v ≡ m
insert_same m k v h = fin.same_map nat_list_cmp_total exact _ _ (λ q. fin.get-insert nat_list_cmp_total m k v q ∙ same_there m k q v h (tied q k) refl)

removed_there : (m : Map) (k q : List ℕ) (v : List Cell) (b : Bool) → cond b (Some v) (cond b None (fin.get m q)) ≡ cond b (Some v) (fin.get m q)
removed_there m k q v true = refl
removed_there m k q v false = refl

pub insert_removed : (m : Map) (k : List ℕ) (v : List Cell) → fin.insert (fin.remove m k) k v ≡ fin.insert m k v
insert_removed m k v = fin.same_map nat_list_cmp_total exact _ _ (λ q. fin.get-insert nat_list_cmp_total (fin.remove m k) k v q
    ∙ ap (λ (o : Option (List Cell)). cond (tied q k) (Some v) o) (fin.get-remove nat_list_cmp_total m k q) ∙ removed_there m k q v (tied q k) ∙ sym (fin.get-insert nat_list_cmp_total m k v q))

none_there : (m : Map) (k q : List ℕ) → fin.get m k ≡ None → (b : Bool) → tied q k ≡ b → cond b None (fin.get m q) ≡ fin.get m q
none_there m k q h true e = sym (subst (λ (x : List ℕ). fin.get m x ≡ None) (sym (same_from_tied q k e)) h)
none_there m k q h false e = refl

pub remove_none : (m : Map) (k : List ℕ) → fin.get m k ≡ None → fin.remove m k ≡ m
remove_none m k h = fin.same_map nat_list_cmp_total exact _ _ (λ q. fin.get-remove nat_list_cmp_total m k q ∙ none_there m k q h (tied q k) refl)

-- inserted where nothing stood
pub inserts : (m : Map) (k : List ℕ) (v : List Cell) → fin.get m k ≡ None → (fold_op Insert k v m ≡ Some (fin.insert m k v)) × (fin.remove (fin.insert m k v) k ≡ m)
inserts m k v h = (ap (λ (o : Option (List Cell)). if is_some o then None else Some (fin.insert m k v)) h, remove_inserted m k v h)

-- refused where something stood
pub inserts_not : (m : Map) (k : List ℕ) (v w : List Cell) → fin.get m k ≡ Some w → (fold_op Insert k v m ≡ None) × (fin.insert (fin.insert m k v) k w ≡ m)
inserts_not m k v w h = (ap (λ (o : Option (List Cell)). if is_some o then None else Some (fin.insert m k v)) h, insert_twice m k v w ∙ insert_same m k w h)

pub deletes : (m : Map) (k : List ℕ) (v olds : List Cell) → fin.get m k ≡ Some olds → (fold_op Delete k v m ≡ Some (fin.remove m k)) × (fin.insert (fin.remove m k) k olds ≡ m)
deletes m k v olds h = (ap (λ (o : Option (List Cell)). if is_some o then Some (fin.remove m k) else None) h, insert_removed m k olds ∙ insert_same m k olds h)

pub deletes_not : (m : Map) (k : List ℕ) (v : List Cell) → fin.get m k ≡ None → (fold_op Delete k v m ≡ None) × (fin.remove m k ≡ m)
deletes_not m k v h = (ap (λ (o : Option (List Cell)). if is_some o then Some (fin.remove m k) else None) h, remove_none m k h)

-- ---- the same, as the program comes to it

abbrev Row : Type 0
Row = Option (List Cell)

pub inserted : (m new : Map) (k : List ℕ) (v : List Cell) (o : Row) → o ≡ fin.get m k → o ≡ None → new ≡ fin.insert m k v → (fold_op Insert k v m ≡ Some new) × (fin.remove new k ≡ m)
inserted m new k v o e n is =
    let p = inserts m k v (sym e ∙ n) in
    (p.0 ∙ ap Some (sym is), ap (λ (x : Map). fin.remove x k) is ∙ p.1)

pub inserted_not : (m mid new : Map) (k : List ℕ) (v w : List Cell) (o : Row) → o ≡ fin.get m k → o ≡ Some w → mid ≡ fin.insert m k v → new ≡ fin.insert mid k w → (fold_op Insert k v m ≡ None) × (new ≡ m)
inserted_not m mid new k v w o e n is back =
    let p = inserts_not m k v w (sym e ∙ n) in
    (p.0, back ∙ ap (λ (x : Map). fin.insert x k w) is ∙ p.1)

pub updated : (m new : Map) (k : List ℕ) (news olds made : List Cell) (got stood : Row) → got ≡ fin.get m k → got ≡ Some olds → stood ≡ fin.get m k → made ≡ replaced news olds → new ≡ fin.insert m k made → (fold_op Update k news m ≡ Some new) × (restored k stood new ≡ m)
updated m new k news olds made got stood e n s same is =
    let here : fin.get m k ≡ Some olds = sym e ∙ n in (
      ap (option_map (λ (x : List Cell). fin.insert m k (replaced news x))) here ∙ ap (λ (x : List Cell). Some (fin.insert m k x)) (sym same) ∙ ap Some (sym is),
      ap (λ (o : Option (List Cell)). restored k o new) (s ∙ here) ∙ ap (λ (x : Map). fin.insert x k olds) is ∙ insert_twice m k made olds ∙ insert_same m k olds here,
    )

pub updated_not : (m : Map) (k : List ℕ) (news : List Cell) (got : Row) → got ≡ fin.get m k → got ≡ None → fold_op Update k news m ≡ None
updated_not m k news got e n = ap (option_map (λ (x : List Cell). fin.insert m k (replaced news x))) (sym e ∙ n)

pub deleted : (m new : Map) (k : List ℕ) (v olds : List Cell) (o : Row) → o ≡ fin.get m k → o ≡ Some olds → new ≡ fin.remove m k → (fold_op Delete k v m ≡ Some new) × (fin.insert new k olds ≡ m)
deleted m new k v olds o e n gone =
    let p = deletes m k v olds (sym e ∙ n) in
    (p.0 ∙ ap Some (sym gone), ap (λ (x : Map). fin.insert x k olds) gone ∙ p.1)

pub deleted_not : (m mid : Map) (k : List ℕ) (v : List Cell) (o : Row) → o ≡ fin.get m k → o ≡ None → mid ≡ fin.remove m k → (fold_op Delete k v m ≡ None) × (mid ≡ m)
deleted_not m mid k v o e n gone = let p = deletes_not m k v (sym e ∙ n) in (p.0, gone ∙ p.1)

-- ---- cells

pub value_more : (cells : List Cell) (i : ℕ) (name : List ℕ) (c : Cell) → drop i cells ≡ c ∷ drop (i + 1) cells → value_in cells name ≡ value_in (drop i cells) name → same_text name c.name ≡ false → value_in cells name ≡ value_in (drop (i + 1) cells) name
value_more cells i name c is e not = e ∙ ap (λ (xs : List Cell). value_in xs name) is ∙ ap (λ (b : Bool). if b then Some c.value else value_in (drop (i + 1) cells) name) not

pub value_here : (cells : List Cell) (i : ℕ) (name : List ℕ) (c : Cell) → drop i cells ≡ c ∷ drop (i + 1) cells → value_in cells name ≡ value_in (drop i cells) name → same_text name c.name ≡ true → value_in cells name ≡ Some c.value
value_here cells i name c is e there_is = e ∙ ap (λ (xs : List Cell). value_in xs name) is ∙ ap (λ (b : Bool). if b then Some c.value else value_in (drop (i + 1) cells) name) there_is

-- ---- many

-- one more was folded
pub undone-append : (us : List Undo) (u : Undo) (m : Map) → undone (us ++ u ∷ []) m ≡ undone us (restored u.key u.before m)
undone-append [] u m = refl
undone-append (x ∷ us) u m = ap (restored x.key x.before) (undone-append us u m)

-- those that are left lead from here to where all lead from the start, and what was folded can be undone
pub record Folds (entries rest : List Entry) (before now : Map) (us : List Undo) : Type 0 where
  pub folded : fold_from entries before ≡ fold_from rest now
  pub fault : first_fault entries before ≡ first_fault rest now
  pub back : undone us now ≡ before

pub folds_more : (entries left rest : List Entry) (before now new : Map) (us : List Undo) (u : Undo) (e : Entry) → left ≡ e ∷ rest → Folds entries left before now us → Steps e.op e now new (Ok u) → Folds entries rest before new (us ++ u ∷ [])
folds_more entries left rest before now new us u e is f k = record {
  folded = f.folded ∙ ap (λ (es : List Entry). fold_from es now) is ∙ ap (option_and_then (fold_from rest)) k.0;
  fault = f.fault ∙ ap (λ (es : List Entry). first_fault es now) is ∙ ap (fault_or e (first_fault rest)) k.0;
  back = undone-append us u new ∙ ap (undone us) k.1 ∙ f.back;
}

-- ---- undoing

-- the last was undone
pub undone_last : (us : List Undo) (u : Undo) (rest : List Undo) (m new : Map) → us ≡ rest ++ u ∷ [] → new ≡ restored u.key u.before m → undone rest new ≡ undone us m
undone_last us u rest m new is e = ap (undone rest) e ∙ sym (undone-append rest u m) ∙ ap (λ (xs : List Undo). undone xs m) (sym is)

-- one row more
pub row_more : (made : List KeyedRow) (left next : List Keyed) (row : Keyed) (key : List ℕ) (cells : List Cell) (all : List KeyedRow) → left ≡ row ∷ next → key ≡ row.0 → cells ≡ row.1 → made ++ map keyed_row left ≡ all
    → (made ++ record { key = key; cells = cells } ∷ []) ++ map keyed_row next ≡ all
row_more made left next row key cells all is k v h =
    append_assoc made (record { key = key; cells = cells } ∷ []) (map keyed_row next)
    ∙ ap (λ (x : List ℕ). made ++ record { key = x; cells = cells } ∷ map keyed_row next) k
    ∙ ap (λ (x : List Cell). made ++ record { key = row.0; cells = x } ∷ map keyed_row next) v
    ∙ ap (λ (xs : List Keyed). made ++ map keyed_row xs) (sym is) ∙ h
