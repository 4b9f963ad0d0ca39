-- Steps of a fold, over the program's map and the one of the definitions.
use Rattle.std.proofs.Common.{◌≡◌, ℕ, ◌+◌, ◌<◌, Bool, true, false, List, [], ◌∷◌, ◌++◌, length, take, get_or, refl, sym, ◌∙◌, ap, Option, None, Some, is_some, IsSome}
use Rattle.std.proofs.lemmas.List.{take_more}
use Rattle.std.specs.Option.{option_and_then}
use Rattle.std.specs.Bool.{if◌then◌else◌}
use Rattle.std.specs.BTreeMap as tree
use Rattle.std.specs.FinMap as fin
use Rattle.shape_base.specs.declared.entry.Cell.{Cell}
use Rattle.shape_base.specs.declared.entry.Entry.{Entry}
use Rattle.shape_base.specs.declared.entry.Op.TheVariants.{Update}
use Rattle.shape_base.specs.Shape.{Map}
use Rattle.shape_base.specs.Log.{fold, fold_from, fold_op, replaced}
use Rattle.shape_base.proofs.Lemmas.{text_cmp, fold_from-append, Texts, get_in}
use Rattle.shape_base.specs.Maps.{map_in}

pub insert_done : (m n : Texts) (k : List ℕ) (v : List Cell) → is_some (tree.get text_cmp m k) ≡ false → map_in n ≡ fin.insert (map_in m) k v → (if is_some (fin.get (map_in m) k) then None else Some (fin.insert (map_in m) k v)) ≡ Some (map_in n)
insert_done m n k v h is = rw (get_in m k) (rw h (ap Some (sym is)))

pub insert_none : (m : Texts) (k : List ℕ) (v : List Cell) → is_some (tree.get text_cmp m k) ≡ true → ◌≡◌ {A = Option Map} (if is_some (fin.get (map_in m) k) then None else Some (fin.insert (map_in m) k v)) None
insert_none m k v h = rw (get_in m k) (rw h refl)

pub delete_done : (m n : Texts) (k : List ℕ) (b : Bool) → is_some (tree.get text_cmp m k) ≡ b → map_in n ≡ fin.remove (map_in m) k → (if is_some (fin.get (map_in m) k) then Some (fin.remove (map_in m) k) else None) ≡ (if b then Some (map_in n) else None)
delete_done m n k b h is = rw (get_in m k) (rw h (ap (λ x. if b then Some x else None) (sym is)))

pub update_none : (m : Texts) (k : List ℕ) (ds : List Cell) → tree.get text_cmp m k ≡ None → fold_op Update k ds (map_in m) ≡ None
update_none m k ds h = rw (get_in m k) (rw h refl)

pub update_done : (m n : Texts) (k : List ℕ) (ds olds : List Cell) → tree.get text_cmp m k ≡ Some olds → map_in n ≡ fin.insert (map_in m) k (replaced ds olds) → fold_op Update k ds (map_in m) ≡ Some (map_in n)
update_done m n k ds olds h is = rw (get_in m k) (rw h (ap Some (sym is)))

one_left : (o : Option Map) → option_and_then (fold_from []) o ≡ o
one_left None = refl
one_left (Some m) = refl

-- one entry more
pub fold_more : (es : List Entry) (i : ℕ) (e : Entry) (m : Map) (o : Option Map) → i < length es → e ≡ get_or es i e → fold (take i es) ≡ Some m → fold_op e.op e.key e.cells m ≡ o → fold (take (i + 1) es) ≡ o
fold_more es i e m o lt is so_far next =
    ap fold (take_more es i e lt ∙ ap (λ (x : Entry). take i es ++ x ∷ []) (sym is)) ∙ fold_from-append (take i es) (e ∷ []) fin.empty ∙ ap (option_and_then (fold_from (e ∷ []))) so_far ∙ one_left (fold_op e.op e.key e.cells m) ∙ next

pub some_is : (o : Option Map) (m : Map) → o ≡ Some m → IsSome o
some_is o m h = rw h refl
