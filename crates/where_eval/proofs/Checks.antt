-- What checking answers.
use Rattle.std.proofs.Common.{◌≡◌, Bool, true, false, ◌&&◌, List, [], ◌∷◌, if◌then◌else◌, slice_index_or, Option, Some, None, Err, refl, sym, ap, ◌∙◌, subst}
use Rattle.std.specs.List.{list_any}
use Rattle.shape_base.specs.declared.definition.Column.{Column}
use Rattle.shape_base.specs.declared.value.Value.{Value}
use Rattle.shape_base.specs.declared.value.Value.TheVariants as values
use Rattle.pg_values.specs.declared.kind.Kind.{Kind}
use Rattle.pg_values.specs.declared.kind.Kind.TheVariants as kinds
use Rattle.where_grammar.specs.Tree.{Tree}
use Rattle.where_eval.specs.declared.leaves.Leaf.{Leaf}
use Rattle.where_eval.specs.declared.checked.Checked.{Checked}
use Rattle.where_eval.specs.declared.faults.CheckError.{CheckError}
use Rattle.where_eval.specs.declared.faults.CheckError.TheVariants as errors
use Rattle.where_eval.specs.Leaves.{leaves, names_place}
use Rattle.where_eval.specs.Kinds.{kind_at}
use Rattle.where_eval.specs.Scalars.{tri_of}
use Rattle.where_eval.specs.Truth.{is_unreadable}
use Rattle.where_eval.proofs.Seeing.{readable}
use Rattle.where_eval.specs.Faults.{first_of, fault, asked, unknown_column, fault_of}
use Rattle.where_eval.specs.Compiled.{Compiles}
use Rattle.where_eval.specs.Checked.{AreRead, kind_read, IsKnown, IsChecked, IsCheck}

abbrev pub later_fault : List Column → Tree → Option CheckError
later_fault c tree = first_of (fault c 0 tree ∷ asked c kinds.Boolean 0 (tree ∷ []) ∷ [])

read_where : (b : Bool) (k : Kind) (v : Value) → is_unreadable (if b then k else kinds.Other) v ≡ (b && is_unreadable k v)
read_where true k v = refl
read_where false k v = readable v

no_fault : (c : List Column) (tree : Tree) → unknown_column c tree ≡ None → later_fault c tree ≡ None → fault_of c tree ≡ None
no_fault c tree u f = ap (λ o. first_of (o ∷ fault c 0 tree ∷ asked c kinds.Boolean 0 (tree ∷ []) ∷ [])) u ∙ f

pub is_checked : (checked : Checked) (c : List Column) (tree : Tree) (ls : List Leaf) → ls ≡ leaves c tree → unknown_column c tree ≡ None → later_fault c tree ≡ None → AreRead c ls checked.kinds.items → Compiles c kinds.Boolean checked.plan tree → IsChecked checked c tree
is_checked checked c tree ls same u f r p = record {
  faultless = no_fault c tree u f;
  wide = r.wide;
  reads = λ row place. ap (λ k. is_unreadable k (slice_index_or row place values.Null)) (r.each place ∙ ap (λ l. kind_read c l place) same)
      ∙ read_where (list_any (names_place place) (leaves c tree)) (kind_at c place) (slice_index_or row place values.Null);
  means = λ row. ap tri_of (p.means row);
}

pub check_unknown : {A : Type 0} (view : A → List Leaf) (c : List Column) (tree : Tree) (e : CheckError) → IsKnown view c tree (Err e) → IsCheck c tree (Err e)
check_unknown view c tree errors.OutOfMemory h = tt
check_unknown view c tree (errors.UnknownColumn atom) h = ap (λ o. first_of (o ∷ fault c 0 tree ∷ asked c kinds.Boolean 0 (tree ∷ []) ∷ [])) h
check_unknown view c tree (errors.TypeMismatch atom) h = absurd h
check_unknown view c tree (errors.BadLiteral atom) h = absurd h

pub check_fault : (c : List Column) (tree : Tree) (e : CheckError) → unknown_column c tree ≡ None → later_fault c tree ≡ Some e → IsCheck c tree (Err e)
check_fault c tree errors.OutOfMemory u h = tt
check_fault c tree (errors.UnknownColumn atom) u h = ap (λ o. first_of (o ∷ fault c 0 tree ∷ asked c kinds.Boolean 0 (tree ∷ []) ∷ [])) u ∙ h
check_fault c tree (errors.TypeMismatch atom) u h = ap (λ o. first_of (o ∷ fault c 0 tree ∷ asked c kinds.Boolean 0 (tree ∷ []) ∷ [])) u ∙ h
check_fault c tree (errors.BadLiteral atom) u h = ap (λ o. first_of (o ∷ fault c 0 tree ∷ asked c kinds.Boolean 0 (tree ∷ []) ∷ [])) u ∙ h

pub check_memory : (c : List Column) (tree : Tree) (e : CheckError) → e ≡ errors.OutOfMemory → IsCheck c tree (Err e)
check_memory c tree e h = subst (λ x. IsCheck c tree (Err x)) (sym h) tt
