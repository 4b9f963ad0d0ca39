-- Loops over chains: what is left gives the same answer.
use Rattle.std.proofs.Common.{◌≡◌, List, [], ◌∷◌, ◌++◌, map, Option, refl, sym, ap, ◌∙◌, append_assoc}
use Rattle.shape_base.specs.declared.truth.Tri.{Tri}
use Rattle.shape_base.specs.declared.truth.Tri.TheVariants.{True, False, Unknown}
use Rattle.shape_base.specs.declared.definition.Column.{Column}
use Rattle.where_grammar.specs.Tree.{Tree, Trees, TreeAnd}
use Rattle.where_eval.specs.declared.leaves.Leaf.{Leaf}
use Rattle.where_eval.specs.Logic.{any_of, all_of, or_of, and_of}
use Rattle.where_eval.specs.Scalars.{Scalar}
use Rattle.where_eval.specs.Leaves.{leaves, all_leaves}

pub or_step : (a b : Tri) (ts : List Tri) → any_of (or_of a b ∷ ts) ≡ any_of (a ∷ b ∷ ts)
or_step True b ts = refl
or_step False True ts = refl
or_step False False ts = refl
or_step False Unknown ts = refl
or_step Unknown True ts = refl
or_step Unknown False ts = refl
or_step Unknown Unknown ts = refl

pub and_step : (a b : Tri) (ts : List Tri) → all_of (and_of a b ∷ ts) ≡ all_of (a ∷ b ∷ ts)
and_step False b ts = refl
and_step True True ts = refl
and_step True False ts = refl
and_step True Unknown ts = refl
and_step Unknown True ts = refl
and_step Unknown False ts = refl
and_step Unknown Unknown ts = refl

pub or_alone : (a : Tri) → any_of (a ∷ []) ≡ a
or_alone True = refl
or_alone False = refl
or_alone Unknown = refl

pub and_alone : (a : Tri) → all_of (a ∷ []) ≡ a
and_alone True = refl
and_alone False = refl
and_alone Unknown = refl

-- two members, as by AND of two
pub and_pair : (a b : Tri) → and_of a b ≡ all_of (a ∷ b ∷ [])
and_pair False b = refl
and_pair True True = refl
and_pair True False = refl
and_pair True Unknown = refl
and_pair Unknown True = refl
and_pair Unknown False = refl
and_pair Unknown Unknown = refl

-- the next member
pub any_next : (f : Option Scalar → Tri) (found after : Tri) (x : Option Scalar) (xs ys : List (Option Scalar)) (goal : Tri) → any_of (found ∷ map f ys) ≡ goal → ys ≡ x ∷ xs → after ≡ or_of found (f x) → any_of (after ∷ map f xs) ≡ goal
any_next f found after x xs ys goal i cut is = ap (λ a. any_of (a ∷ map f xs)) is ∙ (or_step found (f x) (map f xs) ∙ (ap (λ zs. any_of (found ∷ map f zs)) (sym cut) ∙ i))

pub all_next : (f : Option Scalar → Tri) (found after : Tri) (x : Option Scalar) (xs ys : List (Option Scalar)) (goal : Tri) → all_of (found ∷ map f ys) ≡ goal → ys ≡ x ∷ xs → after ≡ and_of found (f x) → all_of (after ∷ map f xs) ≡ goal
all_next f found after x xs ys goal i cut is = ap (λ a. all_of (a ∷ map f xs)) is ∙ (and_step found (f x) (map f xs) ∙ (ap (λ zs. all_of (found ∷ map f zs)) (sym cut) ∙ i))

-- the next leaves
pub leaves_next : {start : List Leaf} (c : List Column) (before after : List Leaf) (left : Trees) (e : Tree) (rest : Trees) → before ++ all_leaves c left ≡ start → left ≡ TreeAnd e rest → after ≡ before ++ leaves c e → after ++ all_leaves c rest ≡ start
leaves_next c before after left e rest i cut is =
    ap (λ u. u ++ all_leaves c rest) is ∙ (append_assoc before (leaves c e) (all_leaves c rest) ∙ (ap (λ ts. before ++ all_leaves c ts) (sym cut) ∙ i))
