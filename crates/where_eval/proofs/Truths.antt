-- Laws of three-valued truth.
use Rattle.std.proofs.Common.{◌≡◌, ◌≢◌, Bool, true, false, List, [], ◌∷◌, map, Option, Some, refl, sym, ap, ◌∙◌, if◌then◌else◌, ◌||◌}
use Rattle.std.specs.List.{list_any}
use Rattle.shape_base.specs.declared.definition.Column.{Column}
use Rattle.shape_base.specs.declared.truth.Tri.{Tri}
use Rattle.shape_base.specs.declared.truth.Tri.TheVariants.{True, False, Unknown}
use Rattle.shape_base.specs.Tables.{Values}
use Rattle.pg_values.specs.declared.kind.Kind.{Kind}
use Rattle.pg_values.specs.declared.kind.Kind.TheVariants as kinds
use Rattle.where_lexer.specs.declared.token.CmpOp.{CmpOp}
use Rattle.where_lexer.specs.declared.token.CmpOp.TheVariants.{Eq, Ge, Le}
use Rattle.where_grammar.specs.Tree.{Tree, Trees, NoTree, TreeAnd, AnyOf, AllOf, Compared, WithinOf, BetweenOf}
use Rattle.where_eval.specs.Logic.{of_bool, is_true, is_false, is_unknown, not_of, all_of, any_of, negated}
use Rattle.where_eval.specs.Scalars.{Scalar, tri_of, of_tri, compared}
use Rattle.where_eval.specs.Leaves.{listed}
use Rattle.where_eval.specs.Kinds.{kind_of_part, common, or_kind}
use Rattle.where_eval.specs.Truth.{value_of, values_of, truth_in}
use Rattle.where_eval.specs.Laws.{equalities}

-- a truth as a value and back
pub there_and_back : (t : Tri) → tri_of (of_tri t) ≡ t
there_and_back True = refl
there_and_back False = refl
there_and_back Unknown = refl

not_false : (t : Tri) → is_false (not_of t) ≡ is_true t
not_false True = refl
not_false False = refl
not_false Unknown = refl

not_true : (t : Tri) → is_true (not_of t) ≡ is_false t
not_true True = refl
not_true False = refl
not_true Unknown = refl

not_unknown : (t : Tri) → is_unknown (not_of t) ≡ is_unknown t
not_unknown True = refl
not_unknown False = refl
not_unknown Unknown = refl

any_map : (f g : Tri → Bool) → ((t : Tri) → f (not_of t) ≡ g t) → (ts : List Tri) → list_any f (map not_of ts) ≡ list_any g ts
any_map f g h [] = refl
any_map f g h (t ∷ ts) = ap (λ b. b || list_any f (map not_of ts)) (h t) ∙ ap (λ b. g t || b) (any_map f g h ts)

not_picked : (a b : Bool) → not_of (if a then False else if b then Unknown else True) ≡ (if a then True else if b then Unknown else False)
not_picked true b = refl
not_picked false true = refl
not_picked false false = refl

not_picked_ : (a b : Bool) → not_of (if a then True else if b then Unknown else False) ≡ (if a then False else if b then Unknown else True)
not_picked_ true b = refl
not_picked_ false true = refl
not_picked_ false false = refl

pub not_all : (ts : List Tri) → not_of (all_of ts) ≡ any_of (map not_of ts)
not_all ts = not_picked (list_any is_false ts) (list_any is_unknown ts)
    ∙ (ap (λ a. if a then True else if list_any is_unknown ts then Unknown else False) (sym (any_map is_true is_false not_true ts))
    ∙ ap (λ b. if list_any is_true (map not_of ts) then True else if b then Unknown else False) (sym (any_map is_unknown is_unknown not_unknown ts)))

pub not_any : (ts : List Tri) → not_of (any_of ts) ≡ all_of (map not_of ts)
not_any ts = not_picked_ (list_any is_true ts) (list_any is_unknown ts)
    ∙ (ap (λ a. if a then False else if list_any is_unknown ts then Unknown else True) (sym (any_map is_false is_true not_false ts))
    ∙ ap (λ b. if list_any is_false (map not_of ts) then False else if b then Unknown else True) (sym (any_map is_unknown is_unknown not_unknown ts)))

pub known : (neg b : Bool) → tri_of (of_tri (negated neg (of_bool b))) ≢ Unknown
known true true h = absurd (cc)
known true false h = absurd (cc)
known false true h = absurd (cc)
known false false h = absurd (cc)

-- the negation of a form
pub negation : (t : Tri) → tri_of (of_tri (negated true t)) ≡ tri_of (of_tri (not_of (tri_of (of_tri (negated false t)))))
negation True = refl
negation False = refl
negation Unknown = refl

pub not_unknown_is : (v : Option Scalar) → tri_of v ≡ Unknown → tri_of (of_tri (not_of (tri_of v))) ≡ Unknown
not_unknown_is v h = ap (λ t. tri_of (of_tri (not_of t))) h

-- the kind of a part that has one
pub kind_first : (c : List Column) (l : Tree) (others : List Tree) (kind : Kind) → kind_of_part c l ≡ Some kind → common c (l ∷ others) ≡ kind
kind_first c l others kind h = ap (λ k. or_kind k (common c others)) h

one_compared : (c : List Column) (row : Values) (op : CmpOp) (l t : Tree) (kind : Kind) → kind_of_part c l ≡ Some kind → tri_of (value_of c row kinds.Boolean (Compared op l t)) ≡ compared op (value_of c row kind l) (value_of c row kind t)
one_compared c row op l t kind h = ap (λ k. tri_of (of_tri (compared op (value_of c row k l) (value_of c row k t)))) (kind_first c l (t ∷ []) kind h) ∙ there_and_back (compared op (value_of c row kind l) (value_of c row kind t))

each_compared : (c : List Column) (row : Values) (l : Tree) (ts : Trees) (kind : Kind) → kind_of_part c l ≡ Some kind → map (compared Eq (value_of c row kind l)) (values_of c row kind ts) ≡ map tri_of (values_of c row kinds.Boolean (equalities l ts))
each_compared c row l NoTree kind h = refl
each_compared c row l (TreeAnd t ts) kind h =
    ap (λ u. u ∷ map (compared Eq (value_of c row kind l)) (values_of c row kind ts)) (sym (one_compared c row Eq l t kind h))
    ∙ ap (λ us. tri_of (value_of c row kinds.Boolean (Compared Eq l t)) ∷ us) (each_compared c row l ts kind h)

pub within_is_or : (c : List Column) (row : Values) (l : Tree) (ts : Trees) (kind : Kind) → kind_of_part c l ≡ Some kind → truth_in c row (WithinOf l false ts) ≡ truth_in c row (AnyOf (equalities l ts))
within_is_or c row l ts kind h =
    ap (λ k. tri_of (of_tri (any_of (map (compared Eq (value_of c row k l)) (values_of c row k ts))))) (kind_first c l (listed ts) kind h)
    ∙ ap (λ us. tri_of (of_tri (any_of us))) (each_compared c row l ts kind h)

pub between_is_and : (c : List Column) (row : Values) (l low high : Tree) (kind : Kind) → kind_of_part c l ≡ Some kind → truth_in c row (BetweenOf l false low high) ≡ truth_in c row (AllOf (TreeAnd (Compared Ge l low) (TreeAnd (Compared Le l high) NoTree)))
between_is_and c row l low high kind h =
    ap (λ k. tri_of (of_tri (all_of (compared Ge (value_of c row k l) (value_of c row k low) ∷ compared Le (value_of c row k l) (value_of c row k high) ∷ [])))) (kind_first c l (low ∷ high ∷ []) kind h)
    ∙ (ap (λ u. tri_of (of_tri (all_of (u ∷ compared Le (value_of c row kind l) (value_of c row kind high) ∷ [])))) (sym (one_compared c row Ge l low kind h))
    ∙ ap (λ u. tri_of (of_tri (all_of (tri_of (value_of c row kinds.Boolean (Compared Ge l low)) ∷ u ∷ [])))) (sym (one_compared c row Le l high kind h)))
