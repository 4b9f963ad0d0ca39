-- A plan of each form has the meaning of its tree where its parts have.
use Rattle.std.proofs.Common.{◌≡◌, ℕ, Bool, List, [], ◌∷◌, ◌++◌, map, Option, refl, sym, ap, ◌∙◌, append_assoc}
use Rattle.std.specs.Str.{chars}
use Rattle.shape_base.specs.declared.definition.Column.{Column}
use Rattle.shape_base.specs.Tables.{Values}
use Rattle.pg_values.specs.declared.kind.Kind.{Kind}
use Rattle.pg_values.specs.declared.kind.Kind.TheVariants as kinds
use Rattle.where_lexer.specs.declared.token.CmpOp.{CmpOp}
use Rattle.where_lexer.specs.declared.token.CmpOp.TheVariants as ops
use Rattle.where_grammar.specs.declared.words.IsTest.{IsTest}
use Rattle.where_grammar.specs.Tree.{Tree, Trees, TreeAnd, AnyOf, AllOf, NotOf, IsOf, DistinctOf, Compared, WithinOf, BetweenOf, LikeOf}
use Rattle.where_eval.specs.declared.like.Piece.{Piece}
use Rattle.where_eval.specs.declared.plan.Plan as plans
use Rattle.where_eval.specs.declared.plan.Plans as chains
use Rattle.where_eval.specs.Logic.{of_bool, not_of, all_of, any_of, negated}
use Rattle.where_eval.specs.Like.{pieces_of}
use Rattle.where_eval.specs.Scalars.{Scalar, tri_of, of_tri, compared, is_distinct, passes, fits_scalar}
use Rattle.where_eval.specs.Leaves.{listed}
use Rattle.where_eval.specs.Kinds.{common}
use Rattle.where_eval.specs.Truth.{value_of, values_of, kind_of_test}
use Rattle.where_eval.specs.Plans.{meaning, meanings}
use Rattle.where_eval.specs.Compiled.{Compiles, AllCompile}

abbrev pub Plan : Type 0
Plan = plans.Plan

pub compiled_any : (c : List Column) (k : Kind) (plan : Plan) (tree : Tree) (ps : chains.Plans) (ts : Trees) → ((row : Values) → meaning plan row ≡ of_tri (any_of (map tri_of (meanings ps row)))) → AllCompile c kinds.Boolean ps ts → tree ≡ AnyOf ts → Compiles c k plan tree
compiled_any c k plan tree ps ts p a e = record { means = λ row. p row ∙ (ap (λ vs. of_tri (any_of (map tri_of vs))) (a.means row) ∙ ap (value_of c row k) (sym e)) }

pub compiled_all : (c : List Column) (k : Kind) (plan : Plan) (tree : Tree) (ps : chains.Plans) (ts : Trees) → ((row : Values) → meaning plan row ≡ of_tri (all_of (map tri_of (meanings ps row)))) → AllCompile c kinds.Boolean ps ts → tree ≡ AllOf ts → Compiles c k plan tree
compiled_all c k plan tree ps ts p a e = record { means = λ row. p row ∙ (ap (λ vs. of_tri (all_of (map tri_of vs))) (a.means row) ∙ ap (value_of c row k) (sym e)) }

pub compiled_not : (c : List Column) (k : Kind) (plan : Plan) (tree : Tree) (t : Plan) (u : Tree) → ((row : Values) → meaning plan row ≡ of_tri (not_of (tri_of (meaning t row)))) → Compiles c kinds.Boolean t u → tree ≡ NotOf u → Compiles c k plan tree
compiled_not c k plan tree t u p a e = record { means = λ row. p row ∙ (ap (λ v. of_tri (not_of (tri_of v))) (a.means row) ∙ ap (value_of c row k) (sym e)) }

pub compiled_is : (c : List Column) (k asked : Kind) (plan : Plan) (tree : Tree) (neg : Bool) (test : IsTest) (t : Plan) (u : Tree) → ((row : Values) → meaning plan row ≡ of_tri (negated neg (of_bool (passes test (meaning t row))))) → asked ≡ kind_of_test test → Compiles c asked t u → tree ≡ IsOf u neg test → Compiles c k plan tree
compiled_is c k asked plan tree neg test t u p q a e = record { means = λ row. p row ∙ (ap (λ v. of_tri (negated neg (of_bool (passes test v)))) (a.means row ∙ ap (λ j. value_of c row j u) q) ∙ ap (value_of c row k) (sym e)) }

-- the values of two parts under one kind
two : {A : Type 0} (f : Option Scalar → Option Scalar → A) (a b d e : Option Scalar) → a ≡ d → b ≡ e → f a b ≡ f d e
two f a b d e p q = ap (λ v. f v b) p ∙ ap (f d) q

pub compiled_distinct : (c : List Column) (k asked : Kind) (plan : Plan) (tree : Tree) (neg : Bool) (l r : Plan) (lt rt : Tree) → ((row : Values) → meaning plan row ≡ of_tri (negated neg (of_bool (is_distinct (meaning l row) (meaning r row))))) → asked ≡ common c (lt ∷ rt ∷ []) → Compiles c asked l lt → Compiles c asked r rt → tree ≡ DistinctOf lt neg rt → Compiles c k plan tree
compiled_distinct c k asked plan tree neg l r lt rt p q a b e = record {
  means = λ row. p row ∙ (two (λ v w. of_tri (negated neg (of_bool (is_distinct v w)))) (meaning l row) (meaning r row) (value_of c row (common c (lt ∷ rt ∷ [])) lt) (value_of c row (common c (lt ∷ rt ∷ [])) rt)
      (a.means row ∙ ap (λ j. value_of c row j lt) q) (b.means row ∙ ap (λ j. value_of c row j rt) q) ∙ ap (value_of c row k) (sym e));
}

pub compiled_cmp : (c : List Column) (k asked : Kind) (plan : Plan) (tree : Tree) (op : CmpOp) (l r : Plan) (lt rt : Tree) → ((row : Values) → meaning plan row ≡ of_tri (compared op (meaning l row) (meaning r row))) → asked ≡ common c (lt ∷ rt ∷ []) → Compiles c asked l lt → Compiles c asked r rt → tree ≡ Compared op lt rt → Compiles c k plan tree
compiled_cmp c k asked plan tree op l r lt rt p q a b e = record {
  means = λ row. p row ∙ (two (λ v w. of_tri (compared op v w)) (meaning l row) (meaning r row) (value_of c row (common c (lt ∷ rt ∷ [])) lt) (value_of c row (common c (lt ∷ rt ∷ [])) rt)
      (a.means row ∙ ap (λ j. value_of c row j lt) q) (b.means row ∙ ap (λ j. value_of c row j rt) q) ∙ ap (value_of c row k) (sym e));
}

pub compiled_within : (c : List Column) (k asked : Kind) (plan : Plan) (tree : Tree) (neg : Bool) (l : Plan) (ps : chains.Plans) (lt : Tree) (ts : Trees) → ((row : Values) → meaning plan row ≡ of_tri (negated neg (any_of (map (compared ops.Eq (meaning l row)) (meanings ps row))))) → asked ≡ common c (lt ∷ listed ts) → Compiles c asked l lt → AllCompile c asked ps ts → tree ≡ WithinOf lt neg ts → Compiles c k plan tree
compiled_within c k asked plan tree neg l ps lt ts p q a b e = record {
  means = λ row. p row
      ∙ (ap (λ v. of_tri (negated neg (any_of (map (compared ops.Eq v) (meanings ps row))))) (a.means row ∙ ap (λ j. value_of c row j lt) q)
      ∙ (ap (λ vs. of_tri (negated neg (any_of (map (compared ops.Eq (value_of c row (common c (lt ∷ listed ts)) lt)) vs)))) (b.means row ∙ ap (λ j. values_of c row j ts) q)
      ∙ ap (value_of c row k) (sym e)));
}

three : {A : Type 0} (f : Option Scalar → Option Scalar → Option Scalar → A) (a b d x y z : Option Scalar) → a ≡ x → b ≡ y → d ≡ z → f a b d ≡ f x y z
three f a b d x y z p q r = ap (λ v. f v b d) p ∙ (ap (λ v. f x v d) q ∙ ap (f x y) r)

pub compiled_between : (c : List Column) (k asked : Kind) (plan : Plan) (tree : Tree) (neg : Bool) (l low high : Plan) (lt lowt hight : Tree) → ((row : Values) → meaning plan row ≡ of_tri (negated neg (all_of (compared ops.Ge (meaning l row) (meaning low row) ∷ compared ops.Le (meaning l row) (meaning high row) ∷ [])))) → asked ≡ common c (lt ∷ lowt ∷ hight ∷ []) → Compiles c asked l lt → Compiles c asked low lowt → Compiles c asked high hight → tree ≡ BetweenOf lt neg lowt hight → Compiles c k plan tree
compiled_between c k asked plan tree neg l low high lt lowt hight p q a b d e = record {
  means = λ row. p row
      ∙ (three (λ v w u. of_tri (negated neg (all_of (compared ops.Ge v w ∷ compared ops.Le v u ∷ [])))) (meaning l row) (meaning low row) (meaning high row)
      (value_of c row (common c (lt ∷ lowt ∷ hight ∷ [])) lt) (value_of c row (common c (lt ∷ lowt ∷ hight ∷ [])) lowt) (value_of c row (common c (lt ∷ lowt ∷ hight ∷ [])) hight)
      (a.means row ∙ ap (λ j. value_of c row j lt) q) (b.means row ∙ ap (λ j. value_of c row j lowt) q) (d.means row ∙ ap (λ j. value_of c row j hight) q)
      ∙ ap (value_of c row k) (sym e));
}

pub compiled_like : (c : List Column) (k : Kind) (plan : Plan) (tree : Tree) (neg : Bool) (pieces : List Piece) (pattern : List ℕ) (l : Plan) (lt : Tree) → ((row : Values) → meaning plan row ≡ of_tri (negated neg (fits_scalar pieces (meaning l row)))) → pieces ≡ pieces_of (chars pattern) → Compiles c kinds.Text l lt → tree ≡ LikeOf lt neg pattern → Compiles c k plan tree
compiled_like c k plan tree neg pieces pattern l lt p q a e = record {
  means = λ row. p row
      ∙ (ap (λ ps. of_tri (negated neg (fits_scalar ps (meaning l row)))) q ∙ (ap (λ v. of_tri (negated neg (fits_scalar (pieces_of (chars pattern)) v))) (a.means row) ∙ ap (value_of c row k) (sym e)));
}

-- a leaf
pub compiled_leaf : (c : List Column) (k : Kind) (plan : Plan) (tree leaf : Tree) → ((row : Values) → meaning plan row ≡ value_of c row k leaf) → tree ≡ leaf → Compiles c k plan tree
compiled_leaf c k plan tree leaf p e = record { means = λ row. p row ∙ ap (value_of c row k) (sym e) }

pub compiled_same : (c : List Column) (k : Kind) (plan : Plan) (tree other : Tree) → Compiles c k plan other → tree ≡ other → Compiles c k plan tree
compiled_same c k plan tree other p e = record { means = λ row. p.means row ∙ ap (value_of c row k) (sym e) }

map_more : (row : Values) (xs : List Plan) (x : Plan) → map (λ p. meaning p row) (xs ++ x ∷ []) ≡ map (λ p. meaning p row) xs ++ meaning x row ∷ []
map_more row [] x = refl
map_more row (y ∷ ys) x = ap (λ vs. meaning y row ∷ vs) (map_more row ys x)

-- one more member of a list
pub member_next : {goal : List (Option Scalar)} (c : List Column) (k : Kind) (row : Values) (before after : List Plan) (x : Plan) (left rest : Trees) (e : Tree) → map (λ p. meaning p row) before ++ values_of c row k left ≡ goal → left ≡ TreeAnd e rest → after ≡ before ++ x ∷ [] → Compiles c k x e → map (λ p. meaning p row) after ++ values_of c row k rest ≡ goal
member_next c k row before after x left rest e i cut is a =
    ap (λ ps. map (λ p. meaning p row) ps ++ values_of c row k rest) is
    ∙ (ap (λ vs. vs ++ values_of c row k rest) (map_more row before x)
    ∙ (append_assoc (map (λ p. meaning p row) before) (meaning x row ∷ []) (values_of c row k rest)
    ∙ (ap (λ v. map (λ p. meaning p row) before ++ v ∷ values_of c row k rest) (a.means row)
    ∙ (ap (λ ts. map (λ p. meaning p row) before ++ values_of c row k ts) (sym cut) ∙ i))))

-- one member from the end comes into the chain
pub chain_next : {goal : List (Option Scalar)} (row : Values) (before after : List Plan) (x : Plan) (rest more : List (Option Scalar)) → map (λ p. meaning p row) before ++ rest ≡ goal → before ≡ after ++ x ∷ [] → more ≡ meaning x row ∷ rest → map (λ p. meaning p row) after ++ more ≡ goal
chain_next row before after x rest more i cut is =
    ap (λ vs. map (λ p. meaning p row) after ++ vs) is
    ∙ (sym (append_assoc (map (λ p. meaning p row) after) (meaning x row ∷ []) rest)
    ∙ (ap (λ vs. vs ++ rest) (sym (map_more row after x))
    ∙ (ap (λ ps. map (λ p. meaning p row) ps ++ rest) (sym cut) ∙ i)))
