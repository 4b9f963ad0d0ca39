-- The loop that looks for faults among members.
use Rattle.std.proofs.Common.{◌≡◌, ℕ, List, [], ◌∷◌, Option, Some, None, refl, sym, ap, ◌∙◌}
use Rattle.shape_base.specs.declared.definition.Column.{Column}
use Rattle.pg_values.specs.declared.kind.Kind.{Kind}
use Rattle.where_grammar.specs.Tree.{Tree, Trees, NoTree, TreeAnd}
use Rattle.where_eval.specs.declared.faults.CheckError.{CheckError}
use Rattle.where_eval.specs.declared.typing.Clean.{Clean}
use Rattle.where_eval.specs.Leaves.{listed, next, next_all}
use Rattle.where_eval.specs.Kinds.{is_bad_literal}
use Rattle.where_eval.specs.Faults.{first_of, fault, faults, bad_literal}
use Rattle.where_eval.specs.Passing.{literal_at, literal_or, literal_if}
use Rattle.where_eval.specs.MemberFaults.{IsWalked}

first_one : (o : Option CheckError) → first_of (o ∷ []) ≡ o
first_one None = refl
first_one (Some e) = refl

pub faults_next : {goal : Option CheckError} (c : List Column) (n m : ℕ) (left : Trees) (e : Tree) (rest : Trees) → faults c n left ≡ goal → left ≡ TreeAnd e rest → fault c n e ≡ None → m ≡ next n e → faults c m rest ≡ goal
faults_next c n m left e rest i cut clean step =
    ap (λ j. faults c j rest) step ∙ (sym (first_one (faults c (next n e) rest)) ∙ (ap (λ o. first_of (o ∷ faults c (next n e) rest ∷ [])) (sym clean) ∙ (ap (faults c n) (sym cut) ∙ i)))

pub next_next : {goal : ℕ} (n m : ℕ) (left : Trees) (e : Tree) (rest : Trees) → next_all n left ≡ goal → left ≡ TreeAnd e rest → m ≡ next n e → next_all m rest ≡ goal
next_next n m left e rest i cut step = ap (λ j. next_all j rest) step ∙ (ap (next_all n) (sym cut) ∙ i)

pub literal_next : {goal : Option CheckError} (k : Kind) (n m : ℕ) (bad after : Option ℕ) (left : Trees) (e : Tree) (rest : Trees) → literal_or bad (bad_literal k n (listed left)) ≡ goal → left ≡ TreeAnd e rest
    → ((other : Option CheckError) → literal_or after other ≡ literal_or bad (literal_if (is_bad_literal k e) n other)) → m ≡ next n e → literal_or after (bad_literal k m (listed rest)) ≡ goal
literal_next k n m bad after left e rest i cut is step =
    ap (λ j. literal_or after (bad_literal k j (listed rest))) step ∙ (is (bad_literal k (next n e) (listed rest)) ∙ (ap (λ ts. literal_or bad (bad_literal k n (listed ts))) (sym cut) ∙ i))

pub member_fails : {goal : Option CheckError} (c : List Column) (n : ℕ) (left : Trees) (e : Tree) (rest : Trees) (error : CheckError) → faults c n left ≡ goal → left ≡ TreeAnd e rest → fault c n e ≡ Some error → goal ≡ Some error
member_fails c n left e rest error i cut found = sym i ∙ (ap (faults c n) cut ∙ ap (λ o. first_of (o ∷ faults c (next n e) rest ∷ [])) found)

no_more : (bad : Option ℕ) → literal_or bad None ≡ literal_at bad
no_more None = refl
no_more (Some n) = refl

pub members_end : (members : Clean) (c : List Column) (k : Kind) (n : ℕ) (list left : Trees) → faults c members.next left ≡ faults c n list → next_all members.next left ≡ next_all n list → literal_or members.bad (bad_literal k members.next (listed left)) ≡ bad_literal k n (listed list) → left ≡ NoTree → IsWalked members c k n list
members_end members c k n list left f g h end = record {
  clean = sym f ∙ ap (faults c members.next) end;
  behind = sym (sym g ∙ ap (next_all members.next) end);
  literal = sym h ∙ (ap (λ ts. literal_or members.bad (bad_literal k members.next (listed ts))) end ∙ no_more members.bad);
}
