-- What looking for faults among members must answer.
use Rattle.std.specs.Prelude.{◌≡◌, ℕ, List, Result, Ok, Err, Some, None}
use Rattle.shape_base.specs.declared.definition.Column.{Column}
use Rattle.pg_values.specs.declared.kind.Kind.{Kind}
use Rattle.where_grammar.specs.Tree.{Trees}
use Rattle.where_eval.specs.declared.faults.CheckError.{CheckError}
use Rattle.where_eval.specs.declared.typing.Clean.{Clean}
use Rattle.where_eval.specs.Leaves.{listed, next_all}
use Rattle.where_eval.specs.Faults.{faults, bad_literal}
use Rattle.where_eval.specs.Passing.{literal_at}

-- no member has a faulty node; the next leaf's number; and the first bad literal among them
pub record IsWalked (members : Clean) (c : List Column) (kind : Kind) (n : ℕ) (ts : Trees) : Type 0 where
  pub clean : faults c n ts ≡ None
  pub behind : members.next ≡ next_all n ts
  pub literal : bad_literal kind n (listed ts) ≡ literal_at members.bad

abbrev pub AreMembers : Result Clean CheckError → List Column → Kind → ℕ → Trees → Type 0
AreMembers (Ok members) c kind n ts = IsWalked members c kind n ts
AreMembers (Err error) c kind n ts = faults c n ts ≡ Some error
