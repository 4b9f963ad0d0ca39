-- The faults of a clause, in their order.
use Rattle.std.specs.Prelude.{ℕ, Bool, not, ◌||◌, List, [], ◌∷◌, if◌then◌else◌, Option, Some, None}
use Rattle.std.specs.List.{list_all}
use Rattle.std.specs.Option.{option_map}
use Rattle.std.specs.Str.{chars}
use Rattle.shape_base.specs.declared.definition.Column.{Column}
use Rattle.pg_values.specs.declared.kind.Kind.{Kind}
use Rattle.pg_values.specs.declared.kind.Kind.TheVariants as kinds
use Rattle.where_grammar.specs.declared.words.IsTest.{IsTest}
use Rattle.where_grammar.specs.declared.words.IsTest.TheVariants as tests
use Rattle.where_grammar.specs.Tree.{Tree, Trees, NoTree, TreeAnd, AnyOf, AllOf, NotOf, IsOf, DistinctOf, Compared, WithinOf, BetweenOf, LikeOf, NameOf, IntOf, QuotedOf, BoolOf, NullOf}
use Rattle.where_eval.specs.declared.faults.CheckError.{CheckError}
use Rattle.where_eval.specs.declared.faults.CheckError.TheVariants.{UnknownColumn, TypeMismatch, BadLiteral}
use Rattle.where_eval.specs.Like.{is_cut}
use Rattle.where_eval.specs.Leaves.{listed, leaves, next, unknown_from}
use Rattle.where_eval.specs.Kinds.{common, is_other, suits, is_bad_literal}

-- the first of these that is a fault
abbrev pub first_of : List (Option CheckError) → Option CheckError
first_of [] = None
first_of (Some fault ∷ others) = Some fault
first_of (None ∷ others) = first_of others

-- the first string among parts that has no value under the kind; the parts' first leaf has number n
abbrev pub bad_literal : Kind → ℕ → List Tree → Option CheckError
bad_literal kind n [] = None
bad_literal kind n (part ∷ parts) = if is_bad_literal kind part then Some (BadLiteral n) else bad_literal kind (next n part) parts

-- a node whose parts may not be compared under the kind, or do not all suit; or else the fault of a string
abbrev pub judged : Kind → Bool → ℕ → Option CheckError → Option CheckError
judged kind all n literal = if is_other kind || not all then Some (TypeMismatch n) else literal

-- a node asks a kind of its parts
abbrev pub asked : List Column → Kind → ℕ → List Tree → Option CheckError
asked c kind n parts = judged kind (list_all (suits c kind) parts) n (bad_literal kind n parts)

-- IS NULL asks nothing of its operand
abbrev pub asked_by_test : List Column → ℕ → Tree → IsTest → Option CheckError
asked_by_test c n t tests.Null = None
asked_by_test c n t tests.True = asked c kinds.Boolean n (t ∷ [])
asked_by_test c n t tests.False = asked c kinds.Boolean n (t ∷ [])
asked_by_test c n t tests.Unknown = asked c kinds.Boolean n (t ∷ [])

-- a pattern of this number ends inside an escape
abbrev pub cut_pattern : ℕ → List ℕ → Option CheckError
cut_pattern n pattern = if is_cut (chars pattern) then Some (BadLiteral n) else None

-- the first faulty node, parts before the whole, left to right; the tree's first leaf has number n
abbrev mutual
  pub fault : List Column → ℕ → Tree → Option CheckError
  fault c n (AnyOf ts) = first_of (faults c n ts ∷ asked c kinds.Boolean n (listed ts) ∷ [])
  fault c n (AllOf ts) = first_of (faults c n ts ∷ asked c kinds.Boolean n (listed ts) ∷ [])
  fault c n (NotOf t) = first_of (fault c n t ∷ asked c kinds.Boolean n (t ∷ []) ∷ [])
  fault c n (IsOf t negated test) = first_of (fault c n t ∷ asked_by_test c n t test ∷ [])
  fault c n (DistinctOf l negated r) = first_of (fault c n l ∷ fault c (next n l) r ∷ asked c (common c (l ∷ r ∷ [])) n (l ∷ r ∷ []) ∷ [])
  fault c n (Compared op l r) = first_of (fault c n l ∷ fault c (next n l) r ∷ asked c (common c (l ∷ r ∷ [])) n (l ∷ r ∷ []) ∷ [])
  fault c n (WithinOf l negated ts) = first_of (fault c n l ∷ faults c (next n l) ts ∷ asked c (common c (l ∷ listed ts)) n (l ∷ listed ts) ∷ [])
  fault c n (BetweenOf l negated low high) = first_of (fault c n l ∷ fault c (next n l) low ∷ fault c (next (next n l) low) high
      ∷ asked c (common c (l ∷ low ∷ high ∷ [])) n (l ∷ low ∷ high ∷ []) ∷ [])
  fault c n (LikeOf l negated pattern) = first_of (fault c n l ∷ asked c kinds.Text n (l ∷ []) ∷ cut_pattern (next n l) pattern ∷ [])
  fault c n (NameOf name) = None
  fault c n (IntOf i) = None
  fault c n (QuotedOf text) = None
  fault c n (BoolOf b) = None
  fault c n NullOf = None

  pub faults : List Column → ℕ → Trees → Option CheckError
  faults c n NoTree = None
  faults c n (TreeAnd t ts) = first_of (fault c n t ∷ faults c (next n t) ts ∷ [])

abbrev pub unknown_column : List Column → Tree → Option CheckError
unknown_column c tree = option_map (λ n. UnknownColumn n) (unknown_from 0 (leaves c tree))

-- The fault of a clause over columns: the least leaf that names no column, then the first faulty node, then the whole, which must be bool.
abbrev pub fault_of : List Column → Tree → Option CheckError
fault_of c tree = first_of (unknown_column c tree ∷ fault c 0 tree ∷ asked c kinds.Boolean 0 (tree ∷ []) ∷ [])
