-- The text that tells shapes apart.
use Rattle.std.specs.Prelude.{◌≡◌, ◌↔◌, ℕ, List, [], ◌∷◌, ◌++◌, Option, None, Some, codes}
use Rattle.std.specs.List.{list_any, flat_map}
use Rattle.std.specs.Ordering.{nat_cmp}
use Rattle.std.specs.Cmp.Lexicographic.{slice_cmp}
use Rattle.std.specs.BTreeSet.{insert_key}
use Rattle.shape_base.specs.Tables.{same_text}
use Rattle.shape_base.specs.Shape.{quoted}

-- a list of names
abbrev pub Names : Type 0
Names = List (List ℕ)

-- what a shape is of: a table, the names of the chosen columns, and a clause
pub record Shape : Type 0 where
  pub ns : List ℕ
  pub name : List ℕ
  pub columns : Option Names
  pub clause : Option (List ℕ)

-- the names in byte order, each once
abbrev pub in_order : Names → Names
in_order [] = []
in_order (name ∷ names) = insert_key (slice_cmp nat_cmp) (in_order names) name

-- each in quotes, with a comma before it
abbrev pub behind_commas : Names → List ℕ
behind_commas = flat_map (λ name. 44 ∷ quoted name)

-- in quotes, joined by commas
abbrev pub joined : Names → List ℕ
joined [] = []
joined (name ∷ names) = quoted name ++ behind_commas names

abbrev pub columns_part : Option Names → List ℕ
columns_part None = []
columns_part (Some names) = codes " columns " ++ joined (in_order names)

abbrev pub clause_part : Option (List ℕ) → List ℕ
clause_part None = []
clause_part (Some clause) = codes " where " ++ clause

-- "ns"."table" columns "a","b" where clause
abbrev pub identity : Shape → List ℕ
identity s = quoted s.ns ++ 46 ∷ quoted s.name ++ columns_part s.columns ++ clause_part s.clause

-- one set of names
abbrev pub IsSameSet : Names → Names → Type 0
IsSameSet xs ys = (name : List ℕ) → list_any (same_text name) xs ≡ list_any (same_text name) ys

-- both absent, or one set of names
abbrev pub IsSameChoice : Option Names → Option Names → Type 0
IsSameChoice None None = Unit {0}
IsSameChoice None (Some ys) = ⊥
IsSameChoice (Some xs) None = ⊥
IsSameChoice (Some xs) (Some ys) = IsSameSet xs ys

-- the same table by its names, the same set of columns, and the same clause
pub record IsSameShape (a b : Shape) : Type 0 where
  pub ns : a.ns ≡ b.ns
  pub name : a.name ≡ b.name
  pub columns : IsSameChoice a.columns b.columns
  pub clause : a.clause ≡ b.clause

-- Two texts are equal exactly where the shapes are the same.
abbrev pub IdentitiesTell : Type 0
IdentitiesTell = (a b : Shape) → (identity a ≡ identity b) ↔ IsSameShape a b
