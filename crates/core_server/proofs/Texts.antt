-- The texts of columns.
use Rattle.std.proofs.Common.{◌≡◌, ℕ, zero, suc, List, [], ◌∷◌, ◌++◌, length, refl, ap, sym, ◌∙◌, None}
use Rattle.std.specs.Prelude.{map, slice_index_or}
use Rattle.std.specs.List.{slice_get, flat_map}
use Rattle.std.proofs.lemmas.List.{nil_from_length}
use Rattle.std.proofs.lemmas.List.Folds.{flat_map-map}
use Rattle.shape_base.specs.declared.definition.Column.{Column}
use Rattle.shape_base.specs.Shape.{Knows}
use Rattle.http_edge.specs.Schema.{column_text, columns_text, schema_text}
use Rattle.core_server.specs.Columns.{column_in}

-- a column of no type
abbrev pub column_with : List ℕ → Column
column_with name = record { name = name; oid = 0 }

none_in : (columns : List Column) (i : ℕ) (d : Column) → slice_get columns i ≡ None → slice_index_or columns i d ≡ d
none_in [] i d h = refl
none_in (c ∷ cs) zero d h = cc
none_in (c ∷ cs) (suc i) d h = none_in cs i d h

-- past the columns there is one without a name
pub no_column : (columns : List Column) (i : ℕ) → None ≡ slice_get columns i → column_in columns i ≡ record { name = []; oid = 0 }
no_column columns i h = none_in columns i (record { name = []; oid = 0 }) (sym h)

pub nameless : (columns : List Column) (i : ℕ) (name : List ℕ) → name ≡ [] → None ≡ slice_get columns i → column_with name ≡ column_in columns i
nameless columns i name e h = ap column_with e ∙ sym (no_column columns i h)

-- no places
pub columns_none : (columns : List Column) (places : List ℕ) → length places ≡ 0 → [] ≡ columns_text (map (column_in columns) places)
columns_none columns places h = ap (λ ps. columns_text (map (column_in columns) ps)) (sym (nil_from_length places h))

-- the first column, and then each behind a comma
pub columns_is : (columns : List Column) (first : ℕ) (rest : List ℕ)
    → columns_text (map (column_in columns) (first ∷ rest)) ≡ column_text (column_in columns first) ++ flat_map (λ place. 44 ∷ column_text (column_in columns place)) rest
columns_is columns first rest = ap (λ text. column_text (column_in columns first) ++ text) (flat_map-map (λ d. 44 ∷ column_text d) (column_in columns) rest)

-- the schema line of what a shape knows
pub schema_is : (s : Knows) → columns_text (map (column_in s.definition.columns) s.selected) ≡ schema_text s
unfolding schema_text
schema_is s = refl
