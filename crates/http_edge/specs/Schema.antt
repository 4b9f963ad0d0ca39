-- The schema line of a reply: the selected columns with the OIDs of their types.
use Rattle.std.specs.Prelude.{ℕ, List, [], ◌∷◌, ◌++◌, map, decimal, slice_index_or}
use Rattle.std.specs.List.{flat_map}
use Rattle.form_urlencoded.specs.Form.{byte_serialize}
use Rattle.shape_base.specs.declared.definition.Column.{Column}
use Rattle.shape_base.specs.Shape.{Knows}

-- name:oid, the name as a web form has it
abbrev pub column_text : Column → List ℕ
column_text c = byte_serialize c.name ++ 58 ∷ decimal c.oid

abbrev pub columns_text : List Column → List ℕ
columns_text [] = []
columns_text (c ∷ cs) = column_text c ++ flat_map (λ d. 44 ∷ column_text d) cs

-- the selected columns, in the definition's order
abbrev pub selected_columns : Knows → List Column
selected_columns s = map (λ place. slice_index_or s.definition.columns place (record { name = []; oid = 0 })) s.selected

-- The selected columns, joined by commas.
unfoldable pub schema_text : Knows → List ℕ
schema_text s = columns_text (selected_columns s)
