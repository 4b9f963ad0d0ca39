-- How rows are stored where a contract speaks of them.
use Rattle.std.specs.Prelude.{ℕ, List, Option, None, Some, refl, ◌≡◌}
use Rattle.std.specs.Coded.{Coded, code_by, coded×, coded_ℕ, coded_list, coded_option}
use Rattle.std.specs.FinMap as fin
use Rattle.shape_base.specs.declared.value.Value.{Value}
use Rattle.shape_base.specs.declared.value.Value.TheVariants.{Null, Words}
use Rattle.shape_base.specs.declared.entry.Cell.{Cell}
use Rattle.shape_base.specs.Shape.{Map}

abbrev pub words_in : Value → Option (List ℕ)
words_in Null = None
words_in (Words text) = Some text

abbrev pub value_from : Option (List ℕ) → Value
value_from None = Null
value_from (Some text) = Words text

pub same_value : (v : Value) → value_from (words_in v) ≡ v
same_value Null = refl
same_value (Words text) = refl

abbrev pub value_code : Coded Value
value_code = code_by (Option (List ℕ)) (coded_option (coded_list coded_ℕ)) words_in value_from same_value

abbrev pub cell_code : Coded Cell
cell_code = code_by (List ℕ × Value) (coded× (coded_list coded_ℕ) value_code) (λ c. (c.name, c.value)) (λ x. record { name = x.0; value = x.1 }) (λ _. refl)

abbrev pub rows_code : Coded Map
rows_code = fin.code (coded_list coded_ℕ) (coded_list cell_code)
