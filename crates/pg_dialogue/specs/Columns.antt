-- Columns and rows whose texts have to be UTF-8, one after the other.
use Rattle.std.specs.Prelude.{ℕ, List, [], ◌∷◌, if◌then◌else◌, Result, Ok, Err}
use Rattle.std.specs.Str.{is_utf8}
use Rattle.shape_base.specs.declared.definition.Column.{Column}
use Rattle.shape_base.specs.declared.value.Value as values
use Rattle.shape_base.specs.declared.value.Value.TheVariants as value
use Rattle.pg_dialogue.specs.declared.wire_error.WireError.{WireError}
use Rattle.pg_dialogue.specs.declared.wire_error.WireError.TheVariants.{NotUtf8}
use Rattle.pg_dialogue.specs.declared.contents.Field.{Field}
use Rattle.pg_dialogue.specs.declared.contents.Sent.{Sent}
use Rattle.pg_dialogue.specs.declared.contents.Sent.TheVariants.{Null, Chars}

-- one step, and the next where it did not stop
abbrev pub next : {A B : Type 0} → Result A WireError → (A → Result B WireError) → Result B WireError
next (Ok x) f = f x
next (Err e) f = Err e

abbrev pub text_at : ℕ → List ℕ → Result (List ℕ) WireError
text_at place text = if is_utf8 text then Ok text else Err (NotUtf8 place)

abbrev pub columns_of : ℕ → List Field → Result (List Column) WireError
columns_of place [] = Ok []
columns_of place (f ∷ fs) = next (text_at place f.name) (λ name. next (columns_of place fs) (λ cs. Ok (record { name = name; oid = f.oid } ∷ cs)))

abbrev pub value_at : ℕ → Sent → Result values.Value WireError
value_at place Null = Ok value.Null
value_at place (Chars text) = next (text_at place text) (λ t. Ok (value.Words t))

abbrev pub values_of : ℕ → List Sent → Result (List values.Value) WireError
values_of place [] = Ok []
values_of place (s ∷ ss) = next (value_at place s) (λ v. next (values_of place ss) (λ vs. Ok (v ∷ vs)))
