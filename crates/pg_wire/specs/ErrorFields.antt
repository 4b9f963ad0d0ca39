-- The fields of an ErrorResponse (PostgreSQL manual, 55.8 Error and Notice Message Fields).
use Rattle.std.specs.Prelude.{ℕ, zero, suc, ◌<◌, List, [], ◌∷◌, ◌++◌, length, Option, None, Some, Result, Ok, Err, ◌==◌, if◌then◌else◌}
use Rattle.std.specs.List.{flat_map, AllByRecursion}
use denote.Bor.{Bor}
use Rattle.byte_format.specs.Format.{Format, Read, ◌>>=◌, string, string_at}
use Rattle.byte_format.specs.Whole.{whole}

-- a byte that says what the field is, and its text
abbrev pub Field : Type 0
Field = ℕ × List ℕ

abbrev pub field_spell : Field → List ℕ
field_spell f = f.0 ∷ string.spell f.1

-- at most n fields, and a zero byte behind the last
unfoldable pub fields_at : ℕ → List ℕ → Read (List Field)
fields_at zero bytes = Err 0
fields_at (suc n) [] = Err 0
fields_at (suc n) (zero ∷ bytes) = Ok ([], bytes)
fields_at (suc n) (suc code ∷ bytes) = string_at bytes >>= λ text. fields_at n text.1 >>= λ others. Ok ((suc code, text.0) ∷ others.0, others.1)

-- fields, each a byte other than zero and a string, and a zero byte behind the last
abbrev pub fields : Format (List Field)
fields = record {
  spell = λ fs. flat_map field_spell fs ++ 0 ∷ [];
  read = λ bytes. fields_at (length bytes) bytes;
  Fits = AllByRecursion (λ f. (0 < f.0) × (f.0 < 256) × string.Fits f.1);
}

-- the text of the first field `C`
unfoldable pub code_in : List Field → Option (List ℕ)
code_in [] = None
code_in (f ∷ fs) = if f.0 == 67 then Some f.1 else code_in fs

abbrev pub code_read : Result (List Field) ℕ → Option (List ℕ)
code_read (Ok fs) = code_in fs
code_read (Err left) = None

-- the SQLSTATE code of an ErrorResponse's payload, where it is the list of fields and has one
abbrev pub sqlstate_of : List ℕ → Option (List ℕ)
sqlstate_of payload = code_read (whole fields payload)

-- the text that was found before, else this one where it is a field `C`
abbrev pub found_by : Option (List ℕ) → ℕ → List ℕ → Option (List ℕ)
found_by (Some code) kind text = Some code
found_by None kind text = if kind == 67 then Some text else None

-- a borrowed text, as its bytes
abbrev pub bytes_of : Option (Bor (List ℕ)) → Option (List ℕ)
bytes_of (Some text) = Some text.now
bytes_of None = None
