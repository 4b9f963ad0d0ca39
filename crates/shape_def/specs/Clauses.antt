-- The truth of a row under a clause's text, and why a text is no clause over columns.
use Rattle.std.specs.Prelude.{◌≡◌, refl, ℕ, Bool, true, false, List, length, Option, None, Some, Result, Ok, Err, is_none, if◌then◌else◌}
use Rattle.std.specs.List.{list_any, range_with_len}
use Rattle.std.specs.Option.{option_map}
use Rattle.shape_base.specs.declared.definition.Column.{Column}
use Rattle.shape_base.specs.declared.truth.Tri.{Tri}
use Rattle.shape_base.specs.declared.truth.Tri.TheVariants.{True, Unknown}
use Rattle.shape_base.specs.Tables.{Values}
use Rattle.shape_base.specs.Shape.{reads_from}
use Rattle.where_grammar.specs.Tree.{Tree}
use Rattle.where_grammar.specs.Clause.{tokens_in}
use Rattle.where_grammar.specs.Meaning.{clause_of}
use Rattle.where_parser.specs.declared.parsing.ParseError.{ParseError}
use Rattle.where_parser.specs.declared.parsing.ParseError.TheVariants as parsing
use Rattle.where_parser.specs.Whole.{answer_of}
use Rattle.where_eval.specs.declared.faults.CheckError.{CheckError}
use Rattle.where_eval.specs.declared.faults.CheckError.TheVariants as checking
use Rattle.where_eval.specs.Faults.{fault_of}
use Rattle.where_eval.specs.Truth.{truth_of, unread}
use Rattle.shape_def.specs.declared.faults.DefError.{DefError}
use Rattle.shape_def.specs.declared.faults.DefError.TheVariants as errors

-- what parsing a text must answer
unfoldable pub answer_in : List ℕ → Result Tree ParseError
answer_in text = answer_of text (clause_of 64 (tokens_in text))

-- the truth by what parsing answers; a text that is no clause, which no definition has, selects no row
abbrev pub truth_by : List Column → Result Tree ParseError → Values → Option Tri
truth_by c (Ok tree) row = truth_of c tree row
truth_by c (Err error) row = Some Unknown

-- The truth of a row under a clause; without one it is true.
abbrev pub truth_under : List Column → Option (List ℕ) → Values → Option Tri
truth_under c None row = Some True
truth_under c (Some text) row = truth_by c (answer_in text) row

abbrev pub unread_by : List Column → Result Tree ParseError → Values → ℕ → Bool
unread_by c (Ok tree) row place = unread c tree row place
unread_by c (Err error) row place = false

-- the clause names the column in a place, and the row's text there has no value
abbrev pub unread_under : List Column → Option (List ℕ) → Values → ℕ → Bool
unread_under c None row place = false
unread_under c (Some text) row place = unread_by c (answer_in text) row place

-- a refusal of parsing, and one of checking, as a definition's
abbrev pub of_parse : ParseError → DefError
of_parse parsing.OutOfMemory = errors.OutOfMemory
of_parse (parsing.Syntax place) = errors.Syntax place
of_parse (parsing.TooDeep place) = errors.TooDeep place

abbrev pub of_check : CheckError → DefError
of_check checking.OutOfMemory = errors.OutOfMemory
of_check (checking.UnknownColumn atom) = errors.UnknownColumn (Some atom)
of_check (checking.TypeMismatch atom) = errors.TypeMismatch atom
of_check (checking.BadLiteral atom) = errors.BadLiteral atom

abbrev pub refusal_by : List Column → Result Tree ParseError → Option DefError
refusal_by c (Ok tree) = option_map of_check (fault_of c tree)
refusal_by c (Err error) = Some (of_parse error)

-- why a text is no clause over these columns: parsing refuses it, or else checking does
abbrev pub refusal_of_clause : List Column → Option (List ℕ) → Option DefError
refusal_of_clause c None = None
refusal_of_clause c (Some text) = refusal_by c (answer_in text)

none_where : (b : Bool) (truth : Tri) → is_none (if b then None else Some truth) ≡ b
none_where true truth = refl
none_where false truth = refl

reads_by : (c : List Column) (answer : Result Tree ParseError) (row : Values) → is_none (truth_by c answer row) ≡ list_any (unread_by c answer row) (range_with_len 0 (length row))
reads_by c (Ok tree) row = none_where _ _
reads_by c (Err error) row = reads_from 0 (length row)

-- a row has no truth exactly where it has a column that cannot be read
pub reads_under : (c : List Column) (clause : Option (List ℕ)) (row : Values) → is_none (truth_under c clause row) ≡ list_any (unread_under c clause row) (range_with_len 0 (length row))
reads_under c None row = reads_from 0 (length row)
reads_under c (Some text) row = reads_by c (answer_in text) row
