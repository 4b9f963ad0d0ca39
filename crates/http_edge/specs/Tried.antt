-- What the steps of routing say of what they read, and of a refusal of their own.
use Rattle.std.specs.Prelude.{◌≡◌, ℕ, ◌<◌, true, List, [], ◌∷◌, length, Option, Some, None, IfSome, Result, codes}
use Rattle.std.specs.Str.{IsUtf8}
use Rattle.where_grammar.specs.Tree.{Tree}
use Rattle.where_parser.specs.declared.parsing.ParseError.{ParseError}
use Rattle.where_parser.specs.declared.parsing.ParseError.TheVariants as parsing
use Rattle.http_edge.specs.declared.refusal.Refusal.{Refusal}
use Rattle.http_edge.specs.declared.refusal.Refusal.TheVariants as refusals
use Rattle.form_urlencoded.specs.Form.{split}
use Rattle.shape_base.specs.declared.ask.Ask.{Ask}
use Rattle.shape_base.specs.declared.served.Served.{Served}
use Rattle.http_edge.specs.Parameters.{Pair, value_under}
use Rattle.http_edge.specs.Route.{table_name, is_of_name, table_from, place_in, NamedIs, CursorIs, is_live, names_of, Routed}

-- nothing follows
abbrev pub Never : Routed → Type 0
Never routed = ⊥

-- the names between the commas of what is left, where something is left
abbrev pub pieces_of : Option (List ℕ) → List (List ℕ)
pieces_of None = []
pieces_of (Some text) = split 44 text

-- the text, cut at its first comma
pub record IsCut (text name : List ℕ) (rest : Option (List ℕ)) : Type 0 where
  pub cut : split 44 text ≡ name ∷ pieces_of rest
  pub utf8 : IsUtf8 name × IfSome rest IsUtf8
  pub shorter : IfSome rest (λ t. length t < length text)

-- a refusal of parsing
abbrev pub of_parse : ParseError → Refusal
of_parse parsing.OutOfMemory = refusals.OutOfMemory
of_parse (parsing.Syntax place) = refusals.WhereSyntax place
of_parse (parsing.TooDeep place) = refusals.WhereSyntax place

-- the place where a text is no clause
pub record IsSyntaxRefusal (answer : Result Tree ParseError) (refusal : Refusal) : Type 0 where
  pub place : ℕ
  pub is : refusal ≡ refusals.WhereSyntax place
  pub at : place_in answer ≡ Some place

-- the table of the name that is asked for
pub record IsTable (tables : List Served) (pairs : List Pair) (place : ℕ) (table : Served) : Type 0 where
  pub name : List ℕ
  pub has_name : value_under (codes "table") pairs ≡ Some name
  pub found : table_from (table_name name) 0 tables ≡ Some place
  pub named : is_of_name (table_name name) table ≡ true

-- what is asked for, beside the table, the clause and the offset
pub record IsRest (pairs : List Pair) (ask : Ask) : Type 0 where
  pub columns : ask.columns ≡ names_of (value_under (codes "columns") pairs)
  pub handle : NamedIs (value_under (codes "handle") pairs) ask.named
  pub live : ask.live ≡ is_live pairs
  pub cursor : CursorIs (value_under (codes "cursor") pairs) ask.cursor
