-- What a request asks for: each refusal in its order, and otherwise a part of one table.
use Rattle.std.specs.Prelude.{◌≡◌, ◌≢◌, ℕ, ◌+◌, ◌<◌, ◌^◌, ◌⊎◌, Bool, true, false, ◌&&◌, ◌==◌, if◌then◌else◌, List, [], ◌∷◌, length, Option, Some, None, Result, Ok, Err, codes, decimal, option_map}
use Rattle.std.specs.List.{list_any}
use Rattle.form_urlencoded.specs.Form.{split_once, split, parse}
use Rattle.shape_base.specs.declared.ask.Ask.{Ask}
use Rattle.shape_base.specs.declared.ask.Named.{Named}
use Rattle.shape_base.specs.declared.ask.Named.TheVariants as names
use Rattle.shape_base.specs.declared.handle.Handle.{Handle}
use Rattle.shape_base.specs.declared.offset.Offset.{Offset}
use Rattle.shape_base.specs.declared.served.Served.{Served}
use Rattle.shape_base.specs.Tables.{same_text}
use Rattle.shape_base.specs.Handle.{IsHandle, handle_text}
use Rattle.shape_base.specs.OffsetText.{IsOffset, offset_text}
use Rattle.where_parser.specs.declared.parsing.ParseError.{ParseError}
use Rattle.where_parser.specs.declared.parsing.ParseError.TheVariants as parsing
use Rattle.where_grammar.specs.Tree.{Tree}
use Rattle.where_grammar.specs.Clause.{canonical_text}
use Rattle.shape_def.specs.Clauses.{answer_in}
use Rattle.shape_def.specs.Identity.{identity}
use Rattle.http_edge.specs.declared.request.Request.{Request}
use Rattle.http_edge.specs.declared.refusal.Refusal.{Refusal}
use Rattle.http_edge.specs.declared.refusal.Refusal.TheVariants as refusals
use Rattle.http_edge.specs.Parameters.{path_of, query_of, Pair, HasBadEscape, value_under, has_repeated}

-- the one path that is served
abbrev pub served_path : List ℕ
served_path = codes "/v1/shape"

-- ---- the table

-- ns.name, split at the first dot; without a dot the namespace is public
abbrev pub has_dot : List ℕ → Bool
has_dot name = list_any (λ b. b == 46) name

abbrev pub table_name : List ℕ → Pair
table_name name = if has_dot name then split_once 46 name else (codes "public", name)

abbrev pub is_of_name : Pair → Served → Bool
is_of_name name table = same_text table.ns name.0 && same_text table.name name.1

-- the place of the first table of this name
abbrev pub table_from : Pair → ℕ → List Served → Option ℕ
table_from name place [] = None
table_from name place (table ∷ tables) = if is_of_name name table then Some place else table_from name (place + 1) tables

-- no table has the name
abbrev pub IsNotServed : List Served → Option (List ℕ) → Type 0
IsNotServed tables None = ⊥
IsNotServed tables (Some name) = table_from (table_name name) 0 tables ≡ None

-- ---- the clause

-- the text has more than 8,192 bytes
abbrev pub IsTooLong : Option (List ℕ) → Type 0
IsTooLong None = ⊥
IsTooLong (Some text) = 8192 < length text

-- where a text is no clause: at the first token that cannot continue it, or that stands too deep
abbrev pub place_in : Result Tree ParseError → Option ℕ
place_in (Ok tree) = None
place_in (Err parsing.OutOfMemory) = None
place_in (Err (parsing.Syntax place)) = Some place
place_in (Err (parsing.TooDeep place)) = Some place

abbrev pub syntax_place : Option (List ℕ) → Option ℕ
syntax_place None = None
syntax_place (Some text) = place_in (answer_in text)

-- the text is the canonical one of a tree
abbrev pub IsTextOf : Result Tree ParseError → List ℕ → Type 0
IsTextOf (Ok tree) clause = clause ≡ canonical_text tree
IsTextOf (Err error) clause = ⊥

-- the canonical text of the clause, where there is one
abbrev pub IsCanonical : Option (List ℕ) → Option (List ℕ) → Type 0
IsCanonical None None = Unit {0}
IsCanonical None (Some clause) = ⊥
IsCanonical (Some text) None = ⊥
IsCanonical (Some text) (Some clause) = IsTextOf (answer_in text) clause

-- ---- the place in the log

-- the value is this text
abbrev pub is_value : List ℕ → Option (List ℕ) → Bool
is_value text None = false
is_value text (Some value) = same_text value text

-- the offset is absent or cannot be read
abbrev pub HasNoOffset : Option (List ℕ) → Type 0
HasNoOffset value = (offset : Offset) → IsOffset offset → value ≡ Some (offset_text offset) → ⊥

-- the request asks from the start
abbrev pub is_start : List Pair → Bool
is_start pairs = is_value (codes "-1") (value_under (codes "offset") pairs)

-- the request waits for what is new: exactly where the value is `true`
abbrev pub is_live : List Pair → Bool
is_live pairs = is_value (codes "true") (value_under (codes "live") pairs)

-- an offset other than -1 stands without a handle
pub record NeedsHandle (pairs : List Pair) : Type 0 where
  pub later : is_start pairs ≡ false
  pub absent : value_under (codes "handle") pairs ≡ None

-- a request from -1 waits
pub record IsLiveAtStart (pairs : List Pair) : Type 0 where
  pub start : is_start pairs ≡ true
  pub live : is_live pairs ≡ true

-- the handle that a request names; a text that is no handle is strange
abbrev pub NamedIs : Option (List ℕ) → Named → Type 0
NamedIs value names.Absent = value ≡ None
NamedIs value (names.Known handle) = IsHandle handle × (value ≡ Some (handle_text handle))
NamedIs value names.Strange = (value ≢ None) × ((handle : Handle) → IsHandle handle → value ≡ Some (handle_text handle) → ⊥)

-- a canonical decimal of 64 bits; anything else counts as 0
abbrev pub CursorIs : Option (List ℕ) → ℕ → Type 0
CursorIs value n = ((n < 2 ^ 64) × (value ≡ Some (decimal n))) ⊎ ((n ≡ 0) × ((m : ℕ) → m < 2 ^ 64 → value ≡ Some (decimal m) → ⊥))

-- the names, joined by commas, taken as they stand
abbrev pub names_of : Option (List ℕ) → Option (List (List ℕ))
names_of value = option_map (split 44) value

-- ---- what is asked for

-- Why this is what the parameters ask for: each value is there, and the identity is that of its parts.
pub record IsAskOf (tables : List Served) (pairs : List Pair) (ask : Ask) : Type 0 where
  pub name : List ℕ
  pub has_name : value_under (codes "table") pairs ≡ Some name
  pub table : table_from (table_name name) 0 tables ≡ Some ask.table
  pub clause : IsCanonical (value_under (codes "where") pairs) ask.clause
  pub columns : ask.columns ≡ names_of (value_under (codes "columns") pairs)
  pub offset : IsOffset ask.offset × (value_under (codes "offset") pairs ≡ Some (offset_text ask.offset))
  pub handle : NamedIs (value_under (codes "handle") pairs) ask.named
  pub live : ask.live ≡ is_live pairs
  pub cursor : CursorIs (value_under (codes "cursor") pairs) ask.cursor
  pub told : ask.identity ≡ identity (record { ns = (table_name name).0; name = (table_name name).1; columns = ask.columns; clause = ask.clause })

-- ---- the order in which requests are refused

-- what a request is answered: what it asks for, or why it asks for nothing
abbrev pub Routed : Type 0
Routed = Result Ask Refusal

-- the refusal where the fault stands, and otherwise what follows
abbrev pub Refuses : Type 0 → Refusal → (Routed → Type 0) → Routed → Type 0
Refuses fault refusal follows routed = (fault × (routed ≡ Err refusal)) ⊎ ((fault → ⊥) × follows routed)

-- the same of a text that is no clause from a place on
abbrev pub RefusesAt : Option ℕ → (Routed → Type 0) → Routed → Type 0
RefusesAt (Some place) follows routed = routed ≡ Err (refusals.WhereSyntax place)
RefusesAt None follows routed = follows routed

abbrev pub Asks : List Served → List Pair → Routed → Type 0
Asks tables pairs (Ok ask) = IsAskOf tables pairs ask
Asks tables pairs (Err refusal) = ⊥

-- first the method and the path
abbrev pub RequestTried : Request → (Routed → Type 0) → Routed → Type 0
RequestTried request follows =
    Refuses (request.get ≡ false) refusals.MethodRefused (
    Refuses (path_of request.target ≢ served_path) refusals.PathUnknown follows)

-- then whether the query is a form of texts, and no name that is looked at stands twice
abbrev pub FormTried : List ℕ → (Routed → Type 0) → Routed → Type 0
FormTried query follows =
    Refuses (HasBadEscape query) refusals.BadEscape (
    Refuses (has_repeated (parse query) ≡ true) refusals.RepeatedParameter follows)

-- then the table
abbrev pub TableTried : List Served → List Pair → (Routed → Type 0) → Routed → Type 0
TableTried tables pairs follows =
    Refuses (value_under (codes "table") pairs ≡ None) refusals.MissingTable (
    Refuses (IsNotServed tables (value_under (codes "table") pairs)) refusals.TableNotServed follows)

-- then the clause
abbrev pub ClauseTried : Option (List ℕ) → (Routed → Type 0) → Routed → Type 0
ClauseTried clause follows =
    Refuses (IsTooLong clause) refusals.WhereTooLong (
    RefusesAt (syntax_place clause) follows)

-- and last the place in the log
abbrev pub PlaceTried : List Pair → (Routed → Type 0) → Routed → Type 0
PlaceTried pairs follows =
    Refuses (HasNoOffset (value_under (codes "offset") pairs)) refusals.BadOffset (
    Refuses (NeedsHandle pairs) refusals.HandleNeeded (
    Refuses (IsLiveAtStart pairs) refusals.LiveAtStart follows))

abbrev pub ParametersTried : List Served → List Pair → Routed → Type 0
ParametersTried tables pairs = TableTried tables pairs (ClauseTried (value_under (codes "where") pairs) (PlaceTried pairs (Asks tables pairs)))

-- The first refusal in this order whose fault stands, or else what the request asks for.
abbrev pub IsRouted : List Served → Request → Routed → Type 0
IsRouted tables request = RequestTried request (FormTried (query_of request.target) (ParametersTried tables (parse (query_of request.target))))

-- Why this is the answer; want of memory may stand in its place.
abbrev pub IsRouteAnswer : List Served → Request → Routed → Type 0
IsRouteAnswer tables request routed = (routed ≡ Err refusals.OutOfMemory) ⊎ IsRouted tables request routed
