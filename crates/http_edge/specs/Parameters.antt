-- The target of a request (RFC 9112, section 3.2): its path, and its query as a web form (URL Standard, section 5).
use Rattle.std.specs.Prelude.{◌≡◌, ℕ, ◌⊎◌, Bool, true, false, ◌&&◌, ◌||◌, not, ◌==◌, nat_lt, if◌then◌else◌, List, [], ◌∷◌, map, Option, Some, None, codes}
use Rattle.std.specs.List.{list_any}
use Rattle.std.specs.Str.{IsUtf8}
use Rattle.std.specs.Char.{is_digit}
use Rattle.form_urlencoded.specs.Form.{split_once, decode, parse}
use Rattle.shape_base.specs.Tables.{same_text}
use Rattle.http_edge.specs.declared.parameters.Piece.{Piece}
use Rattle.http_edge.specs.declared.parameters.Piece.TheVariants as pieces
use Rattle.http_edge.specs.declared.parameters.Parameter.{Parameter}

-- the path is what stands before the first question mark, and the query what stands behind it
abbrev pub path_of : List ℕ → List ℕ
path_of target = (split_once 63 target).0

abbrev pub query_of : List ℕ → List ℕ
query_of target = (split_once 63 target).1

-- two hexadecimal digits stand here
abbrev pub is_escaped : List ℕ → Bool
is_escaped [] = false
is_escaped (a ∷ []) = false
is_escaped (a ∷ b ∷ text) = is_digit a 16 && is_digit b 16

-- some percent sign has no two hexadecimal digits after it
abbrev pub has_bad_percent : List ℕ → Bool
has_bad_percent [] = false
has_bad_percent (b ∷ text) = ((b == 37) && not (is_escaped text)) || has_bad_percent text

-- a name and a value, decoded
abbrev pub Pair : Type 0
Pair = List ℕ × List ℕ

-- what an encoded pair stands for
abbrev pub decoded : Pair → Pair
decoded p = (decode p.0, decode p.1)

-- all names and values are UTF-8
abbrev pub AreTexts : List Pair → Type 0
AreTexts [] = Unit {0}
AreTexts (p ∷ pairs) = (IsUtf8 p.0 × IsUtf8 p.1) × AreTexts pairs

-- a query that is no form of texts: a percent sign escapes nothing, or what is escaped is not UTF-8
abbrev pub HasBadEscape : List ℕ → Type 0
HasBadEscape query = (has_bad_percent query ≡ true) ⊎ (AreTexts (parse query) → ⊥)

-- the value under a name: the first one
abbrev pub value_under : List ℕ → List Pair → Option (List ℕ)
value_under name [] = None
value_under name (p ∷ pairs) = if same_text p.0 name then Some p.1 else value_under name pairs

-- the name stands there
abbrev pub stands_in : List ℕ → List Pair → Bool
stands_in name pairs = list_any (λ p. same_text p.0 name) pairs

-- the name stands there twice
abbrev pub stands_twice : List ℕ → List Pair → Bool
stands_twice name [] = false
stands_twice name (p ∷ pairs) = (same_text p.0 name && stands_in name pairs) || stands_twice name pairs

-- the names that are looked at
abbrev pub known_names : List (List ℕ)
known_names = codes "table" ∷ codes "offset" ∷ codes "handle" ∷ codes "live" ∷ codes "cursor" ∷ codes "where" ∷ codes "columns" ∷ []

-- one of them stands there twice
abbrev pub has_repeated : List Pair → Bool
has_repeated pairs = list_any (λ name. stands_twice name pairs) known_names

-- ---- what programs hold

-- the byte is ASCII and stands for itself: it is neither a plus sign nor a percent sign
abbrev pub stands_for_itself : ℕ → Bool
stands_for_itself b = nat_lt b 128 && not ((b == 43) || (b == 37))

abbrev pub piece_text : Piece → List ℕ
piece_text (pieces.Plain bytes) = bytes.now
piece_text (pieces.Decoded text) = text

abbrev pub pair_of : Parameter → Pair
pair_of p = (piece_text p.name, piece_text p.value)

abbrev pub pairs_of : List Parameter → List Pair
pairs_of ps = map pair_of ps
