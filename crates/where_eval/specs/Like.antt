-- LIKE between the characters of a pattern and those of a text (PostgreSQL manual 9.7.1).
use Rattle.std.specs.Prelude.{◌≡◌, ◌≢◌, ◌↔◌, ℕ, Bool, true, false, List, [], ◌∷◌, ◌++◌, ◌==◌, ◌&&◌, ◌||◌, if◌then◌else◌}
use Rattle.where_eval.specs.declared.like.Piece.{Piece}
use Rattle.where_eval.specs.declared.like.Piece.TheVariants.{Run, One, Exactly}

-- the characters %, _ and \
abbrev pub percent : ℕ
percent = 37

abbrev pub underscore : ℕ
underscore = 95

abbrev pub backslash : ℕ
backslash = 92

-- a text is like a pattern
pub data IsLike : (pattern text : List ℕ) → Type 0 where
  -- nothing is like nothing
  ended : IsLike [] []
  -- % is any run of characters
  a_run : (pattern run rest : List ℕ) → IsLike pattern rest → IsLike (percent ∷ pattern) (run ++ rest)
  -- _ is one character
  a_character : (pattern : List ℕ) (c : ℕ) (rest : List ℕ) → IsLike pattern rest → IsLike (underscore ∷ pattern) (c ∷ rest)
  -- a backslash takes the next character as it is
  escaped : (c : ℕ) (pattern rest : List ℕ) → IsLike pattern rest → IsLike (backslash ∷ c ∷ pattern) (c ∷ rest)
  -- any other character is itself
  itself : (c : ℕ) (pattern rest : List ℕ) → c ≢ percent → c ≢ underscore → c ≢ backslash → IsLike pattern rest → IsLike (c ∷ pattern) (c ∷ rest)

-- the pattern ends inside an escape
abbrev mutual
  pub is_cut : List ℕ → Bool
  is_cut [] = false
  is_cut (c ∷ rest) = if c == backslash then is_cut_behind rest else is_cut rest

  pub is_cut_behind : List ℕ → Bool
  is_cut_behind [] = true
  is_cut_behind (c ∷ rest) = is_cut rest

-- what a character that no backslash precedes asks for
abbrev pub piece_of : ℕ → Piece
piece_of c = if c == percent then Run else if c == underscore then One else Exactly c

-- what a pattern asks for, in its order
abbrev mutual
  pub pieces_of : List ℕ → List Piece
  pieces_of [] = []
  pieces_of (c ∷ rest) = if c == backslash then pieces_behind rest else piece_of c ∷ pieces_of rest

  pub pieces_behind : List ℕ → List Piece
  pieces_behind [] = Exactly backslash ∷ []
  pieces_behind (c ∷ rest) = Exactly c ∷ pieces_of rest

-- the test passes on the text or on one of its ends
abbrev pub on_some_end : (List ℕ → Bool) → List ℕ → Bool
on_some_end test [] = test []
on_some_end test (c ∷ rest) = test (c ∷ rest) || on_some_end test rest

-- the piece is any run
abbrev pub is_run : Piece → Bool
is_run Run = true
is_run One = false
is_run (Exactly c) = false

-- the piece takes the character
abbrev pub takes : Piece → ℕ → Bool
takes Run c = false
takes One c = true
takes (Exactly d) c = d == c

-- the piece takes the text's first character, and the test passes on what follows it
abbrev pub behind : Piece → (List ℕ → Bool) → List ℕ → Bool
behind piece test [] = false
behind piece test (c ∷ rest) = takes piece c && test rest

abbrev pub is_empty : List ℕ → Bool
is_empty [] = true
is_empty (c ∷ rest) = false

-- the text is like what is asked for, tried one end of the text after the other
abbrev pub fits : List Piece → List ℕ → Bool
fits [] text = is_empty text
fits (Run ∷ pieces) text = on_some_end (fits pieces) text
fits (One ∷ pieces) text = behind One (fits pieces) text
fits (Exactly c ∷ pieces) text = behind (Exactly c) (fits pieces) text

abbrev pub is_like : List ℕ → List ℕ → Bool
is_like pattern text = fits (pieces_of pattern) text

-- the test is the relation, for each pattern that does not end inside an escape
abbrev pub LikeIsTheRelation : Type 0
LikeIsTheRelation = (pattern text : List ℕ) → is_cut pattern ≡ false → ((is_like pattern text ≡ true) ↔ IsLike pattern text)
