-- The grammar's readers, one for each function of the code.
use Rattle.std.specs.Prelude.{◌≡◌, true, ℕ, List, ◌∷◌, ◌++◌, Bool, Option}
use Rattle.where_lexer.specs.declared.token.Token.{Token}
use Rattle.where_parser.specs.declared.word.Word.{Word}
use Rattle.where_parser.specs.declared.word.Word.TheVariants as words
use Rattle.where_parser.specs.declared.word.Joint.{Joint}
use Rattle.where_parser.specs.declared.word.Joint.TheVariants as joints
use Rattle.where_grammar.specs.Tree.{Tree, trees, LikeOf, BetweenOf, WithinOf}
use Rattle.ll_rules.specs.Rules.{Answer, Read, Refuse, one_read, Rule, nothing, sequence, one, more}
use Rattle.where_grammar.specs.Grammar.{atom, an_open, a_close, a_comma, a_minus, an_and, an_or, a_not, an_is, a_distinct, a_from, an_in, a_between, a_like, a_negative, a_pattern, Mark, has, Without, Whatever, goes_and, goes_or, after, plain, predicate, range, cmp, is_right, is_over, and, or, not}

abbrev pub mark : Word → Token → Option Mark
mark words.Open = an_open
mark words.Close = a_close
mark words.Comma = a_comma
mark words.Minus = a_minus
mark words.And = an_and
mark words.Or = an_or
mark words.Not = a_not
mark words.Is = an_is
mark words.Distinct = a_distinct
mark words.From = a_from
mark words.In = an_in
mark words.Between = a_between
mark words.Like = a_like

unfoldable pub read_negative : List Token → Answer Token Tree
read_negative tokens = one_read a_negative tokens

unfoldable pub read_plain : List Token → Answer Token Tree
read_plain tokens = plain.read tokens

unfoldable pub read_atom : ℕ → List Token → Answer Token Tree
read_atom depth tokens = (atom depth).read tokens

-- what members of each kind of list are, and what stands before each but the first
abbrev pub member : Joint → ℕ → Rule Token Tree
member joints.Comma depth = atom depth
member joints.And depth = not depth
member joints.Or depth = and (not depth)

abbrev pub joint : Joint → Token → Bool
joint joints.Comma = has a_comma
joint joints.And = has an_and
joint joints.Or = has an_or

abbrev pub joint_ends : Joint → List Token → Type 0
joint_ends joints.Comma = Without (has a_comma)
joint_ends joints.And = Without goes_and
joint_ends joints.Or = Without goes_or

unfoldable pub read_member : Joint → ℕ → List Token → Answer Token Tree
read_member kind depth tokens = (member kind depth).read tokens

unfoldable pub read_others : Joint → ℕ → List Token → Answer Token (List Tree)
read_others kind depth tokens = (more (joint kind) (member kind depth) (joint_ends kind)).read tokens

-- behind IN
unfoldable pub read_within : ℕ → Tree → Bool → List Token → Answer Token Tree
read_within depth left negated tokens = (after an_open (sequence (atom depth) (λ first. sequence (more (has a_comma) (atom depth) (Without (has a_comma))) (λ others. after a_close (nothing (WithinOf left negated (trees (first ∷ others))))) Whatever) Whatever)).read tokens

-- behind BETWEEN
unfoldable pub read_between : ℕ → Tree → Bool → List Token → Answer Token Tree
read_between depth left negated tokens = (sequence (atom depth) (λ low. after an_and (sequence (atom depth) (λ high. nothing (BetweenOf left negated low high)) Whatever)) Whatever).read tokens

-- behind LIKE
unfoldable pub read_like : Tree → Bool → List Token → Answer Token Tree
read_like left negated tokens = (sequence (one a_pattern) (λ pattern. nothing (LikeOf left negated pattern)) Whatever).read tokens

unfoldable pub read_predicate : ℕ → Tree → Bool → List Token → Answer Token Tree
read_predicate depth left negated tokens = (predicate (atom depth) left negated).read tokens

-- behind IS and NOT
unfoldable pub read_right : ℕ → Tree → Bool → List Token → Answer Token Tree
read_right depth left negated tokens = (is_right (cmp (range (atom depth))) left negated).read tokens

unfoldable pub read_range : ℕ → List Token → Answer Token Tree
read_range depth tokens = (range (atom depth)).read tokens

unfoldable pub read_cmp : ℕ → List Token → Answer Token Tree
read_cmp depth tokens = (cmp (range (atom depth))).read tokens

unfoldable pub read_is : ℕ → List Token → Answer Token Tree
read_is depth tokens = (is_over (atom depth)).read tokens

unfoldable pub read_not : ℕ → List Token → Answer Token Tree
read_not depth tokens = (not depth).read tokens

unfoldable pub read_and : ℕ → List Token → Answer Token Tree
read_and depth tokens = (and (not depth)).read tokens

unfoldable pub read_or : ℕ → List Token → Answer Token Tree
read_or depth tokens = (or (not depth)).read tokens

-- with these values before those that are read
abbrev pub with_front : List Tree → Answer Token (List Tree) → Answer Token (List Tree)
with_front front (Read all rest) = Read (front ++ all) rest
with_front front (Refuse fault rest) = Refuse fault rest

-- the tokens are a joining one, and those inside
pub record IsJoined (kind : Joint) (tokens inside : List Token) : Type 0 where
  pub token : Token
  pub cut : tokens ≡ token ∷ inside
  pub passes : joint kind token ≡ true
