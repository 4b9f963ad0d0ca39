-- How far a text is like what is asked for before the next run.
use Rattle.std.specs.Prelude.{◌≡◌, ◌<◌, ◌≤◌, ℕ, true, false, List, ◌∷◌, length}
use Rattle.std.specs.Str.{chars, IsUtf8}
use Rattle.where_eval.specs.declared.like.Piece.{Piece}
use Rattle.where_eval.specs.declared.like.Piece.TheVariants.{Run}
use Rattle.where_eval.specs.declared.like.Walk.{Walk}
use Rattle.where_eval.specs.declared.like.Walk.TheVariants as walks
use Rattle.where_eval.specs.Like.{fits}

-- from the text it comes to the run, and from each end of the text to an end behind it
pub record IsAtRun (pieces : List Piece) (text : List ℕ) (others : List Piece) (rest : List ℕ) : Type 0 where
  pub here : fits pieces text ≡ fits (Run ∷ others) rest
  pub later : fits (Run ∷ pieces) text ≡ fits (Run ∷ others) rest
  pub fewer : length others < length pieces
  pub shorter : length rest ≤ length text

abbrev pub IsRight : List Piece → List ℕ → Walk → Type 0
IsRight pieces text walks.Whole = fits pieces text ≡ true
IsRight pieces text (walks.AtRun others rest) = IsAtRun pieces text others.now (chars rest.now) × IsUtf8 rest.now
IsRight pieces text walks.Stuck = fits pieces text ≡ false
