-- The headline: whatever was written is right.
use Rattle.std.specs.Prelude.{◌≡◌, ℕ, List, ◌++◌}
use Rattle.shape_base.specs.Outside.{AddsFront}
use Rattle.core_events.specs.declared.out.Out.{Out}
use Rattle.script.specs.Records.{Item}
use Rattle.script_play.specs.Played.{Ending, text_of}
use Rattle.script_play.specs.Headline.{IsRightlyPlayed}

-- What was written is a front of the text of what the first of these records put out, and all of that is right for each history by which they are told: each reply is the text of a
-- lawful one, and each block has the rows of the table after the client's reach that its shape selects.
pub record IsHeadline (words : List (List ℕ)) (items : List Item) (old new : List ℕ) : Type 0 where
  pub first : List Item
  pub others : List Item
  pub are : items ≡ first ++ others
  pub outs : List Out
  pub ending : Ending
  pub written : AddsFront old new (text_of outs ending)
  pub right : IsRightlyPlayed words first outs ending
