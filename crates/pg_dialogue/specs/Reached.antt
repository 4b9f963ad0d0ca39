-- How far a snapshot's dialogue was read.
use Rattle.std.specs.Prelude.{ℕ, ◌<◌, List}
use Rattle.pg_dialogue.specs.declared.snap_reader.Stage.{Stage}
use Rattle.pg_dialogue.specs.declared.snap_reader.Stage.TheVariants.{Opening, Rows, Closing, Over}
use Rattle.pg_dialogue.specs.declared.wanted.Told.{Told}

-- The place of the first byte that was not taken, from 0, and the bytes that were fed from there on; which messages come next; and what was told so far.
pub record Reached : Type 0 where
  pub place : ℕ
  pub rest : List ℕ
  pub stage : Stage
  pub told : Told

-- a message is still to come
abbrev pub InRange : Stage → Type 0
InRange (Opening n) = n < 9
InRange Rows = Unit {0}
InRange (Closing n) = n < 3
InRange Over = Unit {0}
