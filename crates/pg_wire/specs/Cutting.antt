-- Frames that are taken while their bytes come in pieces.
use Rattle.std.specs.Prelude.{◌≡◌, ℕ, ◌+◌, List, [], ◌∷◌, ◌++◌, length, drop, Option, None, Some, Result, Ok, Err}
use Rattle.pg_wire.specs.declared.frame.Frame.{Frame}
use Rattle.pg_wire.specs.declared.frame.FrameError.{FrameError}
use Rattle.pg_wire.specs.Reached.{Reached}
use Rattle.pg_wire.specs.FrameList.{Unfinished, Framed, beginning, Held, held_from}
use Rattle.pg_wire.specs.declared.frames.Step.{Step}
use Rattle.pg_wire.specs.declared.frames.Step.TheVariants as steps

-- these frames before others
abbrev pub after : List Frame → Held → Held
after taken held = record held { frames = taken ++ held.frames }

-- However the bytes go on, the frames from the one place on are these and then those from the other place on.
pub record Leads (from : Reached) (taken : List Frame) (to : Reached) : Type 0 where
  pub fed : from.place + length from.rest ≡ to.place + length to.rest
  pub ahead : (more : List ℕ) → held_from from.place (from.rest ++ more) ≡ after taken (held_from to.place (to.rest ++ more))

-- the beginning of a stream of which these bytes were fed
abbrev pub start : List ℕ → Reached
start fed = record { place = 0; rest = fed }

-- These bytes were fed, in whatever pieces, and these frames were taken.
abbrev pub Took : List ℕ → List Frame → Reached → Type 0
Took fed taken now = Leads (start fed) taken now

-- what a call gave, as a list
abbrev pub given : Result (Option Frame) FrameError → List Frame
given (Ok (Some frame)) = frame ∷ []
given (Ok None) = []
given (Err error) = []

-- ---- one step

-- the frame that stands first is taken
pub record Moves (old : Reached) (first : Option Frame) (new : Reached) : Type 0 where
  pub size : ℕ
  pub framed : beginning old.place old.rest ≡ Framed first size
  pub place : new.place ≡ old.place + size
  pub rest : new.rest ≡ drop size old.rest

-- what one step does
abbrev pub Stepped : Reached → Step → Reached → Type 0
Stepped old steps.Open new = (beginning old.place old.rest ≡ Unfinished) × (new ≡ old)
Stepped old steps.Passed new = Moves old None new
Stepped old (steps.Given frame) new = Moves old (Some frame) new
