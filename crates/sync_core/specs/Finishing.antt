-- What a machine makes of what a snapshot came to.
use Rattle.std.specs.Prelude.{◌≡◌, ℕ, true, List, is_some, Result}
use Rattle.pg_dialogue.specs.Course.{Course}
use Rattle.core_events.specs.declared.out.Out.{Out}
use Rattle.core_events.specs.declared.out.StepError.{StepError}
use Rattle.core_law.specs.Situation.{Options, Situation}
use Rattle.core_machine.specs.declared.machine.Machine.{Machine}
use Rattle.core_machine.specs.Faults.{under_way}
use Rattle.core_machine.specs.Standing.{Stands}
use Rattle.core_machine.specs.Turns.{TurnsTo}
use Rattle.sync_core.specs.declared.snapshots.Progress.{Progress}
use Rattle.sync_core.specs.Run.{course_for, made_of, shape_of}
use Rattle.sync_core.specs.UnderWay.{Stood}

-- The machine stands for a situation in which an exchange owns a snapshot under way, which stands so.
pub record HasStood (m : Machine) (e : ℕ) (progress : Progress) : Type 0 where
  pub options : Options
  pub situation : Situation
  pub stands : Stands options situation m
  pub owns : is_some (under_way situation e) ≡ true
  pub course : Course
  pub stood : Stood options situation e course progress

-- It makes of it what the course of its dialogue comes to, for each situation for which it stood and in which the exchange owned one under way.
abbrev pub TakesStood : Machine → Machine → ℕ → Progress → Result (List Out) StepError → Type 0
TakesStood old new e progress result = (o : Options) (s : Situation) (c : Course) → Stands o s old → is_some (under_way s e) ≡ true → Stood o s e c progress
    → TurnsTo o (made_of o s (course_for o s e c (shape_of s (under_way s e)))) result new
