-- What a shape is by the data of its lock and its events.
use Rattle.std.specs.Prelude.{ℕ, Bool, List, [], Option, None, Some}
use Rattle.shape_base.specs.declared.cause.Cause.{Cause}
use Rattle.shape_base.specs.declared.offset.Offset.{Offset}
use Rattle.shape_base.specs.Tables.{Values}
use Rattle.shape_base.specs.Shape.{Knows}
use Rattle.shape_json.specs.ShapeHistory.{Reader, ShapeEvent, drop_of, IsLegal, ShapeState, Starting, state_after}
use Rattle.shape_state.specs.Reading.{reader_of}
use Rattle.shape_state.specs.Answers.{IsPaged}
use Rattle.shape_state.specs.declared.paged.Paged.{Paged}
use Rattle.shape_lock.specs.declared.start.ShapeStart.{ShapeStart}

module _ {A : Type 0} (knows : A → Knows) (unread : A → Values → ℕ → Bool) where
  -- by what the shape reads rows
  abbrev pub reader_in : ShapeStart A → Reader
  reader_in x = reader_of (knows x.test.value) (unread x.test.value)

  -- what the events leave; a pass that was given up has no data
  abbrev pub state_in : Option (ShapeStart A) → List ShapeEvent → ShapeState
  state_in None es = Starting []
  state_in (Some x) es = state_after (reader_in x) x.limits es

  abbrev pub drop_in : Option (ShapeStart A) → List ShapeEvent → Option Cause
  drop_in None es = None
  drop_in (Some x) es = drop_of (reader_in x) x.limits es

  abbrev pub IsLegalIn : Option (ShapeStart A) → List ShapeEvent → Type 0
  IsLegalIn None es = ⊥
  IsLegalIn (Some x) es = IsLegal (reader_in x) x.limits es

  -- what a request for a page is answered
  abbrev pub IsPagedIn : Option (ShapeStart A) → List ShapeEvent → Offset → Bool → Bool → Paged → Type 0
  IsPagedIn None es o live late p = ⊥
  IsPagedIn (Some x) es o live late p = IsPaged x.limits.chunk (state_after (reader_in x) x.limits es) o live late p
