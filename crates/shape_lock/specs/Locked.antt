-- What a state under a shape's lock stands for.
use Rattle.std.specs.Prelude.{◌≡◌, ℕ, Bool, true, false, List, [], ◌∷◌, Option, Some, map, is_some}
use Rattle.std.specs.declared.snapshot.Snapshot.{Snapshot}
use Rattle.shape_base.specs.declared.limits.Limits.{Limits}
use Rattle.shape_base.specs.Tables.{Values}
use Rattle.shape_base.specs.Shape.{Knows}
use Rattle.shape_base.specs.declared.change.Tx.{Tx}
use Rattle.shape_json.specs.ShapeHistory.{ShapeEvent, snapshot_in, taken}
use Rattle.shape_state.specs.Reading.{reader_of}
use Rattle.shape_state.specs.Standing.{Stands}
use Rattle.shape_state.specs.declared.state.State.{State}
use Rattle.shape_lock.specs.declared.start.ShapeStart.{ShapeStart}
use Rattle.shape_lock.specs.declared.marks.Marks.{Marks}

-- data that only clauses read
abbrev pub kept : {A : Type 0} → A → Snapshot A
kept x = record { marker = record {}; value = x }

-- the data of a lock that is made with this state
abbrev pub start_of : {A : Type 0} → A → Limits → Marks → ShapeStart A
start_of test limits m = record { test = kept test; limits = limits; feed = m.feed; seal = m.seal }

-- the LSNs of the commits that came to a shape
abbrev pub lsns : List ShapeEvent → List ℕ
lsns es = map (λ (tx : Tx). tx.lsn) (taken es)

-- one mark where the snapshot came
abbrev pub marks_of : Bool → List Bool
marks_of true = true ∷ []
marks_of false = []

module _ {A : Type 0} (knows : A → Knows) (unread : A → Values → ℕ → Bool) where
  -- The state stands for the events: the shape does, the LSNs of the commits among them are what its one list says, and its snapshot came where the other has a mark.
  pub record IsLocked (test : A) (state : State) (marks : Marks) (f : Option (ShapeStart A)) (es : List ShapeEvent) : Type 0 where
    pub about : f ≡ Some (start_of test state.limits marks)
    pub stands : Stands (reader_of (knows test) (unread test)) state es
    pub same_feed : marks.fed.of ≡ marks.feed.value.of
    pub same_seal : marks.sealed.of ≡ marks.seal.value.of
    pub fed_is : marks.fed.list ≡ lsns es
    pub sealed_is : marks.sealed.list ≡ marks_of (is_some (snapshot_in es))
