-- What contracts see of all passes of one caller.
use Rattle.std.specs.Prelude.{◌≡◌, ℕ, Bool, List, [], Option, Some, IfSome}
use Rattle.std.specs.Ordering.{nat_cmp}
use Rattle.std.specs.FinMap.{FinMap}
use Rattle.std.specs.FinMap as fin
use Rattle.atomic_table.specs.Seated.{TableId}
use Rattle.lock_events.specs.Written.{Written}
use Rattle.shape_lock.specs.Passes.{Sight}
use Rattle.shared_shapes.specs.Events.{Noted, Place, place_of}

-- A pass of one shape. Where the holder registered the shape and gave it no snapshot yet, the list that is going to get a mark with its readiness
pub record Seated (A : Type 0) : Type 0 where
  pub pass : Sight A
  pub right : Option TableId

-- the lock is that of the seat's pass, and the list is the one that the seat has the right to mark, and has no mark yet
abbrev pub Holds : {A : Type 0} → Seated A → TableId → Written Bool → Type 0
Holds s lock ready = (lock ≡ s.pass.lock) × (s.right ≡ Some ready.of) × (ready.list ≡ [])

module _ {A : Type 0} where
  -- the pass is of the shape that was registered under the number, and the right is that of its registration
  pub record IsSeat (es : List (Noted A)) (number : ℕ) (s : Seated A) : Type 0 where
    pub place : Place A
    pub at : place_of es number ≡ Some place
    pub lock : s.pass.lock ≡ place.lock
    pub about : s.pass.fixed ≡ place.about
    pub right : IfSome s.right (λ list. list ≡ place.ready)

  -- each pass is of the shape that was registered under its number
  abbrev pub AreSeats : List (Noted A) → FinMap nat_cmp (Seated A) → Type 0
  AreSeats es seats = (number : ℕ) → IfSome (fin.get seats number) (IsSeat es number)

  -- The seat of this number is another, by a change that this relation allows; no other seat changes.
  pub record AtSeat (seats seats' : FinMap nat_cmp (Seated A)) (number : ℕ) (Changes : Seated A → Seated A → Type 0) : Type 0 where
    pub before : Seated A
    pub after : Seated A
    pub was : fin.get seats number ≡ Some before
    pub now : seats' ≡ fin.insert seats number after
    pub on : Changes before after
