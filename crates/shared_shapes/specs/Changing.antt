-- What a caller makes of a shape that it registered: its snapshot is given, or it is dropped.
use Rattle.std.specs.Prelude.{◌≡◌, ℕ, Bool, false, [], ◌∷◌, Option, None, IsSome}
use Rattle.std.specs.Ordering.{nat_cmp}
use Rattle.std.specs.FinMap.{FinMap}
use Rattle.shape_base.specs.declared.cause.Cause.{Cause}
use Rattle.shape_base.specs.Tables.{Values}
use Rattle.shape_base.specs.Snapshot.{Snapshot}
use Rattle.shape_base.specs.Shape.{Knows}
use Rattle.shape_base.specs.RegistryHistory.{is_live}
use Rattle.shape_json.specs.ShapeHistory.{Snapped, Dropped}
use Rattle.shape_state.specs.declared.shape.ReadyError.{ReadyError}
use Rattle.shape_state.specs.Answers.{IsReadyError}
use Rattle.shape_lock.specs.Starts.{drop_in}
use Rattle.shape_lock.specs.Passes.{GoesOn, made_if}
use Rattle.shared_shapes.specs.Events.{events_of}
use Rattle.shared_shapes.specs.Passes.{RegSight, StepsOn, removed_if, settled_if}
use Rattle.shared_shapes.specs.Seats.{Seated, AtSeat}

module _ {A : Type 0} (knows : A → Knows) (unread : A → Values → ℕ → Bool) where
  -- ---- one shape

  -- its holder gave it the snapshot, which leaves it dropped for this cause, or standing; the right was for once
  pub record Snaps (snapshot : Snapshot) (gone : Option Cause) (s s' : Seated A) : Type 0 where
    pub on : GoesOn knows unread s.pass s'.pass (Snapped snapshot ∷ [])
    pub gone_is : gone ≡ drop_in knows unread s'.pass.fixed s'.pass.seen
    pub right : s'.right ≡ None

  -- it did not take the snapshot, for this reason, and its holder still has the right
  pub record Refuses (e : ReadyError) (s s' : Seated A) : Type 0 where
    pub on : GoesOn knows unread s.pass s'.pass []
    pub cause : IsReadyError (drop_in knows unread s'.pass.fixed s'.pass.seen) e
    pub right : s'.right ≡ s.right

  -- its holder dropped it, or it was dropped before
  pub record Drops (cause : Cause) (did : Bool) (s s' : Seated A) : Type 0 where
    pub on : GoesOn knows unread s.pass s'.pass (made_if did (Dropped cause))
    pub dropped : IsSome (drop_in knows unread s'.pass.fixed s'.pass.seen)
    pub right : s'.right ≡ s.right

  -- ---- a shape and the registry

  -- The shape has its snapshot. Then the number became ready, or was removed where the snapshot's own step left the shape dropped; or neither, where the number is live no more.
  pub record Finishes (k k' : RegSight A) (seats seats' : FinMap nat_cmp (Seated A)) (number : ℕ) (snapshot : Snapshot) (gone : Option Cause) : Type 0 where
    pub shape : AtSeat seats seats' number (Snaps snapshot gone)
    pub wrote : Bool
    pub registry : StepsOn k k' (settled_if wrote number gone)
    pub left : wrote ≡ false → is_live (events_of k'.seen) number ≡ false

  -- The shape has no snapshot, and nothing was written in the registry.
  pub record IsUnfinished (k k' : RegSight A) (seats seats' : FinMap nat_cmp (Seated A)) (number : ℕ) (e : ReadyError) : Type 0 where
    pub shape : AtSeat seats seats' number (Refuses e)
    pub registry : k' ≡ k

  -- The shape is dropped, and its number live no more.
  pub record IsDropped (k k' : RegSight A) (seats seats' : FinMap nat_cmp (Seated A)) (number : ℕ) (cause : Cause) : Type 0 where
    pub did : Bool
    pub shape : AtSeat seats seats' number (Drops cause did)
    pub wrote : Bool
    pub registry : StepsOn k k' (removed_if wrote number cause)
    pub dead : is_live (events_of k'.seen) number ≡ false
