-- What a step on a shape's lock tells the holder of a pass.
use Rattle.std.specs.Prelude.{◌≡◌, ℕ, Bool, true, false, List, [], ◌∷◌, ◌++◌, Option, None, Some, is_some}
use mathlib.Core.List.{IsPrefix}
use Rattle.front_lock.specs.Passes.{Known, mine, IsSameLock, IsSameShare}
use Rattle.shape_base.specs.declared.cause.Cause.{Cause}
use Rattle.shape_base.specs.declared.cause.Cause.TheVariants.{NoMemory}
use Rattle.shape_base.specs.declared.change.Tx.{Tx}
use Rattle.shape_base.specs.declared.limits.Limits.{Limits}
use Rattle.shape_base.specs.Tables.{Values, Table}
use Rattle.shape_base.specs.Snapshot.{Snapshot}
use Rattle.shape_base.specs.Visibility.{Visibility}
use Rattle.shape_base.specs.Shape.{Knows}
use Rattle.shape_json.specs.ShapeHistory.{Reader, ShapeEvent, Took, Dropped, snapshot_in, drop_at, drop_of}
use Rattle.shape_lock.specs.declared.start.ShapeStart.{ShapeStart}
use Rattle.lock_events.specs.Written.{Written}
use Rattle.shape_lock.specs.declared.fate.Fate.{Fate}
use Rattle.shape_lock.specs.declared.fate.Fate.TheVariants.{Appended, Buffered, Stopped, Found, Starved}
use Rattle.shape_lock.specs.Starts.{reader_in, IsLegalIn}

-- what the holder of a pass of a shape knows
abbrev pub Sight : Type 0 → Type 0
Sight A = Known ShapeEvent (Option (ShapeStart A))

-- an event, where there is one
abbrev pub made_if : Bool → ShapeEvent → List ShapeEvent
made_if true e = e ∷ []
made_if false e = []

module _ {A : Type 0} (knows : A → Knows) (unread : A → Values → ℕ → Bool) where
  -- The second is the first after a step of its holder, which made these events: what it has seen begins with what the first had, and is legal.
  pub record GoesOn (k k' : Sight A) (made : List ShapeEvent) : Type 0 where
    pub lock : IsSameLock k k'
    pub share : IsSameShare k k'
    pub seen : IsPrefix k.seen k'.seen
    pub mine : mine k' ≡ mine k ++ made
    pub legal : IsLegalIn knows unread k'.fixed k'.seen

-- ---- a snapshot

-- the snapshot of a shape that goes by this, by its visibility and its rows
abbrev pub snapshot_of : Knows → Visibility → Table → Snapshot
snapshot_of s visibility rows = record { visibility = visibility; oid = s.definition.oid; columns = s.definition.columns; rows = rows }

-- the list is the one that gets a mark with the shape's snapshot, and it has none yet
abbrev pub Owes : {A : Type 0} → Option (ShapeStart A) → Written Bool → Type 0
Owes None w = ⊥
Owes (Some x) w = (w.of ≡ x.seal.value.of) × (w.list ≡ [])

-- the snapshot was started over the shape's test, and its chunks have the shape's limit
abbrev pub Suits : {A : Type 0} → Option (ShapeStart A) → A → ℕ → Type 0
Suits None test least = ⊥
Suits (Some x) test least = (test ≡ x.test.value) × (least ≡ x.limits.chunk)

-- ---- a commit

-- the list is the one of the LSNs with which the shape is fed
abbrev pub IsFedBy : {A : Type 0} → Option (ShapeStart A) → Written ℕ → Type 0
IsFedBy None w = ⊥
IsFedBy (Some x) w = w.of ≡ x.feed.value.of

-- just one Took, or none where the shape was dropped before, or a drop for want of memory
abbrev pub made_by : Fate → Tx → ℕ → List ShapeEvent
made_by Appended tx others = Took tx others ∷ []
made_by Buffered tx others = Took tx others ∷ []
made_by (Stopped cause) tx others = Took tx others ∷ []
made_by (Found cause) tx others = []
made_by Starved tx others = Dropped NoMemory ∷ []

-- the LSN, where the commit was taken
abbrev pub taken_by : Fate → ℕ → List ℕ
taken_by Appended lsn = lsn ∷ []
taken_by Buffered lsn = lsn ∷ []
taken_by (Stopped cause) lsn = lsn ∷ []
taken_by (Found cause) lsn = []
taken_by Starved lsn = []

-- why the shape is dropped afterwards
abbrev pub gone_by : Fate → Option Cause
gone_by Appended = None
gone_by Buffered = None
gone_by (Stopped cause) = Some cause
gone_by (Found cause) = Some cause
gone_by Starved = Some NoMemory

-- What became of a commit, by the events before it: taken by a shape that has its snapshot, buffered by one that waits for it, taken and the shape dropped by it, or not taken since the shape was
-- dropped before, or is dropped for want of memory.
abbrev pub IsFate : Reader → Limits → List ShapeEvent → Tx → ℕ → Fate → Type 0
IsFate r l es tx others Appended = (drop_of r l es ≡ None) × (drop_at r l es (Took tx others) ≡ None) × (is_some (snapshot_in es) ≡ true)
IsFate r l es tx others Buffered = (drop_of r l es ≡ None) × (drop_at r l es (Took tx others) ≡ None) × (snapshot_in es ≡ None)
IsFate r l es tx others (Stopped cause) = (drop_of r l es ≡ None) × (drop_at r l es (Took tx others) ≡ Some cause)
IsFate r l es tx others (Found cause) = drop_of r l es ≡ Some cause
IsFate r l es tx others Starved = drop_of r l es ≡ None

module _ {A : Type 0} (knows : A → Knows) (unread : A → Values → ℕ → Bool) where
  abbrev pub IsFateOf : Option (ShapeStart A) → List ShapeEvent → Tx → ℕ → Fate → Type 0
  IsFateOf None es tx others fate = ⊥
  IsFateOf (Some x) es tx others fate = IsFate (reader_in knows unread x) x.limits es tx others fate

  -- A commit came to the shape: the events before it, and what became of it.
  pub record Feeds (k : Sight A) (tx : Tx) (others : ℕ) (fate : Fate) : Type 0 where
    pub before : List ShapeEvent
    pub seen : k.seen ≡ before ++ made_by fate tx others
    pub fate_is : IsFateOf k.fixed before tx others fate
