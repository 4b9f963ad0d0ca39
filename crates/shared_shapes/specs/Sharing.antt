-- What one pass gets of another.
use Rattle.std.specs.Prelude.{◌≡◌, ℕ, Bool, List, [], Option, None, Some, IfSome, IsSomeAnd}
use Rattle.std.specs.Ordering.{nat_cmp}
use Rattle.std.specs.FinMap.{FinMap}
use Rattle.std.specs.FinMap as fin
use mathlib.Core.List.{IsPrefix}
use Rattle.front_lock.specs.Passes.{Known, mine, IsSameLock, IsHalfOf}
use Rattle.shared_shapes.specs.Seats.{Seated}

module _ {E F : Type 0} where
  -- The second has half the share of the first, has seen as much, and has these marks of its own events.
  pub record Halves (k k' : Known E F) (own : List Bool) : Type 0 where
    pub lock : IsSameLock k k'
    pub seen : k'.seen ≡ k.seen
    pub own_is : k'.own ≡ own
    pub share : IsHalfOf k k'

  -- The second is the first, and has seen these events too.
  pub record Tells (k : Known E F) (told : List E) (k' : Known E F) : Type 0 where
    pub lock : IsSameLock k k'
    pub seen : IsPrefix k.seen k'.seen
    pub told_is : IsPrefix told k'.seen
    pub own : k'.own ≡ k.own
    pub mine : mine k' ≡ mine k

-- ---- passes of shapes

module _ {A : Type 0} where
  -- the seat knows what it knew; its share may be another
  pub record IsSame (s s' : Seated A) : Type 0 where
    pub lock : IsSameLock s.pass s'.pass
    pub seen : s'.pass.seen ≡ s.pass.seen
    pub own : s'.pass.own ≡ s.pass.own
    pub right : s'.right ≡ s.right

  -- a seat of the same shape that has seen as much, with no events of its own and no right
  pub record IsCopy (s t : Seated A) : Type 0 where
    pub lock : IsSameLock s.pass t.pass
    pub seen : t.pass.seen ≡ s.pass.seen
    pub own : t.pass.own ≡ []
    pub right : t.right ≡ None

  abbrev pub AreBoth : (Seated A → Seated A → Type 0) → Option (Seated A) → Option (Seated A) → Type 0
  AreBoth R None None = Unit {0}
  AreBoth R None (Some t) = ⊥
  AreBoth R (Some s) None = ⊥
  AreBoth R (Some s) (Some t) = R s t

  -- both have seats of the same numbers, and each two are so related
  abbrev pub AreEach : (Seated A → Seated A → Type 0) → FinMap nat_cmp (Seated A) → FinMap nat_cmp (Seated A) → Type 0
  AreEach R seats seats' = (number : ℕ) → AreBoth R (fin.get seats number) (fin.get seats' number)

  -- the second is of the first one's shape, and has seen at least as much of it
  pub record HasSeen (s t : Seated A) : Type 0 where
    pub lock : t.pass.lock ≡ s.pass.lock
    pub seen : IsPrefix s.pass.seen t.pass.seen

  -- of each shape of which was told there is a seat that has seen at least as much
  abbrev pub AreTold : FinMap nat_cmp (Seated A) → FinMap nat_cmp (Seated A) → Type 0
  AreTold told seats = (number : ℕ) → IfSome (fin.get told number) (λ s. IsSomeAnd (fin.get seats number) (HasSeen s))

  -- who learns has seats of the same locks, and what is told has no events of the teller
  abbrev pub Fits : FinMap nat_cmp (Seated A) → FinMap nat_cmp (Seated A) → Type 0
  Fits told seats = (number : ℕ) → IfSome (fin.get told number) (λ s. (s.pass.own ≡ []) × IfSome (fin.get seats number) (λ t. t.pass.lock ≡ s.pass.lock))

  abbrev pub AreBare : FinMap nat_cmp (Seated A) → Type 0
  AreBare told = (number : ℕ) → IfSome (fin.get told number) (λ s. s.pass.own ≡ [])
