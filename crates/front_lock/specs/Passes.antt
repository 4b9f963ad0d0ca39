-- What a clause sees of a pass, and what holds of the seat in it.
use Rattle.std.specs.Prelude.{◌≡◌, ℕ, ◌+◌, ◌-◌, max, ◌<◌, ◌≤◌, List, [], ◌∷◌, length, Bool, Option, None}
use Rattle.atomic_table.specs.Seated.{TableId}
use Rattle.atomic_table.specs.declared.shared.Seat.{Seat}
use Rattle.front_lock.specs.declared.view.View.{View}
use Rattle.front_lock.specs.declared.view.Stage.TheVariants.{Idle, Noted}
use Rattle.front_lock.specs.Rule.{picked, doubled, staged}

-- The lock, its data, the events that were seen, which of their places are one's own, and the share, which is `part` halved `depth` times
pub record Known (E F : Type 0) : Type 0 where
  pub lock : TableId
  pub fixed : F
  pub seen : List E
  pub own : List Bool
  pub part : ℕ
  pub depth : ℕ

module _ {E F : Type 0} where
  -- one's own events, in order
  abbrev pub mine : Known E F → List E
  mine p = picked p.own p.seen

  -- the whole share: there is no other pass
  abbrev pub IsWhole : Known E F → Type 0
  IsWhole p = p.part ≡ doubled p.depth 1

  -- the second has half the share that the first has
  abbrev pub IsHalfOf : Known E F → Known E F → Type 0
  IsHalfOf p q = (q.part ≡ p.part) × (q.depth ≡ p.depth + 1)

  -- the second has the share that the first has
  abbrev pub IsSameShare : Known E F → Known E F → Type 0
  IsSameShare p q = (q.part ≡ p.part) × (q.depth ≡ p.depth)

  -- the third has the sum of the shares of the first two
  abbrev pub IsShareOfBoth : Known E F → Known E F → Known E F → Type 0
  IsShareOfBoth p q r = (r.part ≡ doubled (max p.depth q.depth - p.depth) p.part + doubled (max p.depth q.depth - q.depth) q.part) × (r.depth ≡ max p.depth q.depth)

  -- the second is of the same lock, with the same data
  abbrev pub IsSameLock : Known E F → Known E F → Type 0
  IsSameLock p q = (q.lock ≡ p.lock) × (q.fixed ≡ p.fixed)

module _ {S E F : Type 0} where
  -- what a clause sees of a seat
  abbrev pub known : Seat (Option S) (View E F) → Known E F
  known p = record { lock = p.table_id; fixed = p.me.0.fixed.value; seen = p.me.0.seen; own = p.me.0.own; part = p.me.0.part; depth = p.me.0.depth }

  -- a seat with a share, and with no ticket
  pub record IsPass (p : Seat (Option S) (View E F)) : Type 0 where
    pub idle : p.me ≡ (staged Idle p.me.0, [])
    pub shares : 0 < p.me.0.part
    pub short : length p.me.0.own ≤ length p.me.0.seen

  -- a seat with a share, whose ticket is served, and which has emptied the slot
  pub record IsHeld (p : Seat (Option S) (View E F)) (ticket : ℕ) : Type 0 where
    pub held : p.me ≡ (staged (Noted ticket) p.me.0, (0, None) ∷ [])
    pub shares : 0 < p.me.0.part
    pub short : length p.me.0.own ≤ length p.me.0.seen

  -- a seat with no share, no ticket and no own events
  pub record IsNote (p : Seat (Option S) (View E F)) : Type 0 where
    pub idle : p.me ≡ (staged Idle p.me.0, [])
    pub bare : p.me.0.own ≡ []
    pub no_part : p.me.0.part ≡ 0
    pub no_depth : p.me.0.depth ≡ 0
