-- The places of the exchanges that have no reply.
use Rattle.std.specs.Prelude.{◌≡◌, ℕ, Bool, false, ◌&&◌, ◌==◌, if◌then◌else◌, List, Option, None, Some}
use Rattle.std.specs.List.{list_any}
use Rattle.std.specs.Ordering.{nat_cmp}
use Rattle.std.specs.BTreeSet.{BTreeSet, contains}
use Rattle.std.specs.BTreeMap.{BTreeMap, get}
use Rattle.core_exchanges.specs.declared.indexes.Indexes.{Indexes}

-- a place is one of these
abbrev pub is_among : ℕ → List ℕ → Bool
is_among place places = list_any (λ p. p == place) places

-- it is the number
abbrev pub is_number : ℕ → Option ℕ → Bool
is_number n None = false
is_number n (Some m) = m == n

-- the exchange in a place has no reply
abbrev pub is_open_in : Indexes → ℕ → Bool
is_open_in t place = contains nat_cmp t.unanswered place

abbrev pub has_place : Option (BTreeSet ℕ) → ℕ → Bool
has_place None place = false
has_place (Some places) place = contains nat_cmp places place

abbrev pub has_at : BTreeMap ℕ (BTreeSet ℕ) → ℕ → ℕ → Bool
has_at m n place = has_place (get nat_cmp m n) place

-- the exchange in a place has no reply, and awaits a number
abbrev pub awaits_in : Indexes → ℕ → ℕ → Bool
awaits_in t n place = has_at t.awaiting n place

-- one place is marked, or is no longer
abbrev pub OpensAt : Indexes → Indexes → ℕ → Bool → Type 0
OpensAt old new place mark = (p : ℕ) → is_open_in new p ≡ (if place == p then mark else is_open_in old p)

abbrev pub AwaitsAt : BTreeMap ℕ (BTreeSet ℕ) → BTreeMap ℕ (BTreeSet ℕ) → Option ℕ → ℕ → Bool → Type 0
AwaitsAt old new number place mark = (n p : ℕ) → has_at new n p ≡ (if is_number n number && (place == p) then mark else has_at old n p)

pub record Marks (old new : Indexes) (number : Option ℕ) (place : ℕ) (mark : Bool) : Type 0 where
  pub unanswered : OpensAt old new place mark
  pub awaits : AwaitsAt old.awaiting new.awaiting number place mark

-- all is as it was
pub record Spares (old new : Indexes) : Type 0 where
  pub unanswered : (p : ℕ) → is_open_in new p ≡ is_open_in old p
  pub awaits : (n p : ℕ) → awaits_in new n p ≡ awaits_in old n p
