-- Which transactions a snapshot shows (PostgreSQL manual, pg_current_snapshot).
use Rattle.std.specs.Prelude.{◌≡◌, ℕ, ◌+◌, ◌-◌, ◌%◌, ◌≤◌, nat_le, Bool, true, not, ◌&&◌, ◌||◌, ◌==◌, nat_lt, if◌then◌else◌, List, [], ◌∷◌, Option, None, Some}
use Rattle.std.specs.List.{list_any}

-- The parts of a visibility text `xmin:xmax:list`, transaction ids of 64 bits.
pub record Visibility : Type 0 where
  pub xmin : ℕ
  pub xmax : ℕ
  pub listed : List ℕ

-- numbers rise, from low up to below high
abbrev pub rise_between : ℕ → ℕ → List ℕ → Bool
rise_between low high [] = true
rise_between low high (n ∷ ns) = nat_le low n && (nat_lt n high && rise_between (n + 1) high ns)

-- The parts are in order: xmin is from 1 up to xmax, and the listed ids rise from xmin up to below xmax.
pub record IsVisibility (v : Visibility) : Type 0 where
  pub first : 1 ≤ v.xmin
  pub order : v.xmin ≤ v.xmax
  pub listed : rise_between v.xmin v.xmax v.listed ≡ true

-- how far above `xmax - 2^31` the id of 64 bits lies whose low 32 bits are x
abbrev pub ahead : ℕ → ℕ → ℕ
ahead x xmax = (x + 6442450944 - xmax % 4294967296) % 4294967296

-- The id of 64 bits from `xmax - 2^31` up to below `xmax + 2^31` whose low 32 bits are x; none where it is below 0.
abbrev pub full : ℕ → ℕ → Option ℕ
full x xmax = if nat_lt (xmax + ahead x xmax) 2147483648 then None else Some (xmax + ahead x xmax - 2147483648)

abbrev pub is_visible_id : Visibility → Option ℕ → Bool
is_visible_id v None = true
is_visible_id v (Some id) = nat_lt id v.xmin || (nat_lt id v.xmax && not (list_any (λ l. id == l) v.listed))

-- A transaction is visible where it is below xmin, or below xmax and not listed.
abbrev pub is_visible : Visibility → ℕ → Bool
is_visible v xid = is_visible_id v (full xid v.xmax)
