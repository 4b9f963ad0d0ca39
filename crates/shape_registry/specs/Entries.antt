-- How the maps of a registry keep its live handles.
use Rattle.std.specs.Prelude.{◌≡◌, ℕ, ◌≤◌, List, Option, Some, IfSome, IsSomeAnd}
use Rattle.std.specs.List.{AllByRecursion}
use Rattle.std.specs.Ordering.{nat_cmp}
use Rattle.std.specs.Map.{lookup, keys_of}
use Rattle.std.specs.BTreeMap.{is_at}
use Rattle.std.specs.List.Sorted.{IsStrictlySortedBy}
use Rattle.shape_base.specs.RegistryHistory.{LiveHandle, Taken}
use Rattle.shape_registry.specs.declared.handles.LiveEntry.{LiveEntry}
use Rattle.shape_registry.specs.declared.names.Live.{Live}
use Rattle.shape_registry.specs.declared.handles.LastTaken.{LastTaken}

abbrev pub handle_in : ℕ × LiveEntry → LiveHandle
handle_in e = record { number = e.0; identity = e.1.identity; table = e.1.table; before = e.1.before; ready = e.1.is_ready }

abbrev pub taken_in : LastTaken → Taken
taken_in t = record { lsn = t.lsn; xid = t.xid }

-- what is kept under the identity of a live handle, and of an entry
abbrev pub live_of : LiveHandle → Live
live_of l = record { number = l.number; is_ready = l.ready }

abbrev pub name_of : ℕ → LiveEntry → Live
name_of number x = record { number = number; is_ready = x.is_ready }

-- what the map of numbers finds
abbrev pub entry_at : List (ℕ × LiveEntry) → ℕ → Option LiveEntry
entry_at entries number = lookup (is_at (nat_cmp number)) entries

-- What identities find and the map of numbers keep the same handles, and none has a number above the last one given.
pub record AreLinked (names : List ℕ → Option Live) (entries : List (ℕ × LiveEntry)) (given : ℕ) : Type 0 where
  pub ordered : IsStrictlySortedBy nat_cmp (keys_of entries)
  -- each handle is found under its identity
  pub forth : (number : ℕ) → IfSome (entry_at entries number) (λ x. names x.identity ≡ Some (name_of number x))
  -- what is found under an identity has it
  pub back : (identity : List ℕ) → IfSome (names identity) (λ live. IsSomeAnd (entry_at entries live.number) (λ x. x.identity ≡ identity))
  pub below : AllByRecursion (λ number. number ≤ given) (keys_of entries)
