-- The live handles of identities, in maps of which an identity's hash picks one.
use Rattle.std.specs.Prelude.{◌≡◌, ℕ, ◌%◌, ◌&&◌, ◌==◌, true, cond, if◌then◌else◌, List, Option, None, Some, slice_get}
use Rattle.std.specs.Option.{option_and_then}
use Rattle.std.specs.Ordering.{nat_cmp}
use Rattle.std.specs.Cmp.Lexicographic.{slice_cmp}
use Rattle.std.specs.Map.{lookup}
use Rattle.std.specs.BTreeMap.{is_at}
use Rattle.std.specs.Hash.FoldHasher.{initial, write, finish}
use Rattle.shape_base.specs.declared.handle.Handle.{Handle}
use Rattle.shape_base.specs.Tables.{same_text}
use Rattle.shape_registry.specs.declared.found.Found.{Found}
use Rattle.shape_registry.specs.declared.found.Found.TheVariants as found
use Rattle.shape_registry.specs.declared.names.Live.{Live}

-- what each of the maps has
abbrev pub Parts : Type 0
Parts = List (List (List ℕ × Live))

-- the place of the map that the hash picks
unfoldable pub part_of : List ℕ → ℕ
part_of identity = finish (write initial identity) % 1024

-- the handle of an identity: what that map has for it
abbrev pub name_under : Parts → List ℕ → Option Live
name_under parts identity = option_and_then (lookup (is_at (slice_cmp nat_cmp identity))) (slice_get parts (part_of identity))

-- Afterwards that identity has this handle, or none, and each other one has what it had.
abbrev pub Renames : Parts → Parts → List ℕ → Option Live → Type 0
Renames old new identity live = (other : List ℕ) → name_under new other ≡ cond (is_at (slice_cmp nat_cmp identity) other) live (name_under old other)

-- a handle that is ready
abbrev pub now_ready : Live → Live
now_ready live = record live { is_ready = true }

-- ---- what is found for a handle that is named, by the one that is live under its identity

abbrev pub found_ready : Live → Found
found_ready live = if live.is_ready then found.Ready live.number else found.Starting live.number

abbrev pub ready_of : Live → Option ℕ
ready_of live = if live.is_ready then Some live.number else None

abbrev pub found_handle : List ℕ → Handle → Option Live → Found
found_handle run h None = found.Gone None
found_handle run h (Some live) = if same_text h.run run && (h.number == live.number) then found_ready live else found.Gone (ready_of live)
