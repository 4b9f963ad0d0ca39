-- What a cache ends as, once a reference to a reply of it has ended.
use Rattle.std.specs.Prelude.{◌≡◌, ⊤, List}
use Rattle.std.specs.Borrow.{Fml, MutBor, follows_so}
use mathlib.Core.Option.{none}
use Rattle.cache_core.specs.Entries.{Cached, Contents}
use Rattle.cache_core.specs.contracts.cache.Cache.{the_row}

-- it keeps these entries, and may keep as many as before
abbrev pub ends_as : MutBor Contents → List Cached → Fml
ends_as c es = follows_so the_row the_row c.ghost_name none (λ _ _. ⊤) (λ n. n ≡ record { capacity = c.now.capacity; entries = es })
