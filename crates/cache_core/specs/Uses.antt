-- The uses of a cache from its start on.
use Rattle.std.specs.Prelude.{◌≡◌, ℕ, true, if◌then◌else◌, List, [], ◌∷◌, Option, None, Some}
use Rattle.shape_base.specs.declared.reply.Reply.{Reply}
use Rattle.cache_core.specs.Entries.{Cached, is_for, is_young, after_put, after_get}

-- a put, or a get of a target at a moment
pub data Use : Type 0 where
  Put : Cached → Use
  Got : List ℕ → ℕ → Use

abbrev pub after_use : ℕ → Use → List Cached → List Cached
after_use capacity (Put e) es = after_put capacity e es
after_use capacity (Got target now) es = after_get target now es

-- the entries after these uses, of which the latest stands first
abbrev pub entries_after : ℕ → List Use → List Cached
entries_after capacity [] = []
entries_after capacity (u ∷ earlier) = after_use capacity u (entries_after capacity earlier)

-- the last that was put for a target
abbrev pub last_put : List ℕ → List Use → Option Cached
last_put target [] = None
last_put target (Put e ∷ earlier) = if is_for target e then Some e else last_put target earlier
last_put target (Got other now ∷ earlier) = last_put target earlier

-- The reply is the last that was put for the target, and is younger than its age.
pub record IsLastPut (target : List ℕ) (now : ℕ) (uses : List Use) (reply : Reply) : Type 0 where
  pub entry : Cached
  pub last : last_put target uses ≡ Some entry
  pub reply_is : entry.reply ≡ reply
  pub young : is_young now entry ≡ true
