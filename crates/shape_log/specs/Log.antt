-- What each log keeps.
use Rattle.std.specs.Prelude.{◌≡◌, ◌+◌, ◌≤◌, true, vec_len, vec_capacity}
use Rattle.shape_base.specs.declared.offset.Offset.TheVariants.{At}
use Rattle.shape_base.specs.Offsets.{rises_after}
use Rattle.shape_log.specs.declared.log.Log.TheInside.{Inside}

-- the offsets rise from after 0_0, and what may still be appended has room
pub record IsLog (log : Inside) : Type 0 where
  pub rises : rises_after (At 0 0) log.entries.items ≡ true
  pub room : vec_len log.entries + log.spare ≤ vec_capacity log.entries
