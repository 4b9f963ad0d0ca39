-- What each cutter keeps.
use Rattle.std.specs.Prelude.{◌+◌, ◌≤◌, ◌<◌, ◌^◌, vec_len, vec_capacity}
use Rattle.chunk_cutter.specs.declared.cutter.Cutter.TheInside.{Inside}

-- what may still be counted has room, and is within 64 bits
pub record IsCutter (cutter : Inside) : Type 0 where
  pub some : 1 ≤ cutter.least
  pub room : vec_len cutter.ends + cutter.spare ≤ vec_capacity cutter.ends
  pub small : cutter.count + cutter.spare < 2 ^ 64
