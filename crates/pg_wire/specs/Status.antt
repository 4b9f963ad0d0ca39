-- What a client sends.
use Rattle.std.specs.Prelude.{ℕ, List, [], ◌∷◌, ◌++◌}
use Rattle.byte_format.specs.Format.{int32, int64}

-- CopyData with a standby status update (PostgreSQL manual, 55.4): written, flushed and applied up to the same position, the client's time, and no reply wanted.
abbrev pub status_bytes : ℕ → ℕ → List ℕ
status_bytes position time = 100 ∷ int32.spell 38 ++ 114 ∷ int64.spell position ++ int64.spell position ++ int64.spell position ++ int64.spell time ++ 0 ∷ []
