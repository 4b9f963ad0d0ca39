-- Numbers that are drawn.
use Rattle.std.specs.Prelude.{ℕ, ◌+◌, ◌*◌, ◌/◌, ◌%◌, ◌^◌}

-- the state after one number was drawn
abbrev pub after : ℕ → ℕ
after x = (x * 6364136223846793005 + 1442695040888963407) % 2 ^ 64

-- the number below m that is drawn next
abbrev pub drawn : ℕ → ℕ → ℕ
drawn m x = after x / 2 ^ 33 % m
