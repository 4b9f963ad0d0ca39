-- Handles, and their texts.
use Rattle.std.specs.Prelude.{◌≡◌, ℕ, ◌<◌, ◌≤◌, ◌^◌, Bool, true, ◌&&◌, ◌||◌, ◌==◌, nat_le, List, ◌∷◌, ◌++◌, length, decimal}
use Rattle.std.specs.List.{list_all}
use Rattle.shape_base.specs.declared.handle.Handle.{Handle}

-- a lower-case letter, a digit or a hyphen
abbrev pub is_run_byte : ℕ → Bool
is_run_byte b = (nat_le 97 b && nat_le b 122) || ((nat_le 48 b && nat_le b 57) || (b == 45))

-- the name of a run of the server: 1 to 36 such bytes
abbrev pub is_run : List ℕ → Bool
is_run run = nat_le 1 (length run) && (nat_le (length run) 36 && list_all is_run_byte run)

-- numbers count from 1, and have 64 bits
pub record IsHandle (h : Handle) : Type 0 where
  pub counted : 1 ≤ h.number
  pub small : h.number < 2 ^ 64
  pub named : is_run h.run ≡ true

-- the number in decimal, a hyphen, and the name of the run
abbrev pub handle_text : Handle → List ℕ
handle_text h = decimal h.number ++ 45 ∷ h.run
