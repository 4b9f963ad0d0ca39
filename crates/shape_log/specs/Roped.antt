-- Bytes in several buffers, one behind the other.
use Rattle.std.specs.Prelude.{◌≡◌, ℕ, ◌+◌, List, [], ◌∷◌, ◌++◌, length}
use Rattle.shape_log.specs.declared.rope.Part.{Part}

-- all bytes of these parts
abbrev pub flat : List Part → List ℕ
flat [] = []
flat (p ∷ ps) = p.bytes ++ flat ps

-- each part begins where the one before it ends, the first in that place and the last ends in that
abbrev pub ArePlaced : ℕ → List Part → ℕ → Type 0
ArePlaced first [] end = first ≡ end
ArePlaced first (p ∷ ps) end = (p.start ≡ first) × ArePlaced (first + length p.bytes) ps end

-- all bytes, and how many more take no memory
pub record Roped : Type 0 where
  pub bytes : List ℕ
  pub room : ℕ
