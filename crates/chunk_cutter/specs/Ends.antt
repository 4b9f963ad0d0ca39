-- Where the closed chunks of sizes end.
use Rattle.std.specs.Prelude.{ℕ, ◌+◌, nat_lt, List, [], ◌∷◌, length, find, Option}
use Rattle.shape_base.specs.Chunks.{closed_chunks}

-- the place behind each chunk, where the first of them begins in that place
abbrev pub ends_from : ℕ → List (List ℕ) → List ℕ
ends_from first [] = []
ends_from first (chunk ∷ chunks) = (first + length chunk) ∷ ends_from (first + length chunk) chunks

-- The places where the closed chunks end.
abbrev pub chunk_ends : ℕ → List ℕ → List ℕ
chunk_ends least sizes = ends_from 0 (closed_chunks least sizes)

-- The end of the chunk of the size in that place, where it is closed: the first end behind the place.
abbrev pub chunk_end : ℕ → List ℕ → ℕ → Option ℕ
chunk_end least sizes place = find (λ end. nat_lt place end) (chunk_ends least sizes)
