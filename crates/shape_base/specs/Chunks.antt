-- How a log is cut into chunks, by the sizes of its entries.
use Rattle.std.specs.Prelude.{◌≡◌, ℕ, ◌+◌, ◌<◌, ◌≤◌, nat_le, if◌then◌else◌, List, [], ◌∷◌, ◌++◌}
use Rattle.std.specs.List.{sum}

-- just full: its sizes come to at least that, and without the last one they do not
pub record IsChunk (least : ℕ) (run : List ℕ) : Type 0 where
  pub front : List ℕ
  pub last : ℕ
  pub is : run ≡ front ++ last ∷ []
  pub short : sum front < least
  pub whole : least ≤ sum run

-- the closed chunks, where the open one holds this run so far
abbrev pub chunks_from : ℕ → List ℕ → List ℕ → List (List ℕ)
chunks_from least run [] = []
chunks_from least run (size ∷ sizes) = if nat_le least (sum run + size) then (run ++ size ∷ []) ∷ chunks_from least [] sizes else chunks_from least (run ++ size ∷ []) sizes

-- The closed chunks: from the front on, the shortest runs of sizes whose sum is at least that.
abbrev pub closed_chunks : ℕ → List ℕ → List (List ℕ)
closed_chunks least sizes = chunks_from least [] sizes

abbrev pub open_from : ℕ → List ℕ → List ℕ → List ℕ
open_from least run [] = run
open_from least run (size ∷ sizes) = if nat_le least (sum run + size) then open_from least [] sizes else open_from least (run ++ size ∷ []) sizes

-- The rest, past the last closed chunk.
abbrev pub open_chunk : ℕ → List ℕ → List ℕ
open_chunk least sizes = open_from least [] sizes
