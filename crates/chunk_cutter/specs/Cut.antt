-- What contracts see of a cutter, and the sizes that it has cut.
use Rattle.std.specs.Prelude.{◌≡◌, ℕ, ◌<◌, List, length}
use Rattle.std.specs.List.{sum}
use Rattle.shape_base.specs.Chunks.{open_chunk}
use Rattle.chunk_cutter.specs.Ends.{chunk_ends}

-- what a chunk's sizes come to at least, where the closed chunks end, the sum of the open one, how many sizes there were, and how many more take no memory
pub record Cut : Type 0 where
  pub least : ℕ
  pub ends : List ℕ
  pub rest : ℕ
  pub count : ℕ
  pub spare : ℕ

-- It has cut these sizes, from the first on.
pub record HasCut (cut : Cut) (sizes : List ℕ) : Type 0 where
  pub some : 0 < cut.least
  pub ends : cut.ends ≡ chunk_ends cut.least sizes
  pub rest : cut.rest ≡ sum (open_chunk cut.least sizes)
  pub count : cut.count ≡ length sizes
