-- A law over the definition of what a head is answered with.
use Rattle.std.specs.Prelude.{◌≡◌, ◌⊎◌, ℕ, List, Result, Err}
use Rattle.http_edge.specs.declared.request.Request.{Request}
use Rattle.http_edge.specs.declared.request.HeadError.{HeadError}
use Rattle.http_edge.specs.declared.request.HeadError.TheVariants as errors
use Rattle.http_edge.specs.Head.{IsHeadAnswer}

-- The bytes determine the answer: two answers to them are equal, unless memory was wanted.
abbrev pub HeadsTell : Type 0
HeadsTell = (input : List ℕ) (a b : Result Request HeadError) → IsHeadAnswer input a → IsHeadAnswer input b
    → (a ≡ b) ⊎ ((a ≡ Err errors.OutOfMemory) ⊎ (b ≡ Err errors.OutOfMemory))
