use Rattle.std.proofs.Common.{◌≡◌, List, ℕ, ◌++◌, take, drop}
use Rattle.chunk_cutter.specs.Cut.{HasCut}
use Rattle.chunked_log.specs.Lines.{offsets_in, sizes_in, texts_in}
use Rattle.chunked_log.proofs.Appending.{IsLeft}
use Rattle.chunked_log.proofs.log.append_lines.Given as goal

-- what stands in the log and what is left are all texts, and the sizes so far were counted
abbrev pub invariant-loop-line : goal.invariant-loop-line
invariant-loop-line l = record {
  left : IsLeft l.log.offsets (l.fn.log.offsets ++ offsets_in l.fn.lines) l.log.texts (l.fn.log.texts ++ texts_in l.fn.lines l.fn.texts) (drop l.line-index l.fn.lines) l.rest l.log.spare l.cutter.spare l.log.room;
  cut : (sizes : List ℕ) → HasCut l.fn.cutter sizes → HasCut l.cutter (sizes ++ sizes_in (take l.line-index l.fn.lines));
  least : l.cutter.least ≡ l.fn.cutter.least;
}
