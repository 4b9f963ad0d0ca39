use Rattle.std.proofs.Common.{◌∙◌, List, ℕ, ap, length, map, arith}
use Rattle.std.specs.List.{sum}
use Rattle.chunked_log.specs.Chunked.{Texts}
use Rattle.chunked_log.proofs.Appending.{sum_texts}
use Rattle.chunked_log.proofs.Paging.{sizes_are}
use Rattle.chunked_log.proofs.written.Written.bytes.Goals as goal

pub returns-clause-texts : goal.returns-clause-texts
returns-clause-texts c =
    let w = c.self.inside in
    omega (arith, c.len.ensures, sum_texts w.lines.items w.buffer.items c.self.invariant.sizes, c.self.invariant.sizes, ap (λ (x : Texts). sum (map length x.texts)) c.self.view_is)

pub returns-clause-writes : goal.returns-clause-writes
returns-clause-writes c = λ entries writes. returns-clause-texts c ∙ ap (λ (ts : List (List ℕ)). sum (map length ts)) writes.texts ∙ ap sum (sizes_are entries)
