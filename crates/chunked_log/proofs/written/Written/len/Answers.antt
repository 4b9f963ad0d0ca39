use Rattle.std.proofs.Common.{ap, length, arith}
use Rattle.chunked_log.specs.Chunked.{Texts}
use Rattle.chunked_log.proofs.Appending.{count_texts}
use Rattle.chunked_log.proofs.written.Written.len.Goals as goal

pub returns-clause-texts : goal.returns-clause-texts
returns-clause-texts c =
    let w = c.self.inside in
    omega (arith, c.len.ensures, count_texts w.lines.items w.buffer.items, ap (λ (x : Texts). length x.texts) c.self.view_is)
