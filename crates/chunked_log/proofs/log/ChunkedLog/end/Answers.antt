use Rattle.std.proofs.Common.{ap, ◌∙◌}
use Rattle.shape_base.specs.declared.offset.Offset.TheVariants.{At}
use Rattle.shape_log.specs.Texts.{end_of}
use Rattle.chunked_log.specs.Chunked.{Chunked}
use Rattle.chunked_log.proofs.Paging.{last_is}
use Rattle.chunked_log.proofs.log.ChunkedLog.end.Goals as goal

pub returns-clause-held : goal.returns-clause-held
returns-clause-held c = λ entries held. c.end.ensures ∙ ap end_of (ap (λ (l : Chunked). l.offsets) c.self.view_is ∙ held.offsets) ∙ last_is (At 0 0) entries
