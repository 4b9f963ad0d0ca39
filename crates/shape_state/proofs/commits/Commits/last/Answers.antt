use Rattle.std.proofs.Common.{◌∙◌, sym, ap, None}
use Rattle.shape_state.specs.Buffered.{Buffered}
use Rattle.shape_state.specs.Later.{last_of}
use Rattle.shape_state.proofs.Ends.{last_tx}
use Rattle.shape_state.proofs.commits.Commits.last.Goals as goal

pub returns-in-Some : goal.returns-in-Some
returns-in-Some c =
    last_tx c.deref.result.now None c.in-Some.tx.now (sym c.in-Some.ensures.value)
    ∙ ap last_of (c.deref.ensures.value ∙ ap (λ (b : Buffered). b.txs) c.self.view_is)
