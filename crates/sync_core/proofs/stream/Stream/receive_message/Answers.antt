use Rattle.std.proofs.Common.{◌++◌, ◌∙◌, ap}
use Rattle.sync_core.specs.declared.stream.Brought.{Brought}
use Rattle.sync_core.specs.Streaming.{txs_in, refusal_in, later_refusal}
use Rattle.sync_core.proofs.Streams.{served_one}
use Rattle.sync_core.proofs.stream.Stream.receive_message.Goals as goal

pub returns-clause-served : goal.returns-clause-served
returns-clause-served c =
    let outcome = c.in_ok-outcome.outcome in
    served_one c.args.self.now c.add.new.self outcome (c.in_ok-outcome.ensures).served
    (c.in_ok-add.ensures ∙ ap (λ (b : Brought). record { txs = b.txs ++ txs_in outcome; refusal = later_refusal b.refusal (refusal_in outcome) }) c.nothing-brought.ensures)
