use Rattle.std.proofs.Common.{◌∙◌, refl, sym, ap, subst, Option, IfSome}
use Rattle.std.specs.Prelude.{is_none}
use Rattle.chunked_log.specs.Chunked.{Texts, Writes}
use Rattle.shape_json.specs.ShapeHistory.{entries_in}
use Rattle.shape_state.specs.Reading.{reader_of}
use Rattle.shape_state.proofs.Fullness.{no_stop, added}
use Rattle.shape_state.proofs.adding.added_by.Goals as goal

pub returns-in-Some : goal.returns-in-Some
returns-in-Some g c =
    let r = reader_of (g.T.RowTest.knows c.args.emitter.now.test) (g.T.RowTest.unread c.args.emitter.now.test) in
    let tx = c.args.tx.now in
    let writes = subst (λ (o : Option Texts). IfSome o (λ w. Writes w (entries_in r.knows tx))) c.in-Some.is (c.in_ok-written.ensures).entries in
    added r c.args.limits.now c.args.bytes tx (entries_in r.knows tx) c.weighed.result (no_stop r tx (ap is_none (sym c.in-Some.is) ∙ (c.in_ok-written.ensures).stops)) refl (c.weighed.ensures (entries_in r.knows tx) writes)

pub returns-in-None : goal.returns-in-None
returns-in-None g c = c.stopped.ensures c.args.limits.now c.args.bytes
