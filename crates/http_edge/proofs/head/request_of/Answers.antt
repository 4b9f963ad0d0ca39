use Rattle.std.proofs.Common.{sym, ◌∙◌}
use Rattle.shape_base.specs.Tables.{same_text}
use Rattle.http_edge.proofs.Heads.{has_request, asks, at_first, at_last}
use Rattle.http_edge.proofs.head.request_of.Goals as goal
use Rattle.http_edge.proofs.head.request_of.Goals.{then-head-eq0, else-head-eq0}

pub returns-then-have_body : goal.returns-then-have_body
returns-then-have_body c =
    has_request c.args.bytes.now c.args.fields.now c.args.head.now c.requires.head_is.0 _ c.requires.few c.requires.head_is.1 (sym c.if-have_body.true ∙ c.have_body.ensures)

pub returns : goal.returns
returns c =
    asks c.args.bytes.now c.args.fields.now c.args.head.now c.requires.head_is c.eq.result c.if-head-eq0.result c.of_bytes.result c.requires.few (sym c.if-have_body.false ∙ c.have_body.ensures)
    (c.eq.ensures ∙ (λ i. same_text (c.of-2.ensures i) (c.as_slice.ensures i))) (c.of_bytes.ensures ∙ c.in-Ok.ensures.items ∙ c.of.ensures)
    (elim c.if-head-eq0.branch [
      | then-head-eq0 w ↦ at_first c.args.head.now.version _ _ w.result-is w.if-head-eq0.true
      | else-head-eq0 w ↦ at_last c.args.head.now.version _ _ _ w.if-head-eq0.false w.result-is w.have_close.ensures
    ])
