use Rattle.std.proofs.Common.{ap, ◌∙◌}
use Rattle.where_eval.specs.Scalars.{tri_of}
use Rattle.where_eval.proofs.Seeing.{all_read_in, one_unread_in}
use Rattle.where_eval.proofs.row_truth.truth.Goals as goal

pub returns-in-Some : goal.returns-in-Some
returns-in-Some c = λ columns tree k.
    one_unread_in c.args.checked.now columns tree c.args.row.now c.as_slice-2.result.now c.as_slice.result.now c.in-Some.column c.as_slice.ensures.value c.as_slice-2.ensures c.requires k c.in-Some.ensures

pub returns-in-None : goal.returns-in-None
returns-in-None c = λ columns tree k.
    all_read_in c.args.checked.now columns tree c.args.row.now c.as_slice-2.result.now c.as_slice.result.now c.tri_of.result c.as_slice.ensures.value c.as_slice-2.ensures k c.in-None.ensures (c.tri_of.ensures ∙ ap tri_of c.value.ensures)
