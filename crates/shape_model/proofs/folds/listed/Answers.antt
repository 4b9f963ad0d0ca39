use Rattle.std.proofs.Common.{◌∙◌, sym, append-nil}
use Rattle.shape_model.specs.Maps.{pairs_of}
use Rattle.shape_base.proofs.Lemmas.{entries_in}
use Rattle.shape_model.proofs.folds.listed.Goals as goal

pub returns : goal.returns
returns c = entries_in c.args.shown.now (assumption (c.into_iter-key-iterator.ensures.into_iter_gives)) ∙ sym (rw c.in-None.ensures.steps.0 at c.loop-key.invariant) ∙ append-nil (pairs_of c.loop-key.rows)
