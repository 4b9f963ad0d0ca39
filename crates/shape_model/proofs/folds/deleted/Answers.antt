use Rattle.std.proofs.Common.{◌∙◌, sym, ap, is_some}
use Rattle.shape_base.proofs.Lemmas.{remove_in}
use Rattle.shape_model.proofs.Maps.{delete_done}
use Rattle.shape_model.proofs.folds.deleted.Goals as goal

pub returns : goal.returns
returns c = delete_done c.args.shown.now c.remove.new.self c.args.entry.now.key c.is_some.result (sym (c.is_some.ensures ∙ ap is_some c.remove.ensures.value)) (remove_in c.args.shown.now c.remove.new.self c.args.entry.now.key c.remove.ensures.updates.0)
