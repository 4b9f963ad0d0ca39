use Rattle.std.proofs.Common.{◌∙◌}
use Rattle.std.proofs.lemmas.List.{get_or_default}
use Rattle.drill_work.specs.Changes.{no_item}
use Rattle.drill_work.proofs.change.item_at.Goals as goal

pub returns : goal.returns
returns c = c.at.ensures ∙ get_or_default c.args.rows.now c.args.place c.at.result.now no_item c.requires
