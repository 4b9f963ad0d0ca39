use Rattle.std.proofs.Common.{◌∙◌, sym, ap}
use Rattle.shape_def.specs.Definition.{is_chosen}
use Rattle.shape_def.proofs.Chosen.{set_chooses}
use Rattle.shape_def.proofs.choosing.set_of.Goals as goal

pub returns-in_ok-name_set-in-Some : goal.returns-in_ok-name_set-in-Some
returns-in_ok-name_set-in-Some c = set_chooses c.in_ok-name_set-in-Some.field-0 c.in-Some.names c.in_ok-name_set-in-Some.ensures ∙ ap is_chosen (sym c.in-Some.is)
