use Rattle.sync_core.proofs.Telling.{readings_tell}
use Rattle.sync_core.proofs.laws.readings_tell.Goals as goal

pub returns : goal.returns
returns c = readings_tell c.heads_tell.ensures c.routes_tell.ensures c.forms_tell.ensures
