use Rattle.sync_core.proofs.Keeping.{kept_stays}
use Rattle.sync_core.proofs.dialogues.kept_stays.Goals as goal

pub returns : goal.returns
returns c = kept_stays c.snapshots_stay.ensures c.refusals_stay.ensures c.owners_are_known.ensures c.exchanges_stay.ensures
