use Rattle.pg_dialogue.proofs.Listening.{snapshots_want}
use Rattle.pg_dialogue.proofs.laws.snapshot_wants.Goals as goal

pub returns : goal.returns
returns c = snapshots_want
