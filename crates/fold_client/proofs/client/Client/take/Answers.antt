use Rattle.fold_client.specs.Taking.{held_by}
use Rattle.fold_client.proofs.Taking.{lawful_take}
use Rattle.fold_client.proofs.client.Client.take.Goals as goal

pub returns-clause-lawful : goal.returns-clause-lawful
returns-clause-lawful c = lawful_take (held_by c.args.self.now) (held_by c.take_by_status.new.self) c.args.reply.now c.take_by_status.result c.take_by_status.ensures.meets
