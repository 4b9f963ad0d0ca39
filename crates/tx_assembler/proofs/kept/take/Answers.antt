use Rattle.std.proofs.Common.{sym, subst}
use Rattle.std.specs.FinMap as map
use Rattle.pgout.specs.declared.message.Message.{Message}
use Rattle.tx_assembler.specs.Kept.{target_of}
use Rattle.tx_assembler.specs.Feeding.{taken_by}
use Rattle.tx_assembler.specs.Taking.{IsTaken}
use Rattle.tx_assembler.proofs.Targets.{truncate_taken}
use Rattle.tx_assembler.proofs.kept.take.Goals as goal

pub returns-in-Truncate : goal.returns-in-Truncate
returns-in-Truncate c =
    subst (λ (m : Message). IsTaken c.take_truncate.result c.args.tx.now c.take_truncate.new.tx (taken_by c.args.tx.now m (target_of c.args.tables.now (map.get c.args.relations.now)))) (sym c.in-Truncate.is)
    (truncate_taken c.take_truncate.result c.args.tx.now c.take_truncate.new.tx (target_of c.args.tables.now (map.get c.args.relations.now)) c.in-Truncate.options c.in-Truncate.oids c.as_slice.result.now c.as_slice.ensures c.take_truncate.ensures)
