use Rattle.std.proofs.Common.{subst}
use Rattle.tx_assembler.specs.Stream.{HasTaken}
use Rattle.core_law.specs.Situation.{at_start}
use Rattle.core_server.specs.Standing.{options_of}
use Rattle.sync_core.proofs.Keeping.{none_kept}
use Rattle.sync_core.proofs.stepping.Core.new.Goals as goal

pub returns : goal.returns
returns c = record {
  machine = c.in_ok-new.ensures;
  stream = c.new-3.ensures c.args.options.tables (subst (λ tables. HasTaken tables _ _ c.in_ok-assembler.assembler) c.in_ok-copy.ensures c.in_ok-assembler.ensures.taken);
  kept = none_kept (options_of c.args.options.limits c.args.options.tables c.args.options.defs c.args.options.run) at_start c.new-4.result.kept c.new-4.ensures;
  tables = c.in_ok-own.ensures;
  few = c.requires.few;
}
