use Rattle.std.proofs.Common.{refl, ap}
use Rattle.std.specs.Option.{option_copied}
use Rattle.fold_client.proofs.Folding.{updated, updated_not}
use Rattle.fold_client.proofs.rows.FoldedRows.update.Goals as goal

pub returns-in-None : goal.returns-in-None
returns-in-None c = (updated_not c.args.self.now c.args.entry.key c.args.entry.cells (option_copied c.get.result) c.get.ensures (ap option_copied c.in-None.is), refl, refl, refl)

pub returns : goal.returns
returns c = updated c.args.self.now c.put.new.self c.args.entry.key c.args.entry.cells c.in-Some.before.now c.in_ok-replaced-in-Some.replaced (option_copied c.get.result) c.in_ok-stood-in-Some.stood c.get.ensures (ap option_copied c.in-Some.is) (c.in_ok-stood-in-Some.ensures).0 c.in_ok-replaced-in-Some.ensures (c.in_ok-stood-in-Some.ensures).1
