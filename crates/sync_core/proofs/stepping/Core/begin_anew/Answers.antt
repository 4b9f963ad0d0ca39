use Rattle.std.proofs.Common.{refl}
use Rattle.sync_core.proofs.Moves.{anew_situated}
use Rattle.sync_core.proofs.stepping.Core.begin_anew.Goals as goal

pub returns-clause-situated : goal.returns-clause-situated
returns-clause-situated c = anew_situated c.args.self.now _ c.requires refl refl refl c.begin_anew.ensures
