use Rattle.std.proofs.Common.{refl, sym, subst, []}
use Rattle.core_machine.specs.Firsts.{first_asked}
use Rattle.core_machine.specs.Turns.{AreOuts}
use Rattle.core_machine.proofs.Receiving.{joins}
use Rattle.core_law.specs.Run.{Joined, turn_of}
use Rattle.core_machine.proofs.Turning.{situated}
use Rattle.core_machine.proofs.machine.Machine.join.Goals as goal

pub returns-clause-takes : goal.returns-clause-takes
returns-clause-takes c o s h = (subst (AreOuts s.exchanges []) (sym c.new.ensures) tt, joins o s c.args.self.now _ c.args.query c.args.first h c.requires.served refl refl ((c.in_ok-join.ensures).ok s (first_asked c.args.first) h.clients) c.in_ok-put.ensures refl refl refl)

pub returns-clause-situated : goal.returns-clause-situated
returns-clause-situated c = let w = c.requires.situated in situated w.options (turn_of w.options w.situation (Joined c.args.query (first_asked c.args.first))) _ _ (returns-clause-takes c w.options w.situation w.stands)
