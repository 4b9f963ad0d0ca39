use Rattle.core_machine.proofs.machine.Machine.watch.Goals as goal

pub returns-clause-takes : goal.returns-clause-takes
returns-clause-takes c o s h = (c.watch_for.ensures).watches o s h
