use Rattle.std.proofs.Common.{◌-◌}
use Rattle.core_law.specs.Situation.{Options, Situation}
use Rattle.core_machine.specs.Standing.{IsSituated, Stands}
use Rattle.core_machine.proofs.Rounds.{HasWatched}
use Rattle.core_machine.proofs.machine.Machine.watch_for.Given as goal

-- the watch has come so far, for whatever the machine stood before it
abbrev pub invariant-loop-done : goal.invariant-loop-done
invariant-loop-done l = record {
  situated : IsSituated l.self;
  watched : (o : Options) (s : Situation) → Stands o s l.fn.self → HasWatched o s l.client l.rounds (l.rounds - l._done) l.self l.all.items;
}
