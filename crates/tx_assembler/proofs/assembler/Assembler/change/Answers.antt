use Rattle.std.proofs.Common.{subst}
use Rattle.std.specs.FinMap as map
use Rattle.tx_assembler.specs.Kept.{target_of}
use Rattle.tx_assembler.specs.Situation.{IsWholeStage}
use Rattle.tx_assembler.specs.Served.{IsServedStage}
use Rattle.tx_assembler.proofs.Wholes.{whole_taken}
use Rattle.tx_assembler.proofs.Served.{served_on}
use Rattle.tx_assembler.proofs.assembler.Assembler.change.Goals as goal
use Rattle.tx_assembler.proofs.assembler.Assembler.change.Goals.{in-Outside, in-Passing, in-Taking+in_ok-take-in-Taking, in-Refused}

pub invariant_of-self-2 : goal.invariant_of-self-2
invariant_of-self-2 c =
    elim c.match-self.branch [
      | in-Outside w ↦ rw w.self-inside-is c.self.invariant
      | in-Passing w ↦ rw w.self-inside-is c.self.invariant
      | in-Taking+in_ok-take-in-Taking w ↦
          rw w.self-inside-is (record {
            few = c.self.invariant.few;
            whole = whole_taken w.in-Taking.tx c.args.message (target_of w.as_slice.result.now (map.get c.self.inside.relations)) w.take.new.tx (subst IsWholeStage w.in-Taking.is c.self.invariant.whole) w.in_ok-take-in-Taking.ensures;
            narrow = c.self.invariant.narrow;
            served = served_on c.self.inside.tables w.as_slice.result.now c.self.inside.relations w.in-Taking.tx c.args.message w.take.new.tx w.as_slice.ensures c.self.invariant.narrow
                (subst (IsServedStage c.self.inside.tables) w.in-Taking.is c.self.invariant.served) w.in_ok-take-in-Taking.ensures;
          })
      | in-Refused w ↦ rw w.self-inside-is (record { few = c.self.invariant.few; whole = tt; narrow = c.self.invariant.narrow; served = tt })
    ]
