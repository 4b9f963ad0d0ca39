use Rattle.std.proofs.Common.{Option, sym, subst}
use Rattle.sync_core.specs.declared.snapshots.UnderWay as program
use Rattle.sync_core.specs.Kept.{IsKept}
use Rattle.sync_core.proofs.Keeping.{elsewhere, none_came}
use Rattle.sync_core.proofs.dialogues.Dialogues.take.Goals as goal

pub returns-in-Some-clause-taken : goal.returns-in-Some-clause-taken
returns-in-Some-clause-taken c o s said h = subst (λ (k : Option program.UnderWay). IsKept o s c.args.exchange said k) (sym c.in-Some.ensures.value) h

pub returns-in-Some-clause-others : goal.returns-in-Some-clause-others
returns-in-Some-clause-others c other apart = c.in-Some.ensures.updates.2 other (elsewhere c.args.exchange other apart)

pub returns-in-None-clause-taken : goal.returns-in-None-clause-taken
returns-in-None-clause-taken c o s said h = none_came o s c.args.exchange said c.new.result (subst (λ (k : Option program.UnderWay). IsKept o s c.args.exchange said k) (sym c.in-None.ensures.value) h) (c.new.ensures o s c.args.exchange)

pub returns-in-None-clause-others : goal.returns-in-None-clause-others
returns-in-None-clause-others c other apart = c.in-None.ensures.updates.2 other (elsewhere c.args.exchange other apart)
