use Rattle.std.proofs.Common.{List, [], sym, ◌∙◌, subst}
use Rattle.std.proofs.lemmas.List.{append-nil}
use Rattle.shape_base.specs.declared.served.Served.{Served}
use Rattle.script_play.specs.Tables.{AreServed}
use Rattle.script_play.proofs.Keys.{none_served}
use Rattle.script_play.proofs.tables.tables_of.Goals as goal

pub returns : goal.returns
returns c = subst (λ (ss : List Served). AreServed c.args.declared.now ss) (append-nil c.loop-table.tables.items ∙ sym c.from_vec.ensures)
    (c.loop-table.invariant.served [] (none_served _ _ c.loop-table-test.false))
