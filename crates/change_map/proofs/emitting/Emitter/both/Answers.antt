use Rattle.std.proofs.Common.{rules, arith, ◌∙◌, sym, ◌*◌}
use Rattle.std.proofs.lemmas.Grind.{common_steps}
use Rattle.shape_base.specs.Shape.{key_text}
use Rattle.change_map.specs.Emitting.{in_order}
use Rattle.change_map.proofs.Entries.{both_other, both_same, cells_are, empty_update, some_update}
use Rattle.change_map.proofs.Places.{ordered_in}
use Rattle.change_map.proofs.emitting.Emitter.both.Goals as goal

pub returns-then-not-have_same_key-clause-entries : goal.returns-then-not-have_same_key-clause-entries
returns-then-not-have_same_key-clause-entries g c = both_other (g.T.RowTest.knows c.args.self.now.test) c.args.lsn c.args.j c.args.old.now c.args.new.now c.in_ok-first.first c.in_ok-second.second
    (sym c.have_same_key.ensures ∙ first_of (search rules, grind (arith, common_steps))) c.in_ok-first.ensures c.in_ok-second.ensures

pub cells_that_differ-requires-clause-places : goal.cells_that_differ-requires-clause-places
cells_that_differ-requires-clause-places g c = ordered_in (g.T.RowTest.knows c.args.self.now.test) c.definition.result.now c.as_slice-order.result.now (g.met.T.RowTest.lawful c.args.self.now.test) c.definition.ensures (c.as_slice-order.ensures ∙ c.args.self.now.ordered)

pub returns-then-len-eq0-clause-entries : goal.returns-then-len-eq0-clause-entries
returns-then-len-eq0-clause-entries g c = both_same (g.T.RowTest.knows c.args.self.now.test) c.args.lsn c.args.j c.args.old.now c.args.new.now (in_order c.none.result) c.in_ok-cells.cells
    (sym c.have_same_key.ensures ∙ first_of (search rules, grind (arith, common_steps)))
    (cells_are (g.T.RowTest.knows c.args.self.now.test) c.definition.result.now c.as_slice-order.result.now c.args.old.now c.args.new.now c.in_ok-cells.cells c.definition.ensures (c.as_slice-order.ensures ∙ c.args.self.now.ordered) c.in_ok-cells.ensures)
    (empty_update c.none.result c.args.lsn (2 * c.args.j) (key_text (g.T.RowTest.knows c.args.self.now.test) c.args.new.now) c.in_ok-cells.cells c.none.ensures (first_of (search rules, grind (arith, common_steps))))

pub returns-clause-entries : goal.returns-clause-entries
returns-clause-entries g c = both_same (g.T.RowTest.knows c.args.self.now.test) c.args.lsn c.args.j c.args.old.now c.args.new.now (in_order c.one.result) c.in_ok-cells.cells
    (sym c.have_same_key.ensures ∙ first_of (search rules, grind (arith, common_steps)))
    (cells_are (g.T.RowTest.knows c.args.self.now.test) c.definition.result.now c.as_slice-order.result.now c.args.old.now c.args.new.now c.in_ok-cells.cells c.definition.ensures (c.as_slice-order.ensures ∙ c.args.self.now.ordered) c.in_ok-cells.ensures)
    (some_update c.one.result _ c.args.lsn (2 * c.args.j) (key_text (g.T.RowTest.knows c.args.self.now.test) c.args.new.now) c.in_ok-cells.cells c.one.ensures (first_of (search rules, grind (arith, common_steps))) (first_of (search rules, grind (arith, common_steps))))
