use Rattle.std.proofs.Common.{◌≡◌, ◌∙◌, ◌++◌, ◌+◌, length, true, false, is_some, sym, ap}
use Rattle.shape_base.specs.Tables.{Table}
use Rattle.shape_base.specs.Shape.{shown, key_text}
use Rattle.shape_base.specs.Log.{start_from}
use Rattle.shape_entries.specs.Start.{is_good_row, are_good_after}
use Rattle.shape_entries.proofs.Rows.{has, has_more, good_more, entries_more, was_new, key_there}
use Rattle.shape_entries.proofs.start.start_entries.Goals as goal

pub loop-row-preserved : goal.loop-row-preserved
loop-row-preserved g c =
    let s = g.T.RowTest.knows c.args.emitter.now.test in
    let rest = c.next.new.self.rest.items in
    let row = c.in-Some.row in
    let steps = c.in-Some.ensures.steps.0 in
    let e = c.in_ok-key in
    let good : is_good_row s row ≡ true = ap (λ t. is_good_row (g.T.RowTest.knows t) row) (sym c.test.ensures) ∙ sym (e.ensures).good ∙ ap is_some c.in-Some-2.is in
    let key : c.in-Some-2.key ≡ key_text s row = key_there e.field-0 c.in-Some-2.key _ c.in-Some-2.is (e.ensures).key ∙ ap (λ t. key_text (g.T.RowTest.knows t) row) c.test.ensures in
    let unseen : has c.loop-row.seen c.in-Some-2.key ≡ false = was_new c.in_ok-insert.field-0 _ (c.in_ok-insert.ensures).added c.if-not-branch.false in
    record {
      entries = entries_more s row rest c.loop-row.made c.push_start.new.made _ (c.in_ok-push_start.ensures) (ap (λ (rs : Table). c.loop-row.made ++ start_from (length c.loop-row.made + 1) (shown s rs)) (sym steps) ∙ c.loop-row.invariant.entries);
      good = sym (good_more s row rest (has c.loop-row.seen) (has c.insert.new.self) c.in-Some-2.key good key unseen (has_more c.loop-row.seen c.insert.new.self c.in-Some-2.key (key_text s row) (c.in_ok-insert.ensures).updates.0 key))
          ∙ ap (λ (rs : Table). are_good_after (has c.loop-row.seen) s rs) (sym steps) ∙ c.loop-row.invariant.good;
    }
