use Rattle.std.proofs.Common.{rules, arith, ◌∙◌}
use Rattle.std.proofs.lemmas.Grind.{common_steps}
use Rattle.change_map.proofs.KeyLaws.{values_left, words_left}
use Rattle.change_map.proofs.key.push_values.Goals as goal

pub loop-place-preserved : goal.loop-place-preserved
loop-place-preserved c = record {
  added = c.loop-place.invariant.added ∙ values_left c.args.key.now c.args.row.now c.loop-place.place-index c.value_at.result.now c.loop-place.out.items c.push_value.new.out.items (search rules) (first_of (search rules, grind (arith, common_steps))) c.in_ok-push_value.ensures.added;
  words = λ rest. c.loop-place.invariant.words (words_left c.args.key.now c.args.row.now c.loop-place.place-index c.value_at.result.now (search rules) (first_of (search rules, grind (arith, common_steps))) c.in_ok-push_value.ensures.words rest);
  utf8 = λ before. c.in_ok-push_value.ensures.utf8 (c.loop-place.invariant.utf8 before);
}
