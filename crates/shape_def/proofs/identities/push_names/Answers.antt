use Rattle.std.specs.Map.Iter.{deref}
use Rattle.std.proofs.lemmas.Map.Iter.{rest_more}
use Rattle.shape_def.proofs.Writing.{names_left}
use Rattle.shape_def.proofs.identities.push_names.Goals as goal

pub loop-name-preserved : goal.loop-name-preserved
loop-name-preserved c = record {
  added = names_left c.loop-name.first c.in-Some.name.now c.next.new.self c.loop-name.name-iterator _ _ _ _ (rest_more deref c.loop-name.name-iterator c.next.new.self c.next.result c.in-Some.name c.in-Some.is c.next.ensures.steps) c.in_ok-push_comma.ensures.added c.in_ok-push_name.ensures.added c.loop-name.invariant.added;
  utf8 = λ before. c.in_ok-push_name.ensures.utf8 (c.in_ok-push_comma.ensures.utf8 (c.loop-name.invariant.utf8 before));
}
