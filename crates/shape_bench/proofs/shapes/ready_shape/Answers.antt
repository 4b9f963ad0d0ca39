use Rattle.std.proofs.Common.{◌≡◌, ◌∙◌, ap}
use Rattle.shape_def.specs.Definition.{knows_of}
use Rattle.shape_def.specs.declared.defining.Def.{Def}
use Rattle.shape_bench.proofs.shapes.ready_shape.Goals as goal

-- the snapshot was started over the shape's own test
pub ready-requires-clause-test : goal.ready-requires-clause-test
ready-requires-clause-test c = ap (λ (t : Def). knows_of t.served t.condition.definition t.key t.selected t.condition.clause) (c.in-Ok.ensures.test ∙ c.test-3.ensures)
