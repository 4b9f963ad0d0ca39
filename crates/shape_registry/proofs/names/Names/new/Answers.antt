use Rattle.std.proofs.Common.{◌+◌, ◌∙◌, ◌∷◌, [], ap, sym, subst, length}
use Rattle.std.proofs.lemmas.List.{length-append}
use Rattle.shape_registry.proofs.Parts.{AreEmpty, empty_push, none_under}
use Rattle.shape_registry.proofs.names.Names.new.Goals as goal

pub loop-init : goal.loop-init
loop-init c = (ap length c.in_ok-parts.ensures.items, subst AreEmpty (sym c.in_ok-parts.ensures.items) tt)

pub loop-preserved : goal.loop-preserved
loop-preserved c = (
  ap length c.in_ok-push.ensures.items ∙ length-append c.loop.parts.items (c.new.result ∷ []) ∙ ap (λ n. n + 1) c.loop.invariant.0,
  subst AreEmpty (sym c.in_ok-push.ensures.items) (empty_push c.loop.parts.items c.new.result c.loop.invariant.1 c.new.ensures.empty),
)

pub returns : goal.returns
returns c = none_under c.loop.parts.items c.loop.invariant.1
