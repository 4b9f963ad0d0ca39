use Rattle.std.proofs.Common.{◌≡◌, ◌∙◌, ap, subst, map}
use Rattle.std.specs.Prelude.{IfOk}
use Rattle.shape_registry.proofs.Linked.{numbers_of}
use Rattle.shape_registry.proofs.handles.Handles.live_numbers.Goals as goal

pub returns : goal.returns
returns c = subst (λ ns. IfOk c.numbers_in.result (λ numbers. numbers ≡ ns)) (numbers_of c.self.inside.entries.entries ∙ ap (λ s. map (λ l. l.number) s.live) c.self.view_is) c.numbers_in.ensures
