use Rattle.std.proofs.Common.{◌≡◌, ◌∙◌, ap, sym, refl, Option, None, Some}
use Rattle.std.specs.Prelude.{is_some}
use Rattle.std.specs.Option.{option_copied}
use Rattle.std.specs.Borrow.{Bor}
use Rattle.std.specs.FinMap as fin
use Rattle.shape_registry.specs.State.{live_at}
use Rattle.shape_registry.proofs.Laws.{live_by_history}
use Rattle.shape_registry.proofs.KeptValues.{get_in}
use Rattle.shape_registry.proofs.registry.Registry.kept.Goals as goal

pub returns-clause-kept : goal.returns-clause-kept
returns-clause-kept g c = c.get.ensures.value ∙ sym (get_in c.self.inside.values c.args.number) ∙ ap (λ r. fin.get r.kept c.args.number) c.self.view_is

copied : {K : Type 0} (r : Option (Bor K)) → is_some r ≡ is_some (option_copied r)
copied None = refl
copied (Some x) = refl

pub returns-clause-by_history : goal.returns-clause-by_history
returns-clause-by_history g c = λ start es stands. copied c.get.result ∙ ap is_some c.get.ensures.value ∙ c.self.invariant c.args.number ∙ ap (λ r. is_some (live_at r.state c.args.number)) c.self.view_is ∙ live_by_history start es c.args.self.now.state stands c.args.number
