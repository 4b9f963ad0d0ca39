use Rattle.std.proofs.Common.{◌≡◌, ◌-◌, List, ℕ, length, sym, ap, subst, ◌∙◌, None, Some}
use Rattle.std.specs.Prelude.{slice_get}
use Rattle.chunk_cutter.specs.Cut.{Cut}
use Rattle.chunk_cutter.proofs.Cutting.{closed_none, closed_last}
use Rattle.chunk_cutter.proofs.cutter.Cutter.closed.Goals as goal

pub returns-in-None : goal.returns-in-None
returns-in-None c sizes has =
    closed_none c.args.self.now sizes has
    (subst (λ (es : List ℕ). slice_get es (length es - 1) ≡ None) (c.deref.ensures.value ∙ ap (λ (cut : Cut). cut.ends) c.self.view_is) (sym c.in-None.ensures.value))

pub returns-in-Some : goal.returns-in-Some
returns-in-Some c sizes has =
    closed_last c.args.self.now sizes c.in-Some.end.now has
    (subst (λ (es : List ℕ). slice_get es (length es - 1) ≡ Some c.in-Some.end.now) (c.deref.ensures.value ∙ ap (λ (cut : Cut). cut.ends) c.self.view_is) (sym c.in-Some.ensures.value))
