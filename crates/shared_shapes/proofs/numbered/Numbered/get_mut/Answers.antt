use Rattle.std.proofs.Common.{◌≡◌, ◌∙◌, Option, None, Some, ap, sym, refl, subst}
use Rattle.std.specs.Prelude.{IsSome}
use Rattle.std.specs.Option.{OnSome, option_copied_mut}
use Rattle.std.specs.Borrow.{MutBor}
use Rattle.std.specs.FinMap as fin
use Rattle.shape_registry.proofs.KeptValues.{map_in, get_in, insert_in}
use Rattle.shared_shapes.proofs.numbered.Numbered.get_mut.Goals as goal

on_some : {K : Type 0} (r : Option (MutBor K)) (o : Option K) (P : Type 0) → option_copied_mut r ≡ o → (IsSome o → P) → OnSome r P
on_some None o P h f = tt
on_some (Some x) o P h f = f (subst (λ o. IsSome o) h refl)

pub returns : goal.returns
returns g c = (
  (
    refl,
    (λ w. on_some c.get_mut.result _ _ c.get_mut.ensures.value (λ there. insert_in c.self.inside.values (c.get_mut.follows.lender w) c.args.number w ((c.get_mut.follows.holds w).3 there).0
        ∙ ap (λ m. fin.insert m c.args.number w) c.self.view_is)),
    ap map_in c.get_mut.follows.holds-at-none ∙ c.self.view_is,
  ),
  record {
    writes_back = tt;
    value = c.get_mut.ensures.value ∙ sym (get_in c.self.inside.values c.args.number) ∙ ap (λ m. fin.get m c.args.number) c.self.view_is;
  },
)
