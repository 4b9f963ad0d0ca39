use Rattle.std.proofs.Common.{◌≡◌, ◌∙◌, Option, None, Some, ap, sym, refl, subst, nat_cmp}
use Rattle.std.specs.Prelude.{is_some, IsSome}
use Rattle.std.specs.Option.{OnSome, option_copied_mut}
use Rattle.std.specs.Borrow.{MutBor}
use Rattle.std.specs.FinMap as fin
use Rattle.std.specs.BTreeMap.{get}
use Rattle.shape_registry.specs.State.{live_at}
use Rattle.shape_registry.proofs.KeptValues.{map_in, get_in, insert_in, keys_keep}
use Rattle.shape_registry.proofs.Laws.{live_by_history}
use Rattle.shape_registry.proofs.registry.Registry.kept_mut.Goals as goal

pub invariant_of-self-lent : goal.invariant_of-self-lent
invariant_of-self-lent g c = λ r. (
  (λ w number. keys_keep c.self.inside.values (c.get_mut.follows.lender w) (c.get_mut.follows.holds w).1 number ∙ c.self.invariant number),
  (λ number. ap (λ m. is_some (get nat_cmp m number)) c.get_mut.follows.holds-at-none ∙ c.self.invariant number),
)

on_some : {K : Type 0} (r : Option (MutBor K)) (o : Option K) (P : Type 0) → option_copied_mut r ≡ o → (IsSome o → P) → OnSome r P
on_some None o P h f = tt
on_some (Some x) o P h f = f (subst (λ o. IsSome o) h refl)

copied : {K : Type 0} (r : Option (MutBor K)) → is_some r ≡ is_some (option_copied_mut r)
copied None = refl
copied (Some x) = refl

pub returns : goal.returns
returns g c = let live : is_some c.get_mut.result ≡ is_some (live_at c.args.self.now.state c.args.number)
    = copied c.get_mut.result ∙ ap is_some c.get_mut.ensures.value ∙ c.self.invariant c.args.number ∙ ap (λ r. is_some (live_at r.state c.args.number)) c.self.view_is in (
      (
        refl,
        (λ w. (
          ap (λ r. r.state) c.self.view_is,
          on_some c.get_mut.result _ _ c.get_mut.ensures.value (λ there. insert_in c.self.inside.values (c.get_mut.follows.lender w) c.args.number w ((c.get_mut.follows.holds w).3 there).0
              ∙ ap (λ r. fin.insert r.kept c.args.number w) c.self.view_is),
        )),
        ap (λ m. record { state = c.self.inside.handles; kept = map_in m }) c.get_mut.follows.holds-at-none ∙ c.self.view_is,
      ),
      record {
        writes_back = tt;
        kept = c.get_mut.ensures.value ∙ sym (get_in c.self.inside.values c.args.number) ∙ ap (λ r. fin.get r.kept c.args.number) c.self.view_is;
        live = live;
        by_history = λ start es stands. live ∙ live_by_history start es c.args.self.now.state stands c.args.number;
      },
    )
