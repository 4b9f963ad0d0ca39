-- What a pass knows after a step on the registry's lock.
use Rattle.std.proofs.Common.{◌≡◌, ℕ, List, [], ◌++◌, Option, sym, ap, ◌∙◌, subst, append-nil}
use mathlib.Core.List.{IsPrefix}
use Rattle.front_lock.specs.Passes.{mine, IsSameLock, IsSameShare}
use Rattle.lock_events.specs.Written.{Written}
use Rattle.shape_lock.proofs.Lengths.{prefix_trans}
use Rattle.shape_registry.specs.Registry.{WithKept}
use Rattle.shared_shapes.specs.declared.registry_data.RegistryData.{RegistryData}
use Rattle.shared_shapes.specs.Events.{Noted}
use Rattle.shared_shapes.specs.Board.{Kept, IsBoard}
use Rattle.shared_shapes.specs.Passes.{RegSight, IsLegalFor, StepsOn, Keeps}
use Rattle.shared_shapes.proofs.Boards.{board_legal}

-- what a state stood for when it was taken, by the data of its holder
pub stood : {A : Type 0} (f f' : Option RegistryData) (about : RegistryData) (registry : WithKept (Kept A)) (fed : Written ℕ) (given : ℕ) (es : List (Noted A)) → f' ≡ f → IsBoard about registry fed given f es → IsBoard about registry fed given f' es
stood f f' about registry fed given es same b = subst (λ (f : Option RegistryData). IsBoard about registry fed given f es) (sym same) b

module _ {A : Type 0} (k h k' : RegSight A) (about : RegistryData) (registry : WithKept (Kept A)) (fed : Written ℕ) (given : ℕ)
    (lock : IsSameLock k h × IsSameShare k h) (seen : IsPrefix k.seen h.seen) (own : mine h ≡ mine k) (lock' : IsSameLock h k' × IsSameShare h k') where
  -- with these events
  pub steps_on : (made : List (Noted A)) → k'.seen ≡ h.seen ++ made → mine k' ≡ mine h ++ made → IsBoard about registry fed given h.fixed (h.seen ++ made) → StepsOn k k' made
  steps_on made seen' own' board = record {
    lock = (lock'.0.0 ∙ lock.0.0, lock'.0.1 ∙ lock.0.1);
    share = (lock'.1.0 ∙ lock.1.0, lock'.1.1 ∙ lock.1.1);
    seen = prefix_trans k.seen h.seen k'.seen seen (made, sym seen');
    mine = own' ∙ ap (λ (l : List (Noted A)). l ++ made) own;
    legal = subst (λ (f : Option RegistryData). IsLegalFor f k'.seen) (sym lock'.0.1) (subst (λ (es : List (Noted A)). IsLegalFor h.fixed es) (sym seen') (board_legal about registry fed given h.fixed (h.seen ++ made) board));
  }

  -- as it stood
  pub steps_back : k'.seen ≡ h.seen → mine k' ≡ mine h → IsBoard about registry fed given h.fixed h.seen → StepsOn k k' []
  steps_back seen' own' board = steps_on [] (seen' ∙ sym (append-nil h.seen)) (own' ∙ sym (append-nil (mine h))) (subst (λ (es : List (Noted A)). IsBoard about registry fed given h.fixed es) (sym (append-nil h.seen)) board)

pub keeps_of : {A : Type 0} (k k' : RegSight A) → StepsOn k k' [] → Keeps k k'
keeps_of k k' s = record { lock = s.lock; share = s.share; seen = s.seen; mine = s.mine ∙ append-nil (mine k) }
