use Rattle.std.proofs.Common.{◌∙◌, ℕ, Option, sym, ap, subst}
use Rattle.shape_base.specs.RegistryHistory.{live_under}
use Rattle.shape_registry.specs.ByHistory.{found_after}
use Rattle.core_machine.specs.Opening.{first_of, IsOpened}
use Rattle.core_machine.proofs.Receiving.{if_ok_to, unregistered_is}
use Rattle.core_machine.proofs.opening.open_first.Goals as goal

pub returns-in-Unregistered : goal.returns-in-Unregistered
returns-in-Unregistered c = if_ok_to c.register.result _ _ (λ opened p o v st.
    let ask = c.args.ask.now in
    let none = unregistered_is v.registry (live_under v.registry ask.identity) (c.in-Unregistered.ensures.by_situation o v st ∙ ap (found_after o.run v.registry ask.identity) c.requires.absent) in
    subst (λ (a : Option ℕ). IsOpened o (first_of o v ask a) c.register.new.server opened) (sym none) (p o v st)) c.register.ensures
