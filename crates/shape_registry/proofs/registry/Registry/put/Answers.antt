use Rattle.std.proofs.Common.{◌∙◌, ap, sym}
use Rattle.std.specs.Prelude.{is_some}
use Rattle.std.specs.FinMap as fin
use Rattle.shape_base.specs.declared.registry_event.RegistryEvent.TheVariants as events
use Rattle.shape_registry.specs.State.{live_at, after, id_in}
use Rattle.shape_registry.proofs.KeptValues.{map_in, insert_in, same_in}
use Rattle.shape_registry.proofs.States.{keeps_put, put_back}
use Rattle.shape_registry.proofs.registry.Registry.put.Goals as goal

pub invariant_of-self-in-Ok-register : goal.invariant_of-self-in-Ok-register
invariant_of-self-in-Ok-register g c = λ number. keeps_put c.self.inside.values c.insert.new.self c.self.inside.handles c.self.invariant c.next-number.result c.args.kept c.args.identity c.args.table (id_in c.self.inside.handles) c.in-Ok.ensures.updates.0 number
    ∙ ap (λ n. is_some (live_at (after c.self.inside.handles (events.Registered n c.args.identity c.args.table (id_in c.self.inside.handles))) number)) (c.next-number.ensures.next ∙ sym c.in-Ok-register.ensures.ok.0)
    ∙ sym (ap (λ s. is_some (live_at s number)) c.in-Ok-register.ensures.ok.1)

pub returns-in-Ok-register-clause-kept : goal.returns-in-Ok-register-clause-kept
returns-in-Ok-register-clause-kept g c = insert_in c.self.inside.values c.insert.new.self c.next-number.result c.args.kept c.in-Ok.ensures.updates.0
    ∙ ap (λ n. fin.insert (map_in c.self.inside.values) n c.args.kept) (c.next-number.ensures.next ∙ sym c.in-Ok-register.ensures.ok.0)
    ∙ ap (λ r. fin.insert r.kept c.in-Ok-register.number c.args.kept) c.self.view_is

pub invariant_of-self-in-Some : goal.invariant_of-self-in-Some
invariant_of-self-in-Some g c = λ number. ap is_some (put_back c.self.inside.values c.insert.new.self c.remove.new.self c.self.inside.handles c.self.invariant c.next-number.result c.next-number.ensures.fresh c.args.kept c.in-Ok.ensures.updates.0 c.in-Some.ensures.updates.0 number)
    ∙ c.self.invariant number ∙ sym (ap (λ s. is_some (live_at s number)) c.in-Err-register.ensures.err)

pub returns-in-Some-clause-unchanged : goal.returns-in-Some-clause-unchanged
returns-in-Some-clause-unchanged g c = ap (λ s. record { state = s; kept = map_in c.remove.new.self }) c.in-Err-register.ensures.err
    ∙ ap (λ k. record { state = c.self.inside.handles; kept = k }) (same_in c.self.inside.values c.remove.new.self (put_back c.self.inside.values c.insert.new.self c.remove.new.self c.self.inside.handles c.self.invariant c.next-number.result c.next-number.ensures.fresh c.args.kept c.in-Ok.ensures.updates.0 c.in-Some.ensures.updates.0))
    ∙ c.self.view_is
