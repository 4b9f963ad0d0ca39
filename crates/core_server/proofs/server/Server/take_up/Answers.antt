use Rattle.std.proofs.Common.{refl, sym}
use Rattle.core_law.specs.Situation.{registry_start}
use Rattle.core_server.specs.Standing.{reader_in}
use Rattle.core_server.proofs.Reaching.{lives_here, may_take, takes_up, stays, on_some_is, on_any_err}
use Rattle.core_server.proofs.server.Server.take_up.Goals as goal

pub take_commit-requires-clause-later : goal.take_commit-requires-clause-later
take_commit-requires-clause-later c = let d = c.requires.due in let k = c.in-Some.shape.now in
    let live = sym (c.in-Some.ensures.by_history (registry_start d.options) d.situation.registry d.stands.registry) in let there = sym c.in-Some.ensures.kept in
    let m = may_take d.options d.situation c.args.self.now c.args.number k d.stands live there c.args.tx.now d.later in
    c.comes_later.ensures (reader_in k) k.state (lives_here d.options d.situation c.args.self.now c.args.number k d.stands live there).shape.events c.args.tx.now.lsn m.stands m.later

pub returns-in_err-effect-clause-still : goal.returns-in_err-effect-clause-still
returns-in_err-effect-clause-still c = λ o v h. on_any_err c.from_residual.result
    (stays o v c.args.self.now _ c.args.number c.in-Some.shape.now c.take_commit.new.shape h (sym (c.in-Some.ensures.by_history (registry_start o) v.registry h.registry)) (sym c.in-Some.ensures.kept)
    refl refl refl (c.kept_mut.follows.holds c.take_commit.new.shape).0 (on_some_is c.kept_mut.result _ c.in-Some.is (c.kept_mut.follows.holds c.take_commit.new.shape).1)
    (c.in_err-effect.ensures).test (c.in_err-effect.ensures).limits (λ events g. (c.in_err-effect.ensures).still events g) refl)

pub returns-clause-taken : goal.returns-clause-taken
returns-clause-taken c = λ o v h new.
    takes_up o v c.args.self.now _ c.args.number c.in-Some.shape.now c.take_commit.new.shape h (sym (c.in-Some.ensures.by_history (registry_start o) v.registry h.registry)) (sym c.in-Some.ensures.kept)
    refl refl refl (c.kept_mut.follows.holds c.take_commit.new.shape).0 (on_some_is c.kept_mut.result _ c.in-Some.is (c.kept_mut.follows.holds c.take_commit.new.shape).1)
    (c.in_ok-effect.ensures).test (c.in_ok-effect.ensures).limits c.args.tx.now c.in_ok-effect.effect new (λ events m. (c.in_ok-effect.ensures).taken events m) refl
