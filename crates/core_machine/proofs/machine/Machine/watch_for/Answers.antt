use Rattle.std.proofs.Common.{◌≡◌, ◌∙◌, ◌+◌, ◌-◌, ℕ, zero, suc, Bool, true, false, not, refl, sym, ap, subst, arith, List}
use Rattle.std.specs.Prelude.{Result, Err}
use Rattle.std.proofs.lemmas.Result.{err_from_is_err_and}
use Rattle.core_events.specs.declared.out.Out.{Out}
use Rattle.core_events.specs.declared.out.StepError.{StepError}
use Rattle.core_law.specs.Clients.{watch}
use Rattle.core_machine.specs.Turns.{GoesOn, TurnsTo}
use Rattle.core_machine.proofs.Rounds.{HasWatched, begins, more, over, stops, spent}
use Rattle.core_machine.proofs.machine.Machine.watch_for.Goals as goal

less_none : (n : ℕ) → n ≡ n - 0
less_none n = omega arith

was_true : (b : Bool) → not b ≡ false → b ≡ true
was_true true h = refl
was_true false h = cc

was_false : (b : Bool) → not b ≡ true → b ≡ false
was_false true h = cc
was_false false h = refl

pub loop-done-init : goal.loop-done-init
loop-done-init c = record { situated = c.requires; watched = λ o s h. subst (λ left. HasWatched o s c.args.client c.args.rounds left c.args.self.now c.new-all.result.items) (less_none c.args.rounds) (begins o s c.args.client c.args.rounds c.args.self.now c.new-all.result.items c.new-all.ensures.items h) }

pub watch_round-requires : goal.watch_round-requires
watch_round-requires c = c.loop-done.invariant.situated

pub loop-done-preserved : goal.loop-done-preserved
loop-done-preserved c =
    let k = c.args.rounds in
    let i = c.loop-done._done in
    let one : k - i ≡ suc (k - (i + 1)) = omega arith in
    record {
      situated = (c.in_ok-round.ensures).situated;
      watched = λ o s h. let w = c.loop-done.invariant.watched o s h in
          subst (λ (texts : List Out). HasWatched o s c.args.client k (k - (i + 1)) c.watch_round.new.self texts) (sym c.in_ok-add.ensures)
          (more o s c.args.client k (k - i) (k - (i + 1)) c.loop-done.self c.watch_round.new.self c.loop-done.all.items one w c.in_ok-round.round (was_true c.in_ok-round.round.goes_on c.if-not-round.false) ((c.in_ok-round.ensures).rounds o w.now w.stands));
    }

pub returns-in_err-round-clause-watches : goal.returns-in_err-round-clause-watches
returns-in_err-round-clause-watches c o s h =
    let k = c.args.rounds in
    let i = c.loop-done._done in
    let one : k - i ≡ suc (k - (i + 1)) = omega arith in
    let w = c.loop-done.invariant.watched o s h in
    let error = c.in_err-round.field-0.0 in
    let p = err_from_is_err_and c.from_residual.result c.from_residual.ensures.1 in
    subst (λ (r : Result (List Out) StepError). TurnsTo o (watch o k c.args.client s) r c.watch_round.new.self) (sym (p.1 ∙ ap (λ (x : StepError). Err x) p.2))
    (stops o s c.args.client k (k - i) (k - (i + 1)) c.loop-done.self c.watch_round.new.self c.loop-done.all.items one w error ((c.in_err-round.ensures).rounds o w.now w.stands))

pub returns-then-not-round-clause-watches : goal.returns-then-not-round-clause-watches
returns-then-not-round-clause-watches c o s h =
    let k = c.args.rounds in
    let i = c.loop-done._done in
    let one : k - i ≡ suc (k - (i + 1)) = omega arith in
    let w = c.loop-done.invariant.watched o s h in
    subst (λ (texts : List Out). GoesOn o (watch o k c.args.client s) texts c.watch_round.new.self) (sym (c.from_vec.ensures ∙ c.in_ok-add.ensures))
    (over o s c.args.client k (k - i) (k - (i + 1)) c.loop-done.self c.watch_round.new.self c.loop-done.all.items one w c.in_ok-round.round (was_false c.in_ok-round.round.goes_on c.if-not-round.true) ((c.in_ok-round.ensures).rounds o w.now w.stands))

pub returns-clause-watches : goal.returns-clause-watches
returns-clause-watches c o s h =
    let k = c.args.rounds in
    let none : k - c.loop-done._done ≡ zero = omega arith in
    subst (λ (texts : List Out). GoesOn o (watch o k c.args.client s) texts c.loop-done.self) (sym c.from_vec-2.ensures)
    (spent o s c.args.client k (k - c.loop-done._done) c.loop-done.self c.loop-done.all.items none (c.loop-done.invariant.watched o s h))

pub returns-clause-situated : goal.returns-clause-situated
returns-clause-situated c = c.loop-done.invariant.situated
