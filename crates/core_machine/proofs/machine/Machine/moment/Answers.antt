use Rattle.std.proofs.Common.{◌≡◌, List, ℕ, true, false, None, sym, subst, arith}
use Rattle.std.specs.Prelude.{nat_lt}
use Rattle.std.proofs.lemmas.Bool.Decides.{nat_tests}
use Rattle.core_law.specs.Run.{turn_of, Moment, is_late_at}
use Rattle.core_law.proofs.Lemmas.{exchanges_rise}
use Rattle.core_machine.specs.Awaiting.{AnswersAt}
use Rattle.core_machine.proofs.Removing.{next_by, halfway_next, at_moment, moves, shows, moved}
use Rattle.core_machine.proofs.Turning.{situated}
use Rattle.core_machine.proofs.machine.Machine.moment.Goals as goal

pub answer_at-requires : goal.answer_at-requires
answer_at-requires c =
    let o = c.requires.options in
    let s = c.requires.situation in
    let h = c.requires.stands in
    let now = c.args.now in
    let later : nat_lt now s.clock ≡ false = grind (arith, nat_tests, c.if-now-self.false, h.clock) in
    record { options = o; situation = next_by o s (Moment now); asked = s.exchanges; halfway = halfway_next o s (at_moment o s now later) (Moment now) (is_late_at o now) (moves o s now later) h.start h.reached (λ v is. is) c.args.self.now.server c.args.self.now.exchanges h.server h.exchanges }

pub returns-clause-takes : goal.returns-clause-takes
returns-clause-takes c o s h =
    let now = c.args.now in
    let m' = c.answer_at.new.self in
    let outs = c.in_ok-answer_at.field-0 in
    let answered = c.in_ok-answer_at.ensures in
    let later : nat_lt now s.clock ≡ false = grind (arith, nat_tests, c.if-now-self.false, h.clock) in
    moved o s now later c.args.self.now m' outs c.in_ok-places.places.items h
    (c.in_ok-places.ensures o s.exchanges h.exchanges (exchanges_rise o s h.reached) (sym h.hold)) answered.server answered.spares answered.lasts
    (subst (λ (places : List ℕ). AnswersAt (shows o s now later c.args.self.now) m' places true None outs) c.as_slice.ensures.value answered.answered)

pub returns-clause-situated : goal.returns-clause-situated
returns-clause-situated c = let w = c.requires in situated w.options (turn_of w.options w.situation (Moment c.args.now)) _ _ (returns-clause-takes c w.options w.situation w.stands)
