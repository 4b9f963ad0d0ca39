use Rattle.std.proofs.Common.{List, ℕ, None, refl, sym, subst}
use Rattle.core_law.specs.Clients.{never}
use Rattle.core_law.specs.Run.{turn_of, Committed}
use Rattle.core_machine.specs.Awaiting.{awaits_any, AreAnswered}
use Rattle.core_machine.specs.Committing.{AreTaken}
use Rattle.core_machine.proofs.Committing.{with_commits, committed}
use Rattle.core_machine.proofs.Removing.{next_by, halfway_next}
use Rattle.core_machine.proofs.Turning.{situated}
use Rattle.core_machine.proofs.machine.Machine.commit.Goals as goal

pub answer_awaiting_any-requires : goal.answer_awaiting_any-requires
answer_awaiting_any-requires c =
    let w = c.requires.situated in
    let o = w.options in
    let s = w.situation in
    let h = w.stands in
    let txs = c.args.txs.now in
    record { options = o; situation = next_by o s (Committed txs); asked = s.exchanges; halfway = halfway_next o s (with_commits o s txs) (Committed txs) never refl h.start h.reached (λ v is. is) c.take_all.new.server c.args.self.now.exchanges (c.in_ok-told.ensures o s.server h.server).stands h.exchanges }

pub returns-clause-takes : goal.returns-clause-takes
returns-clause-takes c o s h =
    let txs = c.args.txs.now in
    let told = c.in_ok-told.told.items in
    let z = next_by o s (Committed txs) in
    let taken = c.in_ok-told.ensures o s.server h.server in
    let half = halfway_next o s (with_commits o s txs) (Committed txs) never refl h.start h.reached (λ v is. is) c.take_all.new.server c.args.self.now.exchanges taken.stands h.exchanges in
    let spares = (c.in_ok-answer_awaiting_any.ensures).spares in
    committed o s txs c.args.self.now c.answer_awaiting_any.new.self told c.in_ok-answer_awaiting_any.field-0 h
    (subst (λ v. AreTaken o s.server txs v told) (sym (c.in_ok-answer_awaiting_any.ensures).server) taken)
    (record { clients = spares.clients; asks = spares.asks; clock = spares.clock; hold = spares.hold })
    (c.in_ok-answer_awaiting_any.ensures).lasts
    (subst (λ (ns : List ℕ). AreAnswered o z s.exchanges c.answer_awaiting_any.new.self (awaits_any ns) None c.in_ok-answer_awaiting_any.field-0) c.as_slice.ensures.value ((c.in_ok-answer_awaiting_any.ensures).answered o z s.exchanges half))

pub returns-clause-situated : goal.returns-clause-situated
returns-clause-situated c = let w = c.requires.situated in situated w.options (turn_of w.options w.situation (Committed c.args.txs.now)) _ _ (returns-clause-takes c w.options w.situation w.stands)
