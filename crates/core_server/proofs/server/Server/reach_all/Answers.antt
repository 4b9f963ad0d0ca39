use Rattle.std.proofs.Common.{refl}
use Rattle.core_server.proofs.Committing.{due_next, still_situated, one_further}
use Rattle.core_server.proofs.server.Server.reach_all.Goals as goal

pub reach-requires-clause-due : goal.reach-requires-clause-due
reach-requires-clause-due c = due_next c.args.self.now c.args.tx.now c.args.numbers.now c.loop-number.number-index _ c.loop-number.self c.loop-number.told c.requires.apart c.loop-number-test.true refl c.loop-number.invariant c.requires.noted

pub returns-in_err-tells-clause-situated : goal.returns-in_err-tells-clause-situated
returns-in_err-tells-clause-situated c = let d = due_next c.args.self.now c.args.tx.now c.args.numbers.now c.loop-number.number-index _ c.loop-number.self c.loop-number.told c.requires.apart c.loop-number-test.true refl c.loop-number.invariant c.requires.noted in
    record { options = d.options; situation = d.situation; stands = (c.in_err-tells.ensures).still d.options d.situation d.stands }

pub returns-in_err-note_told-clause-situated : goal.returns-in_err-note_told-clause-situated
returns-in_err-note_told-clause-situated c = let d = due_next c.args.self.now c.args.tx.now c.args.numbers.now c.loop-number.number-index _ c.loop-number.self c.loop-number.told c.requires.apart c.loop-number-test.true refl c.loop-number.invariant c.requires.noted in
    record { options = d.options; situation = _; stands = (c.in_ok-tells.ensures).reached d.options d.situation d.stands d.later }

pub loop-number-preserved : goal.loop-number-preserved
loop-number-preserved c = one_further c.args.self.now c.args.tx.now c.args.numbers.now c.loop-number.number-index _ c.loop-number.self c.reach.new.self c.loop-number.told c.in_ok-tells.tells c.note_told.new.told c.requires.apart c.loop-number-test.true refl c.loop-number.invariant
    c.in_ok-note_told.ensures (c.in_ok-tells.ensures).tables
    (λ o v h new. (c.in_ok-tells.ensures).reached o v h new) (λ o w h new quiet. (c.in_ok-tells.ensures).told o w h new quiet) (λ o w h new loud same. (c.in_ok-tells.ensures).only o w h new loud same)

pub returns-clause-situated : goal.returns-clause-situated
returns-clause-situated c = still_situated c.args.self.now c.args.tx.now c.args.numbers.now c.loop-number.number-index c.loop-number.self c.loop-number.told c.loop-number.invariant c.requires.noted
