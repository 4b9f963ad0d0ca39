use Rattle.std.proofs.Common.{◌+◌, ℕ, List, drop, sym, subst}
use Rattle.std.proofs.lemmas.Result.{IfOk-weaker}
use Rattle.std.proofs.Math.ListN.{drop_of_length-le}
use Rattle.shape_base.specs.declared.change.Tx.{Tx}
use Rattle.core_machine.specs.Committing.{AreTakable, AreTaken}
use Rattle.core_machine.proofs.Committing.{Taking, begins, goes_on, ends, next_here}
use Rattle.core_machine.proofs.commits.take_all.Goals as goal

pub loop-tx-init : goal.loop-tx-init
loop-tx-init c = begins c.args.server.now c.args.txs.now _ c.requires.situated c.requires.takable

pub take_one-requires-clause-situated : goal.take_one-requires-clause-situated
take_one-requires-clause-situated c = c.loop-tx.invariant.situated

pub take_one-requires-clause-takable : goal.take_one-requires-clause-takable
take_one-requires-clause-takable c = (subst (AreTakable c.loop-tx.server.tables) (next_here c.args.txs.now c.loop-tx.tx-index c.tx-item.result c.loop-tx-test.true c.tx-item.is) c.loop-tx.invariant.takable).0

pub loop-tx-preserved : goal.loop-tx-preserved
loop-tx-preserved c =
    let txs = c.args.txs.now in
    let i = c.loop-tx.tx-index in
    goes_on c.args.server.now c.loop-tx.server c.take_one.new.server txs c.tx-item.result (drop (i + 1) txs) c.loop-tx.told.keys c.take_one.new.told.keys
    (subst (λ (rest : List Tx). Taking c.args.server.now c.loop-tx.server txs rest c.loop-tx.told.keys) (next_here txs i c.tx-item.result c.loop-tx-test.true c.tx-item.is) c.loop-tx.invariant)
    (λ o v h. (c.in_ok-take_one.ensures).taken o v h) (c.in_ok-take_one.ensures).tables

pub returns : goal.returns
returns c =
    let txs = c.args.txs.now in
    let old = c.args.server.now in
    let new = c.loop-tx.server in
    let keys = c.loop-tx.told.keys in
    IfOk-weaker c.listed.result _ _
    (λ told same o v h. subst (λ (ns : List ℕ). AreTaken o v txs new ns) (sym same) (ends old new txs keys (subst (λ (rest : List Tx). Taking old new txs rest keys) (drop_of_length-le txs c.loop-tx-test.false) c.loop-tx.invariant) o v h))
    c.listed.ensures.same
