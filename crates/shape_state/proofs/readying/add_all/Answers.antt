use Rattle.std.proofs.Common.{◌≡◌, ◌∙◌, ◌+◌, ◌∷◌, List, sym, ap, subst, drop}
use Rattle.std.proofs.lemmas.List.{drop_more}
use Rattle.std.proofs.Math.ListN.{drop_of_length-le}
use Rattle.shape_base.specs.declared.change.Tx.{Tx}
use Rattle.shape_base.specs.Transactions.{LsnsRise}
use Rattle.shape_log.specs.Texts.{end_of}
use Rattle.shape_state.specs.Reading.{reader_of}
use Rattle.shape_state.specs.Later.{lsn_in}
use Rattle.shape_state.proofs.Taking.{AddsOn, adds_more, adds_all, none_if, from_less}
use Rattle.shape_state.proofs.readying.add_all.Goals as goal

pub loop-tx-preserved : goal.loop-tx-preserved
loop-tx-preserved g c =
    let r = reader_of (g.T.RowTest.knows c.args.emitter.now.test) (g.T.RowTest.unread c.args.emitter.now.test) in
    let txs = c.args.txs.now in
    let i = c.loop-tx.tx-index in
    let tx = c.tx-item.result in
    let first : drop i txs ≡ tx ∷ drop (i + 1) txs = drop_more txs i tx c.loop-tx-test.true ∙ ap (λ (x : Tx). x ∷ drop (i + 1) txs) (sym c.tx-item.is) in
    let none = none_if c.in_ok-cause.cause (sym c.is_some.ensures ∙ c.if-is_some.false) in
    let rise = subst (LsnsRise (lsn_in (end_of c.loop-tx.log.offsets))) first c.loop-tx.invariant.rise in
    record {
      adds = λ entries held. adds_more r c.args.limits.now c.loop-tx.log c.add.new.log entries txs tx (drop (i + 1) txs) c.in_ok-cause.cause
          (subst (λ (ts : List Tx). AddsOn r c.args.limits.now c.loop-tx.log entries txs ts) first (c.loop-tx.invariant.adds entries held))
          (c.in_ok-cause.ensures).found (c.in_ok-cause.ensures).held none;
      rise = from_less (lsn_in (end_of c.add.new.log.offsets)) tx.lsn (drop (i + 1) txs) ((c.in_ok-cause.ensures).end none) rise.1;
      least = (c.in_ok-cause.ensures).least ∙ c.loop-tx.invariant.least;
    }

pub returns-clause-held : goal.returns-clause-held
returns-clause-held g c = λ entries held none.
    let r = reader_of (g.T.RowTest.knows c.args.emitter.now.test) (g.T.RowTest.unread c.args.emitter.now.test) in
    let txs = c.args.txs.now in
    (adds_all r c.args.limits.now c.loop-tx.log entries txs (drop c.loop-tx.tx-index txs) (c.loop-tx.invariant.adds entries held) (drop_of_length-le txs c.loop-tx-test.false)).1
