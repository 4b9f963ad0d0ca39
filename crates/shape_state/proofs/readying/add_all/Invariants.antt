use Rattle.std.proofs.Common.{◌≡◌, List, drop}
use Rattle.shape_base.specs.declared.entry.Entry.{Entry}
use Rattle.shape_base.specs.Transactions.{LsnsRise}
use Rattle.shape_log.specs.Texts.{end_of}
use Rattle.chunked_log.specs.Chunked.{Holds}
use Rattle.shape_state.specs.Reading.{reader_of}
use Rattle.shape_state.specs.Later.{lsn_in}
use Rattle.shape_state.proofs.Taking.{AddsOn}
use Rattle.shape_state.proofs.readying.add_all.Given as goal

-- whatever the log had, it has the entries of the commits so far behind them, and the others come later
abbrev pub invariant-loop-tx : goal.invariant-loop-tx
invariant-loop-tx g l = record {
  adds : (entries : List Entry) → Holds l.fn.log entries → AddsOn (reader_of (g.T.RowTest.knows l.emitter.test) (g.T.RowTest.unread l.emitter.test)) l.limits l.log entries l.fn.txs (drop l.tx-index l.fn.txs);
  rise : LsnsRise (lsn_in (end_of l.log.offsets)) (drop l.tx-index l.fn.txs);
  least : l.log.least ≡ l.fn.log.least;
}
