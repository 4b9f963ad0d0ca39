use Rattle.std.proofs.Common.{sym, ◌++◌, subst}
use Rattle.std.specs.List.{flat_map}
use Rattle.shape_base.specs.Transactions.{IsWhole}
use Rattle.sync_core.specs.declared.stream.Brought.{Brought}
use Rattle.sync_core.specs.Stream.{in_frame, with_items}
use Rattle.sync_core.specs.Streaming.{AreWhole}
use Rattle.sync_core.proofs.Streams.{frames_over, loop_starts, loop_ends, loop_over, loop_more, txs_more, served_none, served_more}
use Rattle.sync_core.proofs.stream.Stream.receive_frames.Goals as goal

pub returns-then-self-clause-receives : goal.returns-then-self-clause-receives
returns-then-self-clause-receives c tables s st = frames_over tables s c.args.bytes.now c.args.self.now c.nothing-brought.result st c.if-self.true c.nothing-brought.ensures

pub returns-then-self-clause-served : goal.returns-then-self-clause-served
returns-then-self-clause-served c = served_none c.args.self.now c.nothing-brought.result c.nothing-brought.ensures

pub frames-init : goal.frames-init
frames-init c = record {
  mid = λ tables s st goes. loop_starts tables s c.args.bytes.now c.args.self.now c.feed.new.self c.nothing-brought.result st goes ((c.in_ok-feed.ensures).took s.fed (st.frames goes).0 (st.frames goes).1) c.nothing-brought.ensures;
  goes = c.if-self.false;
  first = c.if-self.false;
  whole = subst (λ (b : Brought). AreWhole b.txs) (sym c.nothing-brought.ensures) tt;
  served = served_none c.args.self.now c.nothing-brought.result c.nothing-brought.ensures;
}

pub returns-in_default-clause-receives : goal.returns-in_default-clause-receives
returns-in_default-clause-receives c tables s st =
    let inv = c.frames.invariant in
    loop_ends tables s c.args.bytes.now c.args.self.now c.frames.self c.take_frame.new.self c.frames.brought c.in_ok-outcome.field-0 st inv.first (inv.mid tables s st inv.first)
    (λ s' taken h t. (c.in_ok-outcome.ensures).takes tables s' (s.fed ++ c.args.bytes.now) taken h t) c.in_default.not-Some

pub returns-then-self-2-clause-receives : goal.returns-then-self-2-clause-receives
returns-then-self-2-clause-receives c tables s st =
    let inv = c.frames.invariant in
    loop_over tables s c.args.bytes.now c.args.self.now c.frames.self c.take_frame.new.self c.frames.brought c.add.new.self c.in_ok-outcome.field-0 c.in-Some.outcome st inv.first (inv.mid tables s st inv.first)
    (λ s' taken h t. (c.in_ok-outcome.ensures).takes tables s' (s.fed ++ c.args.bytes.now) taken h t) c.in-Some.is c.if-self-2.true c.in_ok-add.ensures

pub returns-then-self-2-clause-served : goal.returns-then-self-2-clause-served
returns-then-self-2-clause-served c tables s st =
    let inv = c.frames.invariant in
    let mid = inv.mid tables s st inv.first in
    served_more tables (with_items tables s (flat_map in_frame mid.taken)) c.frames.self c.frames.brought c.add.new.self c.in-Some.outcome c.in_ok-outcome.field-0 mid.come c.in-Some.is (inv.served tables s st) (c.in_ok-outcome.ensures).served c.in_ok-add.ensures

pub frames-preserved : goal.frames-preserved
frames-preserved c =
    let inv = c.frames.invariant in
    record {
      mid = λ tables s st goes. loop_more tables s c.args.bytes.now c.args.self.now c.frames.self c.take_frame.new.self c.frames.brought c.add.new.self c.in_ok-outcome.field-0 c.in-Some.outcome st goes (inv.mid tables s st goes)
          (λ s' taken h t. (c.in_ok-outcome.ensures).takes tables s' (s.fed ++ c.args.bytes.now) taken h t) c.in-Some.is c.if-self-2.false c.in_ok-add.ensures;
      goes = c.if-self-2.false;
      first = inv.first;
      whole = txs_more IsWhole c.frames.brought c.add.new.self c.in-Some.outcome c.in_ok-outcome.field-0 c.in-Some.is inv.whole (c.in_ok-outcome.ensures).whole c.in_ok-add.ensures;
      served = λ tables s st.
          let mid = inv.mid tables s st inv.first in
          served_more tables (with_items tables s (flat_map in_frame mid.taken)) c.frames.self c.frames.brought c.add.new.self c.in-Some.outcome c.in_ok-outcome.field-0 mid.come c.in-Some.is (inv.served tables s st) (c.in_ok-outcome.ensures).served c.in_ok-add.ensures;
    }
