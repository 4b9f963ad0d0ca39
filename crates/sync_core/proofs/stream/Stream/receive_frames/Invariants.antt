use Rattle.std.proofs.Common.{◌≡◌, ◌++◌, List, false}
use Rattle.shape_base.specs.declared.served.Served.{Served}
use Rattle.sync_core.specs.Stream.{Stream}
use Rattle.sync_core.specs.Streaming.{Stands, AreWhole, BringsServed}
use Rattle.sync_core.proofs.Streams.{Mid}
use Rattle.sync_core.proofs.stream.Stream.receive_frames.Given as goal

-- the frames that were taken in this call, for whatever the stream stood before it
abbrev pub invariant-frames : goal.invariant-frames
invariant-frames l = record {
  mid : (tables : List Served) (s : Stream) (st : Stands tables l.fn.self s) (goes : l.fn.self.over ≡ false) → Mid tables s (st.frames goes).0 (s.fed ++ l.bytes) l.self l.brought;
  goes : l.self.over ≡ false;
  first : l.fn.self.over ≡ false;
  whole : AreWhole l.brought.txs;
  served : BringsServed l.fn.self l.brought.txs;
}
