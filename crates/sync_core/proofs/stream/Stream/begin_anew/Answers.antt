use Rattle.std.proofs.Common.{refl}
use Rattle.sync_core.specs.Stream.{done_in, messages_in}
use Rattle.sync_core.proofs.Streams.{begins_anew}
use Rattle.sync_core.proofs.stream.Stream.begin_anew.Goals as goal

pub returns : goal.returns
returns c tables s h = begins_anew tables s _ (c.reopen.ensures.taken tables (done_in s) (messages_in s.now) h.come.taken) c.new.ensures.took refl refl
