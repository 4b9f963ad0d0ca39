use Rattle.std.proofs.Common.{refl}
use Rattle.sync_core.proofs.Streams.{begins}
use Rattle.sync_core.proofs.stream.Stream.new.Goals as goal

pub returns : goal.returns
returns c tables h = begins tables _ h c.new.ensures.took refl refl
