use Rattle.std.proofs.Common.{◌∙◌, refl, ap}
use Rattle.std.specs.Prelude.{Err}
use Rattle.sync_core.proofs.Streams.{unread_one, bad_reading}
use Rattle.sync_core.proofs.stream.Stream.take_message.Goals as goal

pub returns-in_ok-named-in-Err-BadMessage-clause-takes : goal.returns-in_ok-named-in-Err-BadMessage-clause-takes
returns-in_ok-named-in-Err-BadMessage-clause-takes c tables s h =
    let e = c.in-Err-BadMessage in
    let none = bad_reading c.read_message.result e.field-0-0 e.field-0-1 _ (e.is ∙ ap Err e.field-0-is) c.read_message.ensures.exact in
    unread_one tables s c.args.bytes.now none.0 c.in_ok-named-in-Err-BadMessage.field-0 c.args.self.now _ h c.requires none.1 refl refl c.in_ok-named-in-Err-BadMessage.ensures
