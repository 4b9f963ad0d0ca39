use Rattle.shape_base.specs.Offsets.{end_from}
use Rattle.chunked_log.proofs.Paging.{end_between}
use Rattle.chunked_log.proofs.log.end_of_page.Goals as goal

pub returns-then-from-to : goal.returns-then-from-to
returns-then-from-to c = end_between (end_from c.args.offset) c.args.log.now.offsets c.args.from c.args.to c.offset.result c.if-from-to.true c.offset.ensures
