use Rattle.std.proofs.Common.{◌∙◌, sym, map, length}
use Rattle.chunked_log.proofs.Paging.{stop_behind}
use Rattle.chunked_log.proofs.log.stop.Goals as goal

pub returns-in-Some-clause-order : goal.returns-in-Some-clause-order
returns-in-Some-clause-order c = (stop_behind c.args.cutter.now.least c.args.log.now.texts c.args.from c.in-Some.end (sym (c.chunk_end.ensures (map length c.args.log.now.texts) c.requires.cut) ∙ c.in-Some.is)).0

pub returns-in-Some-clause-inside : goal.returns-in-Some-clause-inside
returns-in-Some-clause-inside c = (stop_behind c.args.cutter.now.least c.args.log.now.texts c.args.from c.in-Some.end (sym (c.chunk_end.ensures (map length c.args.log.now.texts) c.requires.cut) ∙ c.in-Some.is)).1
