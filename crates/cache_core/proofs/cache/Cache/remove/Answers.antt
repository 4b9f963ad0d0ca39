use Rattle.cache_core.proofs.Kept.{removes}
use Rattle.cache_core.proofs.cache.Cache.remove.Goals as goal

pub returns : goal.returns
returns c = removes c.self.inside.replies c.pop-was.new.self c.as_str.result.now c.args.target.now c.args.self.now c.len-count.ensures.valid c.pop-was.ensures.entries c.as_str.ensures c.self.view_is
