use Rattle.std.proofs.Common.{◌∙◌, ap, List, ℕ}
use Rattle.cache_core.specs.Entries.{Cached}
use Rattle.cache_core.proofs.Kept.{keeps}
use Rattle.cache_core.proofs.cache.Cache.keep.Goals as goal

pub returns-clause-ok : goal.returns-clause-ok
returns-clause-ok c =
    let put : List ℕ → Cached = λ x. record { target = x; reply = c.args.kept.reply; put_at = c.args.kept.put_at } in
    keeps c.self.inside.replies c.put.new.self c.in_ok-key.key c.args.kept (put c.args.target.now) c.args.self.now c.len-count.ensures.valid c.in_ok-_was.ensures.entries (ap put (c.in_ok-key.ensures.ok ∙ c.as_str.ensures)) c.self.view_is
