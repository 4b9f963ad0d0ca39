use Rattle.http_edge.proofs.ChainLaws.{fixed_made, fixed_whole}
use Rattle.http_edge.proofs.reply_lines.fixed_lines.Goals as goal

pub returns-clause-read : goal.returns-clause-read
returns-clause-read c = fixed_made _ _ _ _ _ _ _ _ _ c.in_ok-status.ensures.read c.in_ok-kind.ensures.read c.in_ok-length.ensures.read c.in_ok-cache.ensures.read

pub returns-clause-whole : goal.returns-clause-whole
returns-clause-whole c = fixed_whole _ _ _ _ _ _ _ _ _ c.in_ok-status.ensures.whole c.in_ok-kind.ensures.whole c.in_ok-length.ensures.whole c.in_ok-cache.ensures.whole
