use Rattle.http_edge.proofs.WritingLaws.{four_lines}
use Rattle.http_edge.proofs.writing.fixed_lines.Goals as goal

pub returns : goal.returns
returns c = four_lines _ _ _ _ _ _ _ _ c.in_ok-out.ensures c.in_ok-put_line.ensures c.in_ok-put_length.ensures c.in_ok-put_cache.ensures
