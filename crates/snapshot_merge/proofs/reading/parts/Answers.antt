use Rattle.snapshot_merge.proofs.Rising.{parts_ordered}
use Rattle.snapshot_merge.proofs.reading.parts.Goals as goal

pub returns-clause-ordered : goal.returns-clause-ordered
returns-clause-ordered c = parts_ordered c.in_ok-xmin.xmin c.in_ok-xmax.xmax c.in_ok-listed.listed.items c.in_ok-rest-2.rest.now c.in_ok-xmin.ensures.bound.0 c.in_ok-xmax.ensures.bound.0 c.in_ok-listed.ensures
