use Rattle.std.proofs.Common.{◌∙◌, sym, arith}
use Rattle.std.specs.BTreeSet.{contains}
use Rattle.std.specs.Ordering.{nat_cmp}
use Rattle.std.specs.Cmp.Lexicographic.{slice_cmp}
use Rattle.shape_snapshot.proofs.Putting.{fits}
use Rattle.shape_snapshot.proofs.kept.Kept.put.Goals as goal

pub returns-clause-ok : goal.returns-clause-ok
returns-clause-ok c entries holds =
    fits c.args.limits.now (contains (slice_cmp nat_cmp) c.args.self.now.keys c.args.entry.key) c.args.entry.key entries c.args.entry c.bytes.result c.entry_size.result c.saturating_add-bytes.result (sym c.contains.ensures ∙ c.if-contains.false) (c.bytes.ensures.held entries holds) c.entry_size.ensures c.saturating_add-bytes.ensures (omega arith)
