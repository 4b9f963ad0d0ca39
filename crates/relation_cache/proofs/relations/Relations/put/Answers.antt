use Rattle.std.proofs.Common.{sym, ap, ◌∙◌}
use Rattle.std.specs.FinMap as fin
use Rattle.relation_cache.proofs.ByOid.{insert_in}
use Rattle.relation_cache.proofs.relations.Relations.put.Goals as goal

pub returns-clause-ok : goal.returns-clause-ok
returns-clause-ok c =
    insert_in c.self.inside.by_oid c.insert.new.self c.args.relation.oid c.args.relation c.in_ok-_before.ensures.updates.0
    ∙ ap (λ m. fin.insert m c.args.relation.oid c.args.relation) c.self.view_is
