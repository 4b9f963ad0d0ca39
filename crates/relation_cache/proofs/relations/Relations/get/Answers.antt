use Rattle.std.proofs.Common.{◌≡◌, Some, None, sym, ap, ◌∙◌, refl, rules, arith}
use Rattle.std.proofs.lemmas.Grind.{common_steps}
use Rattle.std.specs.Ordering.{nat_cmp}
use Rattle.std.specs.BTreeMap as tree
use Rattle.std.specs.FinMap as fin
use Rattle.relation_cache.proofs.ByOid.{get_in}
use Rattle.relation_cache.proofs.relations.Relations.get.Goals as goal

pub returns-in-Some : goal.returns-in-Some
returns-in-Some c =
    let found : tree.get nat_cmp c.self.inside.by_oid c.args.oid ≡ Some c.in-Some.relation.now = first_of (search rules, grind (arith, common_steps)) in
    ap (λ m. fin.get m c.args.oid) (sym c.self.view_is) ∙ get_in c.self.inside.by_oid c.args.oid ∙ found

pub returns-in-None : goal.returns-in-None
returns-in-None c =
    let absent : tree.get nat_cmp c.self.inside.by_oid c.args.oid ≡ None = first_of (search rules, grind (arith, common_steps)) in
    (ap (λ m. fin.get m c.args.oid) (sym c.self.view_is) ∙ get_in c.self.inside.by_oid c.args.oid ∙ absent, refl)
