use Rattle.std.proofs.Common.{rules, arith, subst}
use Rattle.std.specs.Str.{IsUtf8}
use Rattle.std.proofs.lemmas.Grind.{common_steps}
use Rattle.shape_model.proofs.KeyOrder.{front_utf8}
use Rattle.shape_model.proofs.keyed.table_text.Goals as goal

pub returns-clause-utf8 : goal.returns-clause-utf8
returns-clause-utf8 c = front_utf8 c.args.served.now.ns c.args.served.now.name _ (first_of (search rules, grind (arith, common_steps))) (subst IsUtf8 c.as_bytes-ns.ensures.same c.as_bytes-ns.ensures.utf8) (subst IsUtf8 c.as_bytes-name.ensures.same c.as_bytes-name.ensures.utf8)
