use Rattle.std.proofs.Common.{sym, subst}
use Rattle.tx_assembler.specs.Served.{AreNarrow}
use Rattle.tx_assembler.proofs.Served.{relation_narrow, narrow_put}
use Rattle.tx_assembler.proofs.assembler.Assembler.relate.Goals as goal

pub invariant_of-self-2 : goal.invariant_of-self-2
invariant_of-self-2 c =
    let r = c.in_ok-relation.relation in
    let narrow = relation_narrow c.args.oid c.args.ns c.args.name c.args.columns r c.requires.few c.in_ok-relation.ensures in
    record {
      few = c.self.invariant.few;
      whole = c.self.invariant.whole;
      narrow = subst AreNarrow (sym c.in_ok-put.ensures.ok) (narrow_put c.self.inside.relations r c.self.invariant.narrow narrow);
      served = c.self.invariant.served;
    }
