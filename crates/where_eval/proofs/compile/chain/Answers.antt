use Rattle.std.proofs.Common.{◌∷◌, map, ap, ◌∙◌}
use Rattle.std.proofs.lemmas.List.{append-nil}
use Rattle.where_eval.specs.Plans.{meaning, meanings}
use Rattle.where_eval.proofs.Compiling.{chain_next}
use Rattle.where_eval.proofs.compile.chain.Goals as goal

pub loop-member-init : goal.loop-member-init
loop-member-init c = λ row. append-nil (map (λ p. meaning p row) c.args.members.items)

pub loop-member-preserved : goal.loop-member-preserved
loop-member-preserved c = λ row.
    chain_next row c.loop-member.members.items c.pop.new.self.items c.in-Some.member (meanings c.loop-member.rest row)
    (meaning c.in_ok-new.field-0.value row ∷ meanings c.in_ok-new-2.field-0.value row)
    (c.loop-member.invariant row) c.in-Some.ensures.items
    (ap (λ p. meaning p row ∷ meanings c.in_ok-new-2.field-0.value row) c.in_ok-new.ensures.ok ∙ ap (λ r. meaning c.in-Some.member row ∷ meanings r row) c.in_ok-new-2.ensures.ok)
