use Rattle.std.proofs.Common.{subst, refl}
use Rattle.shape_base.specs.Decimal.{LacksByte}
use Rattle.http_edge.proofs.Spaces.{no_space, not_only}
use Rattle.http_edge.proofs.head.behind_only_space.Goals as goal

pub returns-in_err-rest-clause-absent : goal.returns-in_err-rest-clause-absent
returns-in_err-rest-clause-absent c = λ none before rest e p q. no_space before rest (subst (LacksByte 32) e (c.in_err-rest.ensures.absent refl))

pub returns-in-Some-clause-absent : goal.returns-in-Some-clause-absent
returns-in-Some-clause-absent c = λ none before rest e p q. not_only c.args.bytes.now _ _ _ _ c.in_ok-rest.ensures.found c.in-Some.ensures.found before rest e p q
