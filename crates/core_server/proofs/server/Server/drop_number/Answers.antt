use Rattle.std.proofs.Common.{ap, refl, sym, subst}
use Rattle.core_law.specs.Situation.{registry_start}
use Rattle.core_law.specs.Steps.{dropped}
use Rattle.core_server.specs.Standing.{Stands}
use Rattle.core_server.proofs.Dropping.{drops_none, drops_some}
use Rattle.core_server.proofs.server.Server.drop_number.Goals as goal

pub returns-in-Some-clause-stands : goal.returns-in-Some-clause-stands
returns-in-Some-clause-stands c = λ o v h. drops_some o v c.args.self.now _ c.args.number c.args.cause c.bytes.result h
    (record {
      run = refl;
      limits = refl;
      tables = refl;
      registry = c.in-Some.ensures.removed (registry_start o) v.registry h.registry;
      catalog = ap (λ st. st.catalog) c.in-Some.ensures.state;
      kept = c.in-Some.ensures.kept;
      total = c.saturating_sub-self.ensures;
    })
    c.in-Some.shape (sym (c.in-Some.ensures.by_history (registry_start o) v.registry h.registry)) (sym c.in-Some.ensures.back) (λ events stands. c.bytes.ensures events stands)

pub returns-in_default-clause-stands : goal.returns-in_default-clause-stands
returns-in_default-clause-stands c = λ o v h. subst (λ r. Stands o (dropped v c.args.number c.args.cause) (record c.args.self.now { registry = r })) (sym c.in_default.ensures.unchanged)
    (drops_none o v c.args.self.now c.args.number c.args.cause h (sym c.in_default.ensures.back) (sym (c.in_default.ensures.by_history (registry_start o) v.registry h.registry)))
