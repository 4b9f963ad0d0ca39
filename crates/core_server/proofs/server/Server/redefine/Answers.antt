use Rattle.std.proofs.Common.{refl, ap}
use Rattle.core_law.specs.Situation.{registry_start}
use Rattle.core_server.proofs.Redefining.{redefines}
use Rattle.core_server.proofs.server.Server.redefine.Goals as goal

pub returns-clause-stands : goal.returns-clause-stands
returns-clause-stands c = λ o v h. redefines o v c.args.self.now _ c.args.definition h c.requires.new (record {
  run = refl;
  limits = refl;
  tables = refl;
  registry = c.redefine.ensures.redefined (registry_start o) v.registry h.registry;
  catalog = ap (λ st. st.catalog) c.redefine.ensures.state;
  kept = c.redefine.ensures.kept;
  total = refl;
})
