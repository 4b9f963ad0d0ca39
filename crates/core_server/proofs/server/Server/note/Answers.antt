use Rattle.std.proofs.Common.{◌<◌, ap, refl, subst}
use Rattle.std.proofs.lemmas.Result.{IfOk-weaker}
use Rattle.shape_registry.proofs.Laws.{last_lsn_by_history}
use Rattle.core_law.specs.Situation.{registry_start}
use Rattle.core_server.proofs.Committing.{notes, all_new, both_ok}
use Rattle.core_server.proofs.server.Server.note.Goals as goal

pub returns-clause-noted : goal.returns-clause-noted
returns-clause-noted c = λ o v h. let s = c.args.self.now in both_ok c.take.result c.take.ensures.ok c.take.ensures.took
    (λ numbers ok took. notes o v s _ c.args.tx.now h (subst (λ n. n < c.args.tx.now.lsn) (last_lsn_by_history (registry_start o) v.registry s.registry.state h.registry) c.requires) (record {
      run = refl;
      limits = refl;
      tables = refl;
      registry = took (registry_start o) v.registry h.registry;
      catalog = ap (λ st. st.catalog) ok.1;
      kept = c.take.ensures.kept;
      total = refl;
    }))

pub returns-clause-later : goal.returns-clause-later
returns-clause-later c = λ o v h n. let s = c.args.self.now in all_new o v s c.args.tx.now n h (subst (λ n. n < c.args.tx.now.lsn) (last_lsn_by_history (registry_start o) v.registry s.registry.state h.registry) c.requires)

pub returns-clause-numbers : goal.returns-clause-numbers
returns-clause-numbers c = λ o v h. IfOk-weaker c.take.result _ _ (λ numbers f. f (registry_start o) v.registry h.registry) c.take.ensures.numbers
