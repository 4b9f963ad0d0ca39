use Rattle.shape_base.specs.declared.served.Served.{Served}
use Rattle.shape_def.specs.declared.faults.DefError.{DefError}
use Rattle.shape_def.specs.declared.defining.Def.{Def}
use Rattle.shape_def.specs.Definition.{refusal_of, knows_of, IsRefusal, IsDefined}
use Rattle.shape_def.proofs.Refusals.{defined_at, known_at, refused_at}
use Rattle.shape_def.proofs.defining.Def.from_ask.Goals as goal

pub returns-clause-ok : goal.returns-clause-ok
returns-clause-ok c = defined_at c.define.result (λ (served : Served) (made : Def). IsDefined (knows_of made.served made.condition.definition made.key made.selected made.condition.clause) served c.args.def.now c.args.ask.now.columns c.args.ask.now.clause) c.args.tables.now c.args.ask.now.table _ c.at-served.result.now c.requires.served c.from.ensures c.at-served.ensures c.define.ensures.ok

pub returns-clause-err : goal.returns-clause-err
returns-clause-err c = refused_at c.define.result (λ (served : Served) (e : DefError). IsRefusal (refusal_of served c.args.def.now c.args.ask.now.columns c.args.ask.now.clause) e) c.args.tables.now c.args.ask.now.table _ c.at-served.result.now c.requires.served c.from.ensures c.at-served.ensures c.define.ensures.err

pub returns-clause-knows : goal.returns-clause-knows
returns-clause-knows c = known_at c.define.result (λ (made : Def). knows_of made.served made.condition.definition made.key made.selected made.condition.clause) c.args.tables.now c.args.ask.now.table _ c.at-served.result.now c.args.def.now c.args.ask.now.columns c.args.ask.now.clause c.requires.served c.from.ensures c.at-served.ensures c.define.ensures.ok
