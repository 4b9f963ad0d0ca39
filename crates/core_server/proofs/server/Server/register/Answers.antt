use Rattle.std.proofs.Common.{◌<◌, ◌∙◌, ap, sym, subst}
use Rattle.std.specs.Prelude.{length}
use Rattle.std.proofs.lemmas.Result.{IfErr-weaker}
use Rattle.core_server.proofs.Registrations.{refused_first, refused_then}
use Rattle.core_server.proofs.server.Server.register.Goals as goal

pub put-requires-clause-served : goal.put-requires-clause-served
put-requires-clause-served c = let r = c.requires.situated in subst (λ n. c.args.ask.now.table < n) (ap length r.stands.tables ∙ sym r.stands.catalog.served) c.requires.served

pub returns-in-Ok-clause-registered : goal.returns-in-Ok-clause-registered
returns-in-Ok-clause-registered c = λ o v h. c.put.ensures.put o v h (c.in-Ok.ensures.ok o v h)

pub returns-in-Ok-clause-refused : goal.returns-in-Ok-clause-refused
returns-in-Ok-clause-refused c = λ o v h. IfErr-weaker c.put.result _ _ (λ e f. refused_then o v c.args.ask.now e (c.in-Ok.ensures.ok o v h).allowed f) (c.put.ensures.refused o v h)

pub returns-in-Err-clause-refused : goal.returns-in-Err-clause-refused
returns-in-Err-clause-refused c = λ o v h. refused_first o v c.args.ask.now c.in-Err.error (c.in-Err.ensures.refused o v h)
