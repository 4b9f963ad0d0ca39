use Rattle.std.proofs.Common.{rules, refl, true≢false, sym}
use Rattle.pg_values.proofs.Uuids.{unread}
use Rattle.pg_values.proofs.value.read_uuid.Goals as goal

pub returns-in-Err-clause-refused : goal.returns-in-Err-clause-refused
returns-in-Err-clause-refused c = (unread c.args.text.now (search rules) (λ u e. true≢false (sym (c.in-Err.ensures.ok.1 (u, e)))), refl)
