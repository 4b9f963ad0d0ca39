use Rattle.pg_wire.proofs.Refusals.{given_or_bad}
use Rattle.pg_wire.proofs.content.or_bad.Goals as goal

pub returns-in-Some : goal.returns-in-Some
returns-in-Some c payload frame e = given_or_bad payload c.args.place c.in-Some.content frame (rw c.in-Some.is at e)
