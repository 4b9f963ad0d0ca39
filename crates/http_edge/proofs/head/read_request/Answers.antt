use Rattle.http_edge.proofs.Heads.{looked_at, answered}
use Rattle.http_edge.proofs.head.read_request.Goals as goal

pub refusal_of_unfinished-requires-clause-looked_at : goal.refusal_of_unfinished-requires-clause-looked_at
refusal_of_unfinished-requires-clause-looked_at c = looked_at c.args.input.now c.min.result c.min.ensures

pub refusal_of_fault-requires-clause-looked_at : goal.refusal_of_fault-requires-clause-looked_at
refusal_of_fault-requires-clause-looked_at c = looked_at c.args.input.now c.min.result c.min.ensures

pub returns-in-Ok-Complete : goal.returns-in-Ok-Complete
returns-in-Ok-Complete c = answered c.args.input.now _ c.request_of.result (looked_at c.args.input.now c.min.result c.min.ensures) c.request_of.ensures
