use Rattle.form_urlencoded.specs.Parse.{raw_pairs_left}
use Rattle.http_edge.proofs.ParameterLaws.{next_pairs, no_texts}
use Rattle.http_edge.proofs.parameters.texts_of.Goals as goal

pub returns-in-Err-clause-refused : goal.returns-in-Err-clause-refused
returns-in-Err-clause-refused c = no_texts c.args.query.now c.pairs.parameters.items (raw_pairs_left c.pairs.pairs) (raw_pairs_left c.next.new.self) (c.in-Some.name.now, c.in-Some.value.now) c.in-Err.error c.pairs.invariant.0 c.in-Some.ensures.steps c.in-Err.ensures.refused

pub pairs-preserved : goal.pairs-preserved
pairs-preserved c = next_pairs c.args.query.now c.pairs.parameters.items _ c.in-Ok.parameter (raw_pairs_left c.pairs.pairs) (raw_pairs_left c.next.new.self) (c.in-Some.name.now, c.in-Some.value.now) c.pairs.invariant.0 c.pairs.invariant.1 c.in-Some.ensures.steps c.in-Ok.ensures.read c.in_ok-push.ensures.items
