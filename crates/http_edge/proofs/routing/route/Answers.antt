use Rattle.std.proofs.Common.{ap, ◌∙◌}
use Rattle.http_edge.specs.Parameters.{pairs_of}
use Rattle.http_edge.proofs.RouteLaws.{answers, form_answer}
use Rattle.http_edge.proofs.routing.route.Goals as goal

pub returns-in-Err-form_of : goal.returns-in-Err-form_of
returns-in-Err-form_of c = form_answer c.args.tables.now c.args.request.now c.in-Ok.query.now c.in-Err-form_of.error c.in-Ok.ensures.query c.in-Ok.ensures.good.0 c.in-Ok.ensures.good.1 c.in-Err-form_of.ensures.refused

pub returns : goal.returns
returns c = answers c.args.tables.now c.args.request.now c.in-Ok.query.now (pairs_of c.as_slice.result.now) c.asked.result c.in-Ok.ensures.query c.in-Ok.ensures.good.0 c.in-Ok.ensures.good.1 (ap pairs_of c.as_slice.ensures.value ∙ c.in-Ok-form_of.ensures.read.0) c.in-Ok-form_of.ensures.good c.asked.ensures
