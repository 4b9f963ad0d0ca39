use Rattle.shape_json.proofs.Answers.{pages_are_asked, gone_names_ready}
use Rattle.shape_json.proofs.laws.answers_fit.Goals as goal

pub returns-clause-paged : goal.returns-clause-paged
returns-clause-paged c = pages_are_asked

pub returns-clause-gone : goal.returns-clause-gone
returns-clause-gone c = gone_names_ready
