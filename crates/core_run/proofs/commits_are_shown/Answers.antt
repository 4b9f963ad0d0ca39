use Rattle.core_run.proofs.Commits.{commits_are_shown}
use Rattle.core_run.proofs.commits_are_shown.Goals as goal

pub returns : goal.returns
returns c = commits_are_shown c.fed_is_shown.ensures c.shown_rise.ensures
