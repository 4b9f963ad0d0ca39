use Rattle.shape_json.proofs.PlainLogs.{log_is_plain, taken_is_plain}
use Rattle.shape_json.proofs.laws.log_is_plain.Goals as goal

pub returns-clause-defined : goal.returns-clause-defined
returns-clause-defined c = log_is_plain

pub returns-clause-taken : goal.returns-clause-taken
returns-clause-taken c = taken_is_plain
