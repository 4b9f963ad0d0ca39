use Rattle.core_clients.proofs.QueryLaws.{forms_tell}
use Rattle.core_clients.proofs.laws.forms_tell.Goals as goal

pub returns : goal.returns
returns c = forms_tell
