use Rattle.core_clients.proofs.QueryForms.{queries_have_forms}
use Rattle.core_clients.proofs.laws.queries_have_forms.Goals as goal

pub returns : goal.returns
returns c = queries_have_forms
