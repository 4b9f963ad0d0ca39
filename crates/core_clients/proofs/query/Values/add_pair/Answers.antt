use Rattle.form_urlencoded.specs.Form.{decode}
use Rattle.core_clients.proofs.QueryLaws.{no_name, no_value}
use Rattle.core_clients.proofs.query.Values.add_pair.Goals as goal

pub returns-in-Err-clause-refused : goal.returns-in-Err-clause-refused
returns-in-Err-clause-refused c = no_name (decode c.args.name.now) (decode c.args.value.now) c.args.self.now c.in-Err.error c.in-Err.ensures.refused

pub returns-in-Err-text_of-clause-refused : goal.returns-in-Err-text_of-clause-refused
returns-in-Err-text_of-clause-refused c = no_value (decode c.args.name.now) (decode c.args.value.now) c.args.self.now c.in-Err-text_of.error c.in-Err-text_of.ensures.refused
