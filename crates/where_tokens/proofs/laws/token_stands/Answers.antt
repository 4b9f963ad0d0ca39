use Rattle.where_tokens.proofs.Finds.{token_stands}
use Rattle.where_tokens.proofs.laws.token_stands.Goals as goal

pub returns : goal.returns
returns c = token_stands
