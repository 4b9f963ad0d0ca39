use Rattle.where_grammar.proofs.Printed.{round_trip}
use Rattle.where_grammar.proofs.laws.round_trip.Goals as goal

pub returns : goal.returns
returns c = round_trip
