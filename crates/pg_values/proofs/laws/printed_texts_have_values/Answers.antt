use Rattle.std.proofs.Common.{refl}
use Rattle.pg_values.proofs.Numbers.{printed_in}
use Rattle.pg_values.proofs.Uuids.{printed}
use Rattle.pg_values.proofs.laws.printed_texts_have_values.Goals as goal

pub returns : goal.returns
returns c = (printed_in, (refl, refl, refl, refl), printed)
