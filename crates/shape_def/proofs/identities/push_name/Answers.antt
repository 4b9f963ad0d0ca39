use Rattle.std.proofs.Common.{rules, arith}
use Rattle.std.proofs.lemmas.Grind.{common_steps}
use Rattle.shape_def.proofs.Writing.{with_name}
use Rattle.shape_def.proofs.identities.push_name.Goals as goal

pub returns-clause-utf8 : goal.returns-clause-utf8
returns-clause-utf8 c = with_name c.args.out.now.items c.as_bytes-words.result.now c.push_quoted.new.out.items (first_of (search rules, grind (arith, common_steps))) c.as_bytes-words.ensures.utf8
