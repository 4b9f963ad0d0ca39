use Rattle.std.proofs.Common.{rules, arith}
use Rattle.std.proofs.lemmas.Grind.{common_steps}
use Rattle.change_map.proofs.KeyLaws.{with_value}
use Rattle.change_map.proofs.key.push_value.Goals as goal

pub returns-clause-utf8 : goal.returns-clause-utf8
returns-clause-utf8 c = with_value c.args.out.now.items c.words_of-words.result.now c.push_quoted.new.out.items (first_of (search rules, grind (arith, common_steps))) c.words_of-words.ensures.utf8
