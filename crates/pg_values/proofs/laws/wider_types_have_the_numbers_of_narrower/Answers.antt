use Rattle.std.proofs.Common.{arith}
use Rattle.std.proofs.lemmas.Bool.{and_parts, and_from}
use Rattle.std.specs.Str.Parse.{without_leading_sign}
use Rattle.pg_values.specs.Values.{is_numeral, is_within, number_value}
use Rattle.pg_values.proofs.Numbers.{within_wider}
use Rattle.pg_values.proofs.laws.wider_types_have_the_numbers_of_narrower.Goals as goal

pub returns : goal.returns
returns c = λ text. (
  λ h. let p = and_parts (is_numeral (without_leading_sign text)) (is_within 32768 (number_value text)) h in
      and_from (is_numeral (without_leading_sign text)) (is_within 2147483648 (number_value text)) p.0 (within_wider 32768 2147483648 (number_value text) (omega arith) p.1),
  λ h. let p = and_parts (is_numeral (without_leading_sign text)) (is_within 2147483648 (number_value text)) h in
      and_from (is_numeral (without_leading_sign text)) (is_within 9223372036854775808 (number_value text)) p.0 (within_wider 2147483648 9223372036854775808 (number_value text) (omega arith) p.1),
)
