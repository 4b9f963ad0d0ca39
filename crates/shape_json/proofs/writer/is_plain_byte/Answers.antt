use Rattle.std.proofs.Common.{arith}
use Rattle.json.proofs.Printed.Strings.{escape_byte_plain}
use Rattle.shape_json.proofs.writer.is_plain_byte.Goals as goal

pub returns-in_default : goal.returns-in_default
returns-in_default c = λ _. escape_byte_plain c.args.byte (λ e. omega (arith, e)) (λ e. omega (arith, e)) (omega arith)
