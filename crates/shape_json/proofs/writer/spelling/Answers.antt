use Rattle.std.proofs.Common.{rules}
use Rattle.json.specs.Print.{escape_byte}
use Rattle.shape_json.proofs.writer.spelling.Goals as goal

pub returns-then-letter-gt0-clause-spelled : goal.returns-then-letter-gt0-clause-spelled
unfolding escape_byte
returns-then-letter-gt0-clause-spelled c = search rules

pub returns-then-byte-lt32-clause-spelled : goal.returns-then-byte-lt32-clause-spelled
unfolding escape_byte
returns-then-byte-lt32-clause-spelled c = search rules

pub returns-clause-spelled : goal.returns-clause-spelled
unfolding escape_byte
returns-clause-spelled c = search rules

pub returns-then-letter-gt0-clause-count : goal.returns-then-letter-gt0-clause-count
unfolding escape_byte
returns-then-letter-gt0-clause-count c = search rules

pub returns-then-byte-lt32-clause-count : goal.returns-then-byte-lt32-clause-count
unfolding escape_byte
returns-then-byte-lt32-clause-count c = search rules

pub returns-clause-count : goal.returns-clause-count
unfolding escape_byte
returns-clause-count c = search rules
