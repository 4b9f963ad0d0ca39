use Rattle.where_lexer.proofs.Writes.{joined_utf8}
use Rattle.where_lexer.proofs.writing.push_text.Goals as goal

pub returns-clause-utf8 : goal.returns-clause-utf8
returns-clause-utf8 c = λ u. joined_utf8 c.args.bytes.now.items c.as_bytes.result.now c.extend_from_slice.new.self.items c.in_ok-extend_from_slice.ensures.items c.as_bytes.ensures.utf8 u
