use Rattle.http_edge.proofs.ReadingLaws.{lines_begin, bad_answer}
use Rattle.http_edge.proofs.reading.read_reply.Goals as goal

pub refusal_of-requires : goal.refusal_of-requires
refusal_of-requires c = c.in_default.ensures.read

pub with_rest-requires : goal.with_rest-requires
with_rest-requires c = lines_begin c.args.input.now _ _ _ c.in-Some.ensures.whole c.in-Ok.ensures.read

pub returns-in-Err-Bad : goal.returns-in-Err-Bad
returns-in-Err-Bad c = bad_answer c.args.input.now _ _ c.in-Some.ensures.read c.in-Some.ensures.whole (c.in-Err-Bad.ensures.refused c.in-Err-Bad.field-0-is)
