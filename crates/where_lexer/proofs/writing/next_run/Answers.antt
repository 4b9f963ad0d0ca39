use Rattle.where_lexer.proofs.Writes.{doubled_end, last_utf8, front_cut}
use Rattle.where_lexer.proofs.writing.next_run.Goals as goal

pub returns-in-None : goal.returns-in-None
returns-in-None c = (doubled_end c.args.quote c.args.rest.now c.until.result.0.now c.until.result.1.now c.until.ensures.front c.until.ensures.rest c.in-None.ensures, last_utf8 c.args.quote c.args.rest.now c.until.result.0.now c.until.result.1.now c.requires.utf8 c.until.ensures.front c.until.ensures.rest c.in-None.ensures)

pub returns-in-Some : goal.returns-in-Some
returns-in-Some c = front_cut c.args.quote c.args.rest.now c.until.result.0.now c.until.result.1.now _ c.in-Some.tail.now c.requires.ascii c.requires.utf8 c.until.ensures.front c.until.ensures.rest c.in-Some.ensures
