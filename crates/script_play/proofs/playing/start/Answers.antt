use Rattle.script_play.proofs.playing.start.Goals as goal

pub returns-clause-going : goal.returns-clause-going
returns-clause-going c words place first outs limits staged = (rw c.take-before.ensures.value at (rw c.deref.ensures.value at (c.in_ok-core.ensures.staged words place first outs limits))) staged
