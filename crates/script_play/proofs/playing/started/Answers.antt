use Rattle.std.proofs.Common.{◌≡◌, subst, sym}
use Rattle.script_play.specs.Settings.{AreLimits}
use Rattle.script_play.proofs.Turns.{started_none}
use Rattle.script_play.proofs.playing.started.Goals as goal

pub returns-in_ok-new-in-None-clause-staged : goal.returns-in_ok-new-in-None-clause-staged
returns-in_ok-new-in-None-clause-staged c words place first outs limits staged =
    let made = c.in_ok-options_of-in-None.ensures in
    started_none words _ _ _ place first outs _ c.in-None.is (record { run = made.run; limits = subst (AreLimits words) (sym made.limits) limits; served = made.tables; catalog = made.catalog }) c.in_ok-new-in-None.ensures staged
