use Rattle.std.proofs.Common.{◌≡◌, ◌≤◌, List, ℕ, true}
use Rattle.script.specs.Reading.{Consumes, since}
use Rattle.script_play.specs.Settings.{AreLimits}
use Rattle.script_play.specs.Playing.{IsSound}
use Rattle.script_play.proofs.Rounds.{Whole, IsRound}
use Rattle.script_play.proofs.replaying.play.Given as goal

-- the records so far were played, and what they put out was written
abbrev pub invariant-records : goal.invariant-records
invariant-records g l =
    let left = g.S.Traffic.left in
    let given = g.S.Traffic.given in
    let written = g.K.Traffic.written in
    record {
      sound : IsSound l.stage;
      within : l.budget ≤ l.limit;
      took : g.S.Traffic.tells ≡ true → Consumes (given l.fn.input) (left l.fn.input) l.limit (given l.input) (left l.input) l.budget;
      round : (words : List (List ℕ)) → AreLimits words l.limits → g.S.Traffic.tells ≡ true → IsRound words (since (given l.fn.input) (given l.input)) l.stage (Whole g.K.Traffic.tells (written l.fn.out) (written l.out));
      reads_later : g.S.Traffic.failed_reads l.fn.input ≤ g.S.Traffic.failed_reads l.input;
      writes_later : g.K.Traffic.failed_writes l.fn.out ≤ g.K.Traffic.failed_writes l.out;
    }

abbrev pub decreases-records : goal.decreases-records
decreases-records g l = l.budget
