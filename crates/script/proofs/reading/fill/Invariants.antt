use Rattle.std.proofs.Common.{◌≡◌, ◌+◌, ◌-◌, ◌≤◌, ◌++◌, true}
use Rattle.std.specs.Vec.{vec_len}
use Rattle.script.specs.Reading.{Consumes, since}
use Rattle.script.proofs.reading.fill.Given as goal

abbrev pub invariant-loop-buffer : goal.invariant-loop-buffer
invariant-loop-buffer g l =
    let left = g.S.Traffic.left in
    let given = g.S.Traffic.given in
    let tells = g.S.Traffic.tells in
    record {
      took : tells ≡ true → Consumes (given l.fn.source) (left l.fn.source) l.fn.budget (given l.source) (left l.source) l.budget;
      filled : tells ≡ true → l.buffer.items ≡ l.fn.buffer.items ++ since (given l.fn.source) (given l.source);
      within : vec_len l.buffer ≤ l.want;
      taken : vec_len l.buffer + l.budget ≡ vec_len l.fn.buffer + l.fn.budget;
      later : g.S.Traffic.failed_reads l.fn.source ≤ g.S.Traffic.failed_reads l.source;
    }

abbrev pub decreases-loop-buffer : goal.decreases-loop-buffer
decreases-loop-buffer g l = l.want - vec_len l.buffer
