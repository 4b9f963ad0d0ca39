use Rattle.std.proofs.Common.{◌≡◌, ◌-◌, ◌≤◌, true}
use Rattle.pg_dialogue.specs.Dialogues.{all_rows}
use Rattle.pg_dialogue.specs.Links.{Takes, to_come}
use Rattle.pg_dialogue.proofs.dialogue.Dialogue.pass_rows.Given as goal

abbrev pub invariant-rows : goal.invariant-rows
invariant-rows g l =
    let left = g.P.Traffic.left in
    let given = g.P.Traffic.given in
    let tells = g.P.Traffic.tells in
    record {
      took : tells ≡ true → Takes (given l.fn.link) (left l.fn.link) l.fn.self (given l.link) (left l.link) l.self;
      same : tells ≡ true → (all_rows (to_come l.fn.self (left l.fn.link))).end ≡ (all_rows (to_come l.self (left l.link))).end;
      later : g.P.Traffic.failed_reads l.fn.link ≤ g.P.Traffic.failed_reads l.link;
      written : g.P.Traffic.written l.link ≡ g.P.Traffic.written l.fn.link;
      writes : g.P.Traffic.failed_writes l.link ≡ g.P.Traffic.failed_writes l.fn.link;
    }

abbrev pub decreases-rows : goal.decreases-rows
decreases-rows g l = 68719476736 - l.self
