use Rattle.std.proofs.Common.{◌≡◌, ◌≤◌, true, drop}
use Rattle.pg_dialogue.specs.Dialogue.{answered}
use Rattle.pg_dialogue.specs.Links.{Takes, to_come}
use Rattle.pg_dialogue.proofs.inbox.Inbox.hear.Given as goal

abbrev pub invariant-wanted : goal.invariant-wanted
invariant-wanted g l =
    let left = g.P.Traffic.left in
    let given = g.P.Traffic.given in
    let tells = g.P.Traffic.tells in
    record {
      took : tells ≡ true → Takes (given l.fn.link) (left l.fn.link) l.fn.self.place (given l.link) (left l.link) l.self.place;
      same : tells ≡ true → answered l.fn.wanted l.fn.told l.fn.self.place (to_come l.fn.self.place (left l.fn.link)) ≡ answered (drop l.next-index l.wanted) l.told l.self.place (to_come l.self.place (left l.link));
      later : g.P.Traffic.failed_reads l.fn.link ≤ g.P.Traffic.failed_reads l.link;
      written : g.P.Traffic.written l.link ≡ g.P.Traffic.written l.fn.link;
      writes : g.P.Traffic.failed_writes l.link ≡ g.P.Traffic.failed_writes l.fn.link;
    }
