use Rattle.std.proofs.Common.{◌≡◌, ◌-◌, ◌≤◌, true}
use Rattle.pg_dialogue.specs.Dialogue.{met}
use Rattle.pg_dialogue.specs.Links.{Takes, to_come}
use Rattle.pg_dialogue.proofs.inbox.Inbox.meet.Given as goal

abbrev pub invariant-messages : goal.invariant-messages
invariant-messages g l =
    let left = g.P.Traffic.left in
    let given = g.P.Traffic.given in
    let tells = g.P.Traffic.tells in
    record {
      took : tells ≡ true → Takes (given l.fn.link) (left l.fn.link) l.fn.self.place (given l.link) (left l.link) l.self.place;
      same : tells ≡ true → met (to_come l.fn.self.place (left l.fn.link)) l.wanted l.fn.told ≡ met (to_come l.self.place (left l.link)) l.wanted l.fn.told;
      told : l.told ≡ l.fn.told;
      size : l.fn.self.place ≤ l.self.place;
      later : g.P.Traffic.failed_reads l.fn.link ≤ g.P.Traffic.failed_reads l.link;
      written : g.P.Traffic.written l.link ≡ g.P.Traffic.written l.fn.link;
      writes : g.P.Traffic.failed_writes l.link ≡ g.P.Traffic.failed_writes l.fn.link;
    }

abbrev pub decreases-messages : goal.decreases-messages
decreases-messages g l = 68719476736 - l.self.place
