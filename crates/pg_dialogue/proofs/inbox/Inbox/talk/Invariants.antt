use Rattle.std.proofs.Common.{◌≡◌, ◌≤◌, true, drop, map}
use Rattle.pg_dialogue.specs.Dialogue.{talk}
use Rattle.pg_dialogue.specs.Exchanges.{exchange_of}
use Rattle.pg_dialogue.specs.Links.{Takes, to_come}
use Rattle.pg_dialogue.proofs.Talking.{Leads}
use Rattle.pg_dialogue.proofs.inbox.Inbox.talk.Given as goal

abbrev pub invariant-exchanges : goal.invariant-exchanges
invariant-exchanges g l =
    let left = g.P.Traffic.left in
    let given = g.P.Traffic.given in
    let tells = g.P.Traffic.tells in
    let written = g.P.Traffic.written in
    record {
      took : tells ≡ true → Takes (given l.fn.link) (left l.fn.link) l.fn.self.place (given l.link) (left l.link) l.self.place;
      leads : tells ≡ true → Leads (talk (map exchange_of l.fn.exchanges) l.fn.told l.fn.self.place (to_come l.fn.self.place (left l.fn.link)))
          (talk (drop l.exchange-index (map exchange_of l.exchanges)) l.told l.self.place (to_come l.self.place (left l.link))) (written l.fn.link) (written l.link);
      later : g.P.Traffic.failed_reads l.fn.link ≤ g.P.Traffic.failed_reads l.link;
      writes : g.P.Traffic.failed_writes l.fn.link ≤ g.P.Traffic.failed_writes l.link;
    }
