use Rattle.std.proofs.Common.{◌≡◌, ◌+◌, ◌-◌, ◌≤◌, ◌++◌, true}
use Rattle.std.specs.Vec.{vec_len}
use Rattle.pg_dialogue.specs.Links.{Takes, since}
use Rattle.pg_dialogue.proofs.inbox.Inbox.fill.Given as goal

abbrev pub invariant-pieces : goal.invariant-pieces
invariant-pieces g l =
    let left = g.P.Traffic.left in
    let given = g.P.Traffic.given in
    let tells = g.P.Traffic.tells in
    record {
      took : tells ≡ true → Takes (given l.fn.link) (left l.fn.link) l.fn.self.place (given l.link) (left l.link) l.self.place;
      filled : tells ≡ true → l.self.payload.items ≡ l.fn.self.payload.items ++ since (given l.fn.link) (given l.link);
      within : vec_len l.self.payload ≤ l.want;
      counted : l.self.place + vec_len l.fn.self.payload ≡ l.fn.self.place + vec_len l.self.payload;
      later : g.P.Traffic.failed_reads l.fn.link ≤ g.P.Traffic.failed_reads l.link;
      written : g.P.Traffic.written l.link ≡ g.P.Traffic.written l.fn.link;
      writes : g.P.Traffic.failed_writes l.link ≡ g.P.Traffic.failed_writes l.fn.link;
    }

abbrev pub decreases-pieces : goal.decreases-pieces
decreases-pieces g l = l.want - vec_len l.self.payload
