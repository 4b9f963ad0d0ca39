use Rattle.std.proofs.Common.{inr, subst}
use Rattle.std.proofs.lemmas.Bool.Decides.{when_true}
use Rattle.httparse.specs.Grammar.{NeverHasRequest}
use Rattle.http_edge.specs.Head.{CanBegin, IsUnfinished}
use Rattle.http_edge.proofs.head.refusal_of_unfinished.Goals as goal

pub returns-then-input-gt-LONGEST : goal.returns-then-input-gt-LONGEST
returns-then-input-gt-LONGEST c =
    let bytes = c.args.bytes.now in
    let begins = when_true (CanBegin bytes) (NeverHasRequest bytes) c.if-not-can_begin.false c.can_begin.ensures in
    let unfinished : IsUnfinished bytes = record { none = c.requires.none; can_begin = begins } in
    inr (c.if-input-gt-LONGEST.true, subst IsUnfinished c.requires.looked_at unfinished)
