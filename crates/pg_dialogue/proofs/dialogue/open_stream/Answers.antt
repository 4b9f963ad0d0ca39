use Rattle.std.proofs.Common.{sym, ap, subst, ◌∙◌}
use Rattle.std.proofs.lemmas.Result.{err_from_is_err_and}
use Rattle.pg_dialogue.specs.Dialogue.{Talk}
use Rattle.pg_dialogue.specs.Links.{Writes}
use Rattle.pg_dialogue.proofs.Exits.{memory_writes}
use Rattle.pg_dialogue.proofs.Rows.{same_talk, streaming_is, finishes}
use Rattle.pg_dialogue.proofs.dialogue.open_stream.Goals as goal

pub returns-in_err-pieces-clause-wrote : goal.returns-in_err-pieces-clause-wrote
returns-in_err-pieces-clause-wrote g c t =
    let p = err_from_is_err_and c.from_residual.result c.from_residual.ensures.1 in
    rw p.1 (memory_writes p.0 _ _ p.2)

pub returns-clause-read : goal.returns-clause-read
returns-clause-read g c t =
    let all = streaming_is c.args.login.now c.as_slice.result.now c.as_slice-2.result.now (c.as_slice.ensures.value ∙ c.in_ok-pieces.ensures.startup) (c.as_slice-2.ensures.value ∙ c.in_ok-pieces.ensures.query) in
    let same = same_talk _ _ c.nothing-told.result c.new-inbox.result.place (g.P.Traffic.left c.args.link.now) all c.nothing-told.ensures c.new-inbox.ensures in
    finishes c.talk.result _ _ c.talk.new.told c.new-inbox.result.place 0 c.talk.new.self.place (g.P.Traffic.given c.args.link.now) (g.P.Traffic.left c.args.link.now) (g.P.Traffic.given c.talk.new.link) (g.P.Traffic.left c.talk.new.link) (ap (λ (x : Talk). x.heard) same) c.new-inbox.ensures (c.talk.ensures.read t) (c.talk.ensures.took t)

pub returns-clause-wrote : goal.returns-clause-wrote
returns-clause-wrote g c t =
    let all = streaming_is c.args.login.now c.as_slice.result.now c.as_slice-2.result.now (c.as_slice.ensures.value ∙ c.in_ok-pieces.ensures.startup) (c.as_slice-2.ensures.value ∙ c.in_ok-pieces.ensures.query) in
    let same = same_talk _ _ c.nothing-told.result c.new-inbox.result.place (g.P.Traffic.left c.args.link.now) all c.nothing-told.ensures c.new-inbox.ensures in
    subst (λ (x : Talk). Writes c.talk.result (g.P.Traffic.written c.args.link.now) (g.P.Traffic.written c.talk.new.link) x.written) (sym same) (c.talk.ensures.wrote t)
