use Rattle.std.proofs.Common.{sym, ap, subst, ◌∙◌}
use Rattle.std.proofs.lemmas.Result.{err_from_is_err_and}
use Rattle.pg_dialogue.specs.Dialogue.{Talk}
use Rattle.pg_dialogue.specs.Links.{Writes}
use Rattle.pg_dialogue.proofs.Exits.{memory_writes}
use Rattle.pg_dialogue.proofs.Rows.{closing_at, closing_is, finishes}
use Rattle.pg_dialogue.proofs.dialogue.Dialogue.finish.Goals as goal

pub returns-in_err-commit-clause-wrote : goal.returns-in_err-commit-clause-wrote
returns-in_err-commit-clause-wrote g c t =
    let p = err_from_is_err_and c.from_residual.result c.from_residual.ensures.1 in
    rw p.1 (memory_writes p.0 _ _ p.2)

pub returns-clause-read : goal.returns-clause-read
returns-clause-read g c t =
    let all = closing_is c.as_slice.result.now (c.as_slice.ensures.value ∙ c.in_ok-commit.ensures) in
    let same = closing_at _ _ c.nothing-told.result c.self.inside.inbox.place c.args.self (g.P.Traffic.left c.args.link.now) all c.nothing-told.ensures c.self.view_is in
    finishes c.talk.result _ _ c.talk.new.told c.self.inside.inbox.place c.args.self c.talk.new.self.place (g.P.Traffic.given c.args.link.now) (g.P.Traffic.left c.args.link.now) (g.P.Traffic.given c.talk.new.link) (g.P.Traffic.left c.talk.new.link) (ap (λ (x : Talk). x.heard) same) c.self.view_is (c.talk.ensures.read t) (c.talk.ensures.took t)

pub returns-clause-wrote : goal.returns-clause-wrote
returns-clause-wrote g c t =
    let all = closing_is c.as_slice.result.now (c.as_slice.ensures.value ∙ c.in_ok-commit.ensures) in
    let same = closing_at _ _ c.nothing-told.result c.self.inside.inbox.place c.args.self (g.P.Traffic.left c.args.link.now) all c.nothing-told.ensures c.self.view_is in
    subst (λ (x : Talk). Writes c.talk.result (g.P.Traffic.written c.args.link.now) (g.P.Traffic.written c.talk.new.link) x.written) (sym same) (c.talk.ensures.wrote t)
