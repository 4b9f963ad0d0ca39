use Rattle.std.proofs.Common.{◌≡◌, ◌++◌, sym, ap, subst, refl, ◌∙◌}
use Rattle.std.proofs.lemmas.Result.{err_from_is_err_and}
use Rattle.pg_dialogue.specs.Dialogue.{Talk}
use Rattle.pg_dialogue.specs.Links.{is_outside, WritesBy}
use Rattle.pg_dialogue.proofs.Exits.{memory_writes}
use Rattle.pg_dialogue.proofs.Hearing.{ends_as}
use Rattle.pg_dialogue.proofs.Rows.{same_talk, opening_is}
use Rattle.pg_dialogue.proofs.dialogue.Dialogue.begin.Goals as goal

pub returns-in_err-pieces-clause-wrote : goal.returns-in_err-pieces-clause-wrote
returns-in_err-pieces-clause-wrote g c t =
    let p = err_from_is_err_and c.from_residual.result c.from_residual.ensures.1 in
    rw p.1 (memory_writes p.0 _ _ p.2)

pub returns-in_err-talk-clause-read : goal.returns-in_err-talk-clause-read
returns-in_err-talk-clause-read g c t =
    let p = err_from_is_err_and c.from_residual-in_err-talk.result c.from_residual-in_err-talk.ensures.1 in
    let all = opening_is c.args.login.now c.args.table.now c.as_slice.result.now c.as_slice-2.result.now c.as_slice-3.result.now c.as_slice-4.result.now
    (c.as_slice.ensures.value ∙ c.in_ok-pieces.ensures.startup) (c.as_slice-2.ensures.value ∙ c.in_ok-pieces.ensures.begin) (c.as_slice-3.ensures.value ∙ c.in_ok-pieces.ensures.snapshot) (c.as_slice-4.ensures.value ∙ c.in_ok-pieces.ensures.select) in
    rw (p.1, p.2) (ends_as c.in_err-talk.field-0.0 _ _ (ap (λ (x : Talk). x.heard) (same_talk _ _ c.nothing-told.result c.new-inbox.result.place (g.P.Traffic.left c.args.link.now) all c.nothing-told.ensures c.new-inbox.ensures)) (c.in_err-talk.ensures.read t))

pub returns-in_err-talk-clause-wrote : goal.returns-in_err-talk-clause-wrote
returns-in_err-talk-clause-wrote g c t =
    let p = err_from_is_err_and c.from_residual-in_err-talk.result c.from_residual-in_err-talk.ensures.1 in
    let all = opening_is c.args.login.now c.args.table.now c.as_slice.result.now c.as_slice-2.result.now c.as_slice-3.result.now c.as_slice-4.result.now
    (c.as_slice.ensures.value ∙ c.in_ok-pieces.ensures.startup) (c.as_slice-2.ensures.value ∙ c.in_ok-pieces.ensures.begin) (c.as_slice-3.ensures.value ∙ c.in_ok-pieces.ensures.snapshot) (c.as_slice-4.ensures.value ∙ c.in_ok-pieces.ensures.select) in
    rw (p.1, p.2) (subst (λ (x : Talk). WritesBy (is_outside c.in_err-talk.field-0.0) (g.P.Traffic.written c.args.link.now) (g.P.Traffic.written c.talk.new.link) x.written) (sym (same_talk _ _ c.nothing-told.result c.new-inbox.result.place (g.P.Traffic.left c.args.link.now) all c.nothing-told.ensures c.new-inbox.ensures)) (c.in_err-talk.ensures.wrote t))

pub returns-clause-read : goal.returns-clause-read
returns-clause-read g c t =
    let all = opening_is c.args.login.now c.args.table.now c.as_slice.result.now c.as_slice-2.result.now c.as_slice-3.result.now c.as_slice-4.result.now
    (c.as_slice.ensures.value ∙ c.in_ok-pieces.ensures.startup) (c.as_slice-2.ensures.value ∙ c.in_ok-pieces.ensures.begin) (c.as_slice-3.ensures.value ∙ c.in_ok-pieces.ensures.snapshot) (c.as_slice-4.ensures.value ∙ c.in_ok-pieces.ensures.select) in
    (c.talk.new.told, refl, ap (λ (x : Talk). x.heard) (same_talk _ _ c.nothing-told.result c.new-inbox.result.place (g.P.Traffic.left c.args.link.now) all c.nothing-told.ensures c.new-inbox.ensures) ∙ c.in_ok-talk.ensures.read t)

pub returns-clause-wrote : goal.returns-clause-wrote
returns-clause-wrote g c t =
    let all = opening_is c.args.login.now c.args.table.now c.as_slice.result.now c.as_slice-2.result.now c.as_slice-3.result.now c.as_slice-4.result.now
    (c.as_slice.ensures.value ∙ c.in_ok-pieces.ensures.startup) (c.as_slice-2.ensures.value ∙ c.in_ok-pieces.ensures.begin) (c.as_slice-3.ensures.value ∙ c.in_ok-pieces.ensures.snapshot) (c.as_slice-4.ensures.value ∙ c.in_ok-pieces.ensures.select) in
    subst (λ (x : Talk). g.P.Traffic.written c.talk.new.link ≡ g.P.Traffic.written c.args.link.now ++ x.written) (sym (same_talk _ _ c.nothing-told.result c.new-inbox.result.place (g.P.Traffic.left c.args.link.now) all c.nothing-told.ensures c.new-inbox.ensures)) (c.in_ok-talk.ensures.wrote t)
