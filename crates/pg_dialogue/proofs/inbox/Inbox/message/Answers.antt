use Rattle.std.proofs.Common.{◌≡◌, ◌++◌, ℕ, List, length, ap, ◌∙◌, arith}
use Rattle.std.proofs.lemmas.Result.{err_from_is_err_and}
use Rattle.pg_dialogue.specs.Links.{since}
use Rattle.pg_dialogue.proofs.Messaging.{message_ok, message_behind, message_few, message_small, message_cut}
use Rattle.pg_dialogue.proofs.inbox.Inbox.message.Goals as goal

pub returns-in_err-fill-clause-err : goal.returns-in_err-fill-clause-err
returns-in_err-fill-clause-err g c t =
    let p = err_from_is_err_and c.from_residual.result c.from_residual.ensures.1 in
    rw (p.1, p.2) (message_few c.in_err-fill.field-0.0 _ (c.in_err-fill.ensures.took t) (omega arith) c.clear.ensures.len (c.in_err-fill.ensures.short t))

pub returns-then-len-lt4-clause-err : goal.returns-then-len-lt4-clause-err
returns-then-len-lt4-clause-err g c t =
    let head : c.as_slice.result.now ≡ since (g.P.Traffic.given c.args.link.now) (g.P.Traffic.given c.fill.new.link)
    = c.as_slice.ensures.value ∙ c.in_ok-fill.ensures.filled t ∙ ap (λ (xs : List ℕ). xs ++ since (g.P.Traffic.given c.args.link.now) (g.P.Traffic.given c.fill.new.link)) c.clear.ensures.items in
    message_small c.as_slice.result.now c.head_of-kind.result.1 (c.in_ok-fill.ensures.took t) (omega arith) head (omega (arith, c.as_slice.ensures.len, c.in_ok-fill.ensures.full)) c.head_of-kind.ensures.len c.if-len-lt4.true

pub returns-in_err-fill-2-clause-err : goal.returns-in_err-fill-2-clause-err
returns-in_err-fill-2-clause-err g c t =
    let p = err_from_is_err_and c.from_residual-in_err-fill-2.result c.from_residual-in_err-fill-2.ensures.1 in
    let head : c.as_slice.result.now ≡ since (g.P.Traffic.given c.args.link.now) (g.P.Traffic.given c.fill.new.link)
    = c.as_slice.ensures.value ∙ c.in_ok-fill.ensures.filled t ∙ ap (λ (xs : List ℕ). xs ++ since (g.P.Traffic.given c.args.link.now) (g.P.Traffic.given c.fill.new.link)) c.clear.ensures.items in
    rw (p.1, p.2) (message_cut c.in_err-fill-2.field-0.0 c.as_slice.result.now c.head_of-kind.result.1 _ _ (c.in_ok-fill.ensures.took t) (c.in_err-fill-2.ensures.took t) (omega arith) head (omega (arith, c.as_slice.ensures.len, c.in_ok-fill.ensures.full))
    c.head_of-kind.ensures.len c.if-len-lt4.false c.clear-2.ensures.len (omega arith) (c.in_err-fill-2.ensures.short t))

pub returns-clause-ok : goal.returns-clause-ok
returns-clause-ok g c t =
    let g0 = g.P.Traffic.given c.args.link.now in
    let g1 = g.P.Traffic.given c.fill.new.link in
    let g2 = g.P.Traffic.given c.fill-2.new.link in
    let head : c.as_slice.result.now ≡ since g0 g1 = c.as_slice.ensures.value ∙ c.in_ok-fill.ensures.filled t ∙ ap (λ (xs : List ℕ). xs ++ since g0 g1) c.clear.ensures.items in
    let payload : c.fill-2.new.self.payload.items ≡ since g1 g2 = c.in_ok-fill-2.ensures.filled t ∙ ap (λ (xs : List ℕ). xs ++ since g1 g2) c.clear-2.ensures.items in
    message_ok c.as_slice.result.now c.fill-2.new.self.payload.items c.head_of-kind.result.0 c.head_of-kind.result.1 (c.in_ok-fill.ensures.took t) (c.in_ok-fill-2.ensures.took t) (omega arith) head payload
    (omega (arith, c.as_slice.ensures.len, c.in_ok-fill.ensures.full)) c.head_of-kind.ensures.kind c.head_of-kind.ensures.len c.if-len-lt4.false
    (omega (arith, ap length payload, c.clear-2.ensures.len, (c.in_ok-fill-2.ensures.took t).size, c.in_ok-fill-2.ensures.counted, c.in_ok-fill-2.ensures.full))

pub returns-clause-behind : goal.returns-clause-behind
returns-clause-behind g c t =
    let g0 = g.P.Traffic.given c.args.link.now in
    let g1 = g.P.Traffic.given c.fill.new.link in
    let g2 = g.P.Traffic.given c.fill-2.new.link in
    let head : c.as_slice.result.now ≡ since g0 g1 = c.as_slice.ensures.value ∙ c.in_ok-fill.ensures.filled t ∙ ap (λ (xs : List ℕ). xs ++ since g0 g1) c.clear.ensures.items in
    let payload : c.fill-2.new.self.payload.items ≡ since g1 g2 = c.in_ok-fill-2.ensures.filled t ∙ ap (λ (xs : List ℕ). xs ++ since g1 g2) c.clear-2.ensures.items in
    message_behind c.as_slice.result.now c.fill-2.new.self.payload.items (c.in_ok-fill.ensures.took t) (c.in_ok-fill-2.ensures.took t) head payload (omega (arith, c.as_slice.ensures.len, c.in_ok-fill.ensures.full))
