use Rattle.std.proofs.Common.{◌≡◌, ◌∙◌, List, ◌∷◌, ◌++◌, [], sym, subst, true, false, arith}
use Rattle.std.specs.Prelude.{is_some}
use Rattle.core_exchanges.specs.declared.exchange.Exchange.{Exchange}
use Rattle.core_exchanges.specs.Standing.{EachStands}
use Rattle.core_exchanges.proofs.Standings.{stands_push, same_length}
use Rattle.core_exchanges.proofs.Changes.{answered_finds, answered_is_closed, unanswered_is_open, both_ok, from_err}
use Rattle.core_exchanges.proofs.exchanges.Exchanges.push.Goals as goal

pub returns-then-is_some-clause-ok : goal.returns-then-is_some-clause-ok
returns-then-is_some-clause-ok c xs x h one =
    let closed : is_some c.args.exchange.given ≡ true = grind (arith, c.is_some.ensures, c.if-is_some.true) in
    let finds = answered_finds c.args.self.now.indexes xs x (record { unanswered = h.unanswered; awaiting = h.awaiting }) (answered_is_closed c.args.exchange x one closed) in (
      c.len-index.ensures ∙ c.args.self.now.items.ok.0 ∙ same_length c.args.self.now.items.items xs h.each,
      record {
        each = subst (λ (es : List Exchange). EachStands es (xs ++ x ∷ [])) (sym {A = List Exchange} c.in_ok-put.ensures.ok) (stands_push c.args.self.now.items.items xs c.args.exchange x h.each one);
        unanswered = finds.unanswered;
        awaiting = finds.awaiting;
      },
    )

pub returns-clause-ok : goal.returns-clause-ok
returns-clause-ok c = both_ok c.push_open.result _ _ _ (λ index is stands xs x h one.
    let whole = c.len-index.ensures ∙ c.args.self.now.items.ok.0 ∙ same_length c.args.self.now.items.items xs h.each in
    let free : is_some c.args.exchange.given ≡ false = grind (arith, c.is_some.ensures, c.if-is_some.false) in
    (is ∙ whole, stands xs x h whole one (unanswered_is_open c.args.exchange x one free))) c.push_open.ensures.index c.push_open.ensures.ok

pub returns-clause-err : goal.returns-clause-err
returns-clause-err c = from_err c.push_open.result _ _ (λ stands xs h. stands xs h (c.len-index.ensures ∙ c.args.self.now.items.ok.0 ∙ same_length c.args.self.now.items.items xs h.each)) c.push_open.ensures.err
