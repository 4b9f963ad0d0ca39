use Rattle.std.proofs.Common.{List, ◌∷◌, ◌++◌, [], sym, subst, ◌∙◌}
use Rattle.core_exchanges.specs.declared.exchange.Exchange.{Exchange}
use Rattle.core_exchanges.specs.Standing.{EachStands}
use Rattle.core_exchanges.proofs.Standings.{stands_push}
use Rattle.core_exchanges.proofs.Changes.{pushed_finds, undone_finds, spared_finds, same_awaited, at_error}
use Rattle.core_exchanges.proofs.exchanges.Exchanges.push_open.Goals as goal

pub returns-in_err-add-clause-err : goal.returns-in_err-add-clause-err
returns-in_err-add-clause-err c = at_error c.from_residual.result _ (λ xs h is.
    let finds = spared_finds c.args.self.now.indexes c.add.new.self xs c.args.index (record { unanswered = h.unanswered; awaiting = h.awaiting }) is c.in_err-add.ensures.err in
    record { each = h.each; unanswered = finds.unanswered; awaiting = finds.awaiting })

pub returns-in-Ok-clause-ok : goal.returns-in-Ok-clause-ok
returns-in-Ok-clause-ok c xs x h is one free =
    let finds = pushed_finds c.args.self.now.indexes c.add.new.self xs x c.args.index c.awaited-number.result (record { unanswered = h.unanswered; awaiting = h.awaiting }) is free
    (c.awaited-number.ensures ∙ same_awaited c.args.exchange x one) c.in_ok-add.ensures.added in
    record {
      each = subst (λ (es : List Exchange). EachStands es (xs ++ x ∷ [])) (sym {A = List Exchange} c.in-Ok.ensures.ok) (stands_push c.args.self.now.items.items xs c.args.exchange x h.each one);
      unanswered = finds.unanswered;
      awaiting = finds.awaiting;
    }

pub returns-in-Err-clause-err : goal.returns-in-Err-clause-err
returns-in-Err-clause-err c xs h is =
    let finds = undone_finds c.args.self.now.indexes c.add.new.self c.remove.new.self xs c.args.index c.awaited-number.result (record { unanswered = h.unanswered; awaiting = h.awaiting }) is c.in_ok-add.ensures.added c.remove.ensures in
    record {
      each = subst (λ (es : List Exchange). EachStands es xs) (sym {A = List Exchange} c.in-Err.ensures.err) h.each;
      unanswered = finds.unanswered;
      awaiting = finds.awaiting;
    }
