use Rattle.std.proofs.Common.{◌≡◌, ◌∷◌, [], ◌++◌, List, sym, ap, subst, ◌∙◌, arith, None}
use Rattle.std.specs.List.{AllByRecursion}
use Rattle.shape_base.specs.declared.change.Tx.{Tx}
use Rattle.shape_base.specs.Transactions.{IsWhole, LsnsRise}
use Rattle.shape_json.specs.Body.{capped}
use Rattle.shape_json.specs.ShapeHistory.{pending_bytes}
use Rattle.shape_state.specs.Buffered.{Buffered}
use Rattle.shape_state.specs.Later.{last_of}
use Rattle.shape_state.proofs.Ends.{rise_behind}
use Rattle.shape_state.proofs.Buffering.{pending_more, whole_more}
use Rattle.shape_state.proofs.commits.Commits.push.Goals as goal

pub invariant_of-self : goal.invariant_of-self
invariant_of-self c =
    let items : c.push.new.self.items ≡ c.self.inside.txs.items ++ c.args.tx ∷ [] = rw c.unwrap.ensures at c.push.ensures.items in
    let same = ap (λ (b : Buffered). last_of b.txs) c.self.view_is in
    record {
      counted = pending_more c.self.inside.txs.items c.args.tx c.self.inside.bytes c.saturating_add-self-inside.result c.self.invariant.counted c.saturating_add-self-inside.ensures ∙ ap (λ (txs : List Tx). capped (pending_bytes txs)) (sym items);
      whole = subst (AllByRecursion IsWhole) (sym items) (whole_more c.self.inside.txs.items c.args.tx c.self.invariant.whole c.requires.whole);
      rise = subst (LsnsRise 0) (sym items) (rise_behind c.self.inside.txs.items None c.args.tx c.self.invariant.rise (omega (arith, c.requires.later, same)));
    }
