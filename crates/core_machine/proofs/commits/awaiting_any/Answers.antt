use Rattle.std.proofs.Common.{◌∙◌, ℕ, List, sym, ap, subst}
use Rattle.std.specs.Ordering.{nat_cmp}
use Rattle.std.specs.List.Sorted.{IsStrictlySortedBy}
use Rattle.std.proofs.lemmas.List.{take_all}
use Rattle.std.proofs.lemmas.Result.{IfOk-weaker}
use Rattle.core_exchanges.specs.Indexing.{is_among}
use Rattle.core_exchanges.specs.Standing.{passes_at}
use Rattle.core_machine.specs.Awaiting.{awaits_any}
use Rattle.core_machine.proofs.commits.awaiting_any.Goals as goal

pub returns : goal.returns
returns c = IfOk-weaker c.listed.result _ _
    (λ places same xs h. record {
      rising = subst (λ (ps : List ℕ). IsStrictlySortedBy nat_cmp ps) (sym same) c.listed.ensures.rising;
      exact = λ p. ap (is_among p) same ∙ c.loop-number.invariant xs h p ∙ ap (λ (ns : List ℕ). passes_at (awaits_any ns) xs p) (take_all c.loop-number.number-index c.args.numbers.now c.loop-number-test.false);
    })
    c.listed.ensures.same
