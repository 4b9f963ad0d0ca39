use Rattle.std.proofs.Common.{rules, ◌≡◌, ap, ◌∙◌}
use Rattle.front_lock.specs.Rule.{picked}
use Rattle.front_lock.specs.Passes.{mine}
use Rattle.shared_shapes.proofs.Joining.{own_joined}
use Rattle.shared_shapes.proofs.lent.Lent.join.Goals as goal

pub returns-clause-on : goal.returns-clause-on
returns-clause-on g c = let k = c.in-Some.first in let r = c.join.result in let first : k ≡ c.args.self.now = search rules in let second : c.in-Some-pass.second ≡ c.args.other = search rules in
    let own : r.own ≡ k.own = own_joined k.own c.in-Some-pass.second.own r.own c.join.ensures.own (ap (λ k. k.own) second ∙ c.requires.bare) in record {
      lock = search rules;
      seen = search rules;
      told_is = search rules;
      own = own ∙ ap (λ k. k.own) first;
      mine = ap (λ o. picked o r.seen) own ∙ c.join.ensures.mine.0 ∙ ap mine first;
    }
