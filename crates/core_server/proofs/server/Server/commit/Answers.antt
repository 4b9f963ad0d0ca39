use Rattle.std.proofs.Common.{◌∙◌, sym, subst}
use Rattle.std.proofs.lemmas.Result.{IfOk-weaker}
use Rattle.core_server.specs.Committing.{noted, AreApart}
use Rattle.core_server.proofs.Counting.{live_apart}
use Rattle.core_server.proofs.Committing.{after_stands, after_told, if_ok}
use Rattle.core_server.proofs.server.Server.commit.Goals as goal

pub reach_all-requires-clause-noted : goal.reach_all-requires-clause-noted
reach_all-requires-clause-noted c = let r = c.requires.situated in record {
  options = r.options;
  situation = noted r.situation c.args.tx.now;
  stands = (c.in_ok-numbers.ensures).noted r.options r.situation r.stands;
  later = λ n. (c.in_ok-numbers.ensures).later r.options r.situation r.stands n;
}

pub reach_all-requires-clause-apart : goal.reach_all-requires-clause-apart
reach_all-requires-clause-apart c = let r = c.requires.situated in
    subst AreApart (sym (c.as_slice.ensures ∙ (c.in_ok-numbers.ensures).numbers r.options r.situation r.stands)) (live_apart r.options.limits.shapes r.situation.registry r.stands.registry.legal)

pub returns-clause-stands : goal.returns-clause-stands
returns-clause-stands c = λ o v h. if_ok c.reach_all.result
    (c.reach_all.ensures.reached o (noted v c.args.tx.now) ((c.in_ok-numbers.ensures).noted o v h) (λ n. (c.in_ok-numbers.ensures).later o v h n))
    (λ answer r. after_stands o v c.args.self.now c.reach_all.new.self c.args.tx.now c.as_slice.result.now answer h (c.as_slice.ensures ∙ (c.in_ok-numbers.ensures).numbers o v h) r)

pub returns-clause-told : goal.returns-clause-told
returns-clause-told c = λ o v h. IfOk-weaker c.reach_all.result _ _
    (λ answer r. after_told o v c.args.self.now c.reach_all.new.self c.args.tx.now c.as_slice.result.now answer h (c.as_slice.ensures ∙ (c.in_ok-numbers.ensures).numbers o v h) r)
    (c.reach_all.ensures.reached o (noted v c.args.tx.now) ((c.in_ok-numbers.ensures).noted o v h) (λ n. (c.in_ok-numbers.ensures).later o v h n))
