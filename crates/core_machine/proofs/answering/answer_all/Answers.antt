use Rattle.std.proofs.Common.{◌≡◌, ◌+◌, ◌∷◌, ℕ, List, subst, drop}
use Rattle.std.specs.Prelude.{get_or}
use Rattle.std.proofs.lemmas.List.{drop_more}
use Rattle.std.proofs.Math.ListN.{drop_of_length-le}
use Rattle.core_machine.proofs.Answers.{GoneOn, begins, goes_on, ends}
use Rattle.core_machine.proofs.answering.answer_all.Goals as goal

pub loop-index-init : goal.loop-index-init
loop-index-init c = record { can = c.requires; gone = λ o s xs h. begins o s xs c.args.server.now c.args.refusal.now c.args.late c.args.places.now c.args.outs.now c.args.exchanges.now h }

pub answer_one-requires : goal.answer_one-requires
answer_one-requires c = c.loop-index.invariant.can

pub loop-index-preserved : goal.loop-index-preserved
loop-index-preserved c =
    let places = c.args.places.now in
    let i = c.loop-index.index-index in
    let first : drop i places ≡ get_or places i 0 ∷ drop (i + 1) places = drop_more places i 0 c.loop-index-test.true in
    let w = c.loop-index.invariant.can in
    record {
      can = record { options = w.options; situation = w.situation; asked = _; halfway = (c.in_ok-answer_one.ensures w.options w.situation w.asked w.halfway).halfway };
      gone = λ o s xs h. goes_on o s xs c.args.server.now c.args.refusal.now c.args.late places c.args.outs.now (get_or places i 0) (drop (i + 1) places) c.loop-index.exchanges c.answer_one.new.exchanges c.loop-index.outs c.answer_one.new.outs
          (subst (λ (ps : List ℕ). GoneOn o s xs c.args.server.now c.args.refusal.now c.args.late places ps c.loop-index.exchanges c.args.outs.now c.loop-index.outs) first (c.loop-index.invariant.gone o s xs h))
          (λ ys k. c.in_ok-answer_one.ensures o s ys k);
    }

pub returns : goal.returns
returns c o s xs h = ends o s xs c.args.server.now c.args.refusal.now c.args.late c.args.places.now c.args.outs.now c.loop-index.exchanges c.loop-index.outs
    (subst (λ (ps : List ℕ). GoneOn o s xs c.args.server.now c.args.refusal.now c.args.late c.args.places.now ps c.loop-index.exchanges c.args.outs.now c.loop-index.outs) (drop_of_length-le c.args.places.now c.loop-index-test.false) (c.loop-index.invariant.gone o s xs h))
