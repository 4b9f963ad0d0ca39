use Rattle.std.proofs.Common.{◌∷◌, [], map, sym, ap, ◌∙◌}
use Rattle.std.proofs.lemmas.List.{map-append}
use Rattle.where_parser.specs.View.{tree_of}
use Rattle.where_parser.specs.Parts.{read_others, with_front}
use Rattle.where_parser.proofs.Ranks.{joined_fails, joined_more, joined_shorter, joined_stop}
use Rattle.where_parser.proofs.reading.+reading.Goals as goal

pub others-returns-in-Err : goal.others-returns-in-Err
others-returns-in-Err t c = joined_fails c.args.joint c.args.room (map tree_of c.loop-inside.members.items) c.loop-inside.rest.now c.in-Some.inside.now c.args.tokens.now c.in-Err.stop c.in-Some.ensures c.loop-inside.invariant c.in-Err.ensures

pub others-loop-inside-smaller : goal.others-loop-inside-smaller
others-loop-inside-smaller t c = joined_shorter c.args.joint c.args.room c.loop-inside.rest.now c.in-Some.inside.now (tree_of c.in-Ok.found.0) c.in-Ok.found.1.now c.in-Some.ensures c.in-Ok.ensures

pub others-loop-inside-preserved : goal.others-loop-inside-preserved
others-loop-inside-preserved t c =
    let front = map tree_of c.loop-inside.members.items in
    let rest = read_others c.args.joint c.args.room c.in-Ok.found.1.now in
    ap (λ xs. with_front (map tree_of xs) rest) c.in_ok-push.ensures.items
    ∙ ap (λ xs. with_front xs rest) (map-append tree_of c.loop-inside.members.items (c.in-Ok.found.0 ∷ []))
    ∙ joined_more c.args.joint c.args.room front c.loop-inside.rest.now c.in-Some.inside.now (tree_of c.in-Ok.found.0) c.in-Ok.found.1.now c.in-Some.ensures c.in-Ok.ensures
    ∙ c.loop-inside.invariant

pub others-returns : goal.others-returns
others-returns t c = sym c.loop-inside.invariant ∙ joined_stop c.args.joint c.args.room (map tree_of c.loop-inside.members.items) c.loop-inside.rest.now c.in_default.ensures
