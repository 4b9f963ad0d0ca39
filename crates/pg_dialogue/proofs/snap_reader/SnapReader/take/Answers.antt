use Rattle.std.proofs.Common.{ap, ◌∙◌}
use Rattle.pg_dialogue.specs.Reached.{Reached}
use Rattle.pg_dialogue.proofs.Taking.{steps_passed, steps_news, refused_message}
use Rattle.pg_dialogue.proofs.snap_reader.SnapReader.take.Goals as goal

pub returns-in-Ok-None-clause-ok : goal.returns-in-Ok-None-clause-ok
returns-in-Ok-None-clause-ok c =
    steps_passed c.args.self.now c.pass.new.self c.args.wanted c.args.kind c.args.size c.self.inside.place c.as_slice.result.now c.requires.awaited c.requires.whole (ap (λ (r : Reached). r.place) c.self.view_is)
    (c.as_slice.ensures ∙ ap (λ (r : Reached). r.rest) c.self.view_is) (rw c.in-Ok-None.field-0-is at c.in-Ok-None.ensures) c.pass.ensures

pub returns-in-Ok-Some-clause-ok : goal.returns-in-Ok-Some-clause-ok
returns-in-Ok-Some-clause-ok c =
    steps_news c.args.self.now c.pass-in-Ok-Some.new.self c.turn.new.self c.args.wanted c.args.kind c.args.size c.self.inside.place c.as_slice.result.now c.in-Ok-Some.news c.turn.result c.requires.awaited c.requires.whole
    (ap (λ (r : Reached). r.place) c.self.view_is) (c.as_slice.ensures ∙ ap (λ (r : Reached). r.rest) c.self.view_is) (rw c.in-Ok-Some.field-0-is at c.in-Ok-Some.ensures) c.pass-in-Ok-Some.ensures c.turn.ensures.turned c.turn.ensures.moved

pub returns-in-Err-clause-err : goal.returns-in-Err-clause-err
returns-in-Err-clause-err c =
    refused_message c.args.self.now c.args.wanted c.args.kind c.args.size c.self.inside.place c.as_slice.result.now c.in-Err.error c.requires.awaited c.requires.whole (ap (λ (r : Reached). r.place) c.self.view_is)
    (c.as_slice.ensures ∙ ap (λ (r : Reached). r.rest) c.self.view_is) c.in-Err.ensures
