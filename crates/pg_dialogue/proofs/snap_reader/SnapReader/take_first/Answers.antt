use Rattle.std.proofs.Common.{refl, ap, ◌∙◌}
use Rattle.pg_dialogue.specs.Reached.{Reached}
use Rattle.pg_dialogue.proofs.Taking.{pauses, refused_length}
use Rattle.pg_dialogue.proofs.snap_reader.SnapReader.take_first.Goals as goal

pub returns-in-Ok-None-clause-ok : goal.returns-in-Ok-None-clause-ok
returns-in-Ok-None-clause-ok c =
    (pauses c.args.self.now c.args.wanted c.as_slice.result.now c.requires (c.as_slice.ensures ∙ ap (λ (r : Reached). r.rest) c.self.view_is) (rw c.in-Ok-None.field-0-is at c.in-Ok-None.ensures), refl)

pub returns-in-Err-clause-err : goal.returns-in-Err-clause-err
returns-in-Err-clause-err c =
    let e = c.in-Err.ensures in
    refused_length c.args.self.now c.args.wanted c.self.inside.place c.as_slice.result.now c.in-Err.error c.requires (ap (λ (r : Reached). r.place) c.self.view_is) (c.as_slice.ensures ∙ ap (λ (r : Reached). r.rest) c.self.view_is) e.0 e.1
