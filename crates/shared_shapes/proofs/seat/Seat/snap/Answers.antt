use Rattle.std.proofs.Common.{rules, subst, sym}
use Rattle.std.specs.Prelude.{IsSome}
use Rattle.shape_json.specs.ShapeHistory.{snapshot_in}
use Rattle.shared_shapes.proofs.Snapping.{snapped_seen}
use Rattle.shared_shapes.proofs.seat.Seat.snap.Goals as goal

pub returns-in-Ok-clause-note : goal.returns-in-Ok-clause-note
returns-in-Ok-clause-note g c = let k = c.finish.new.self.pass in let on = c.in-Ok.ensures.on in
    (search rules, subst (λ es. IsSome (snapshot_in es)) (sym c.note-note.ensures.note.1) (snapped_seen k.own k.seen _ _ on.mine))
