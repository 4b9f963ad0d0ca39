use Rattle.std.proofs.Common.{ap, ◌∙◌, Some, None}
use Rattle.std.specs.Prelude.{if◌then◌else◌}
use Rattle.shape_base.specs.RegistryHistory.{taken_before}
use Rattle.shared_shapes.specs.Events.{events_of}
use Rattle.shared_shapes.specs.Board.{start_of}
use Rattle.shared_shapes.proofs.board.Board.before.Goals as goal

pub unreachable-requires : goal.unreachable-requires
unreachable-requires g c = let es = events_of c.args.held.now.seen in let n = c.args.number in
    let e = c.in_default.ensures.by_history (start_of c.args.self.now.about) es c.requires.stands.stands ∙ ap (λ b. if b then Some (taken_before es n) else None) c.requires.live in cc

pub returns : goal.returns
returns g c = let es = events_of c.args.held.now.seen in let n = c.args.number in
    let e = c.in-Some.ensures.by_history (start_of c.args.self.now.about) es c.requires.stands.stands ∙ ap (λ b. if b then Some (taken_before es n) else None) c.requires.live in cc
