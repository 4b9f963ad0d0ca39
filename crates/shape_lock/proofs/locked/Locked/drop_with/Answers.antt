use Rattle.std.proofs.Common.{◌∷◌, ◌++◌, [], List, sym, ◌∙◌, subst}
use Rattle.shape_json.specs.ShapeHistory.{ShapeEvent, Dropped}
use Rattle.shape_state.specs.Reading.{reader_of}
use Rattle.shape_state.specs.Standing.{Stands}
use Rattle.shape_lock.proofs.Holding.{drop_is, goes_as, after_is, came_dropped, snapshot_dropped}
use Rattle.shape_lock.proofs.locked.Locked.drop_with.Goals as goal

pub returns : goal.returns
returns g c = λ f es h none. let s = c.args.self.now.shape in let r = reader_of (g.T.RowTest.knows s.emitter.test) (g.T.RowTest.unread s.emitter.test) in
    goes_as g.T.RowTest.knows g.T.RowTest.unread s.emitter.test s.state c.args.self.now.marks f es h c.drop_with.new.self.emitter.test c.drop_with.new.self.state (es ++ Dropped c.args.cause ∷ [])
    c.drop_with.ensures.test c.drop_with.ensures.limits
    (subst (λ (l : List ShapeEvent). Stands r c.drop_with.new.self.state l) (after_is r s.state.limits es (Dropped c.args.cause) (sym (drop_is g.T.RowTest.knows g.T.RowTest.unread s.emitter.test s.state c.args.self.now.marks f es h) ∙ none))
    (c.drop_with.ensures.stands r es h.stands))
    (came_dropped es c.args.cause) (snapshot_dropped es c.args.cause)
