use Rattle.std.proofs.Common.{◌∷◌, ◌++◌, [], List, sym, subst, refl}
use Rattle.shape_json.specs.ShapeHistory.{ShapeEvent, Snapped}
use Rattle.shape_state.specs.Reading.{reader_of}
use Rattle.shape_state.specs.Standing.{Stands}
use Rattle.shape_lock.specs.Passes.{snapshot_of}
use Rattle.shape_lock.proofs.Holding.{on_both, after_is}
use Rattle.shape_lock.proofs.locked.Locked.ready.Goals as goal

pub returns-clause-stands : goal.returns-clause-stands
returns-clause-stands g c = λ f es rows h taken. let s = c.args.self.now.shape in let r = reader_of (g.T.RowTest.knows s.emitter.test) (g.T.RowTest.unread s.emitter.test) in
    let shot = snapshot_of (g.T.RowTest.knows c.args.snap.emitter.test) c.args.snap.vis rows in
    on_both c.ready.result _ _ _
    (λ st none. subst (λ t. Stands (reader_of (g.T.RowTest.knows t) (g.T.RowTest.unread t)) c.ready.new.self.state (es ++ Snapped shot ∷ [])) (sym c.ready.ensures.test)
    (subst (λ (l : List ShapeEvent). Stands r c.ready.new.self.state l) (after_is r s.state.limits es (Snapped shot) none) st))
    (c.ready.ensures.stands es shot h.stands refl taken) (c.ready.ensures.went r es h.stands)
