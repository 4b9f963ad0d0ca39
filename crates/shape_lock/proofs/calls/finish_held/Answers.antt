use Rattle.std.proofs.Common.{◌≡◌, ◌++◌, ◌∷◌, [], true, map, refl, ap, sym, ◌∙◌, subst, append-nil}
use Rattle.front_lock.specs.Passes.{mine}
use Rattle.front_lock.specs.Rule.{added}
use Rattle.shape_json.specs.ShapeHistory.{Snapped}
use Rattle.shape_state.specs.Answers.{IsReadyError}
use Rattle.shape_lock.specs.Stages.{cause_in}
use Rattle.shape_lock.specs.Locked.{IsLocked}
use Rattle.shape_lock.specs.Passes.{snapshot_of}
use Rattle.shape_lock.proofs.Holding.{drop_by_stage, drop_there, owes_is, sealed_on, goes_on}
use Rattle.shape_lock.proofs.calls.finish_held.Goals as goal

pub give-requires-clause-stands : goal.give-requires-clause-stands
give-requires-clause-stands g c = let f = c.args.held.fixed in let es = c.args.held.seen in let s1 = c.ready.new.self in
    let h = subst (λ m. IsLocked g.T.RowTest.knows g.T.RowTest.unread c.args.state.shape.emitter.test c.args.state.shape.state m f es) (sym c.ready.ensures.marks) c.requires.stands in
    let owes = owes_is g.T.RowTest.knows g.T.RowTest.unread c.args.state.shape.emitter.test c.args.state.shape.state s1.marks f es h c.args.seal.now c.requires.owes in
    let of : c.trace.result.of ≡ s1.marks.seal.value.of = ap (λ w. w.of) c.trace.ensures.trace ∙ (c.write.ensures.of ∙ owes.0) in
    let list : c.trace.result.list ≡ true ∷ [] = ap (λ w. w.list) c.trace.ensures.trace ∙ (c.write.ensures.list ∙ ((λ i. owes.1 i ++ c.of.ensures i ∷ []))) in
    let j = subst (λ s. IsLocked g.T.RowTest.knows g.T.RowTest.unread s.shape.emitter.test s.shape.state s.marks f (es ++ Snapped (snapshot_of (g.T.RowTest.knows c.args.snap.emitter.test) c.args.snap.vis (map (λ r. r.value) c.args.rows.now.items)) ∷ [])) (sym c.seal-was.ensures.is)
    (sealed_on g.T.RowTest.knows g.T.RowTest.unread c.args.state.shape.emitter.test c.args.state.shape.state s1.marks f es h s1.shape.emitter.test s1.shape.state (snapshot_of (g.T.RowTest.knows c.args.snap.emitter.test) c.args.snap.vis (map (λ r. r.value) c.args.rows.now.items)) c.trace.result c.ready.ensures.test c.ready.ensures.limits (c.in-Ok.ensures.stands f es _ c.requires.stands c.requires.taken) of list) in
    subst (λ o. IsLocked g.T.RowTest.knows g.T.RowTest.unread c.seal-was.new.self.shape.emitter.test c.seal-was.new.self.shape.state c.seal-was.new.self.marks f (es ++ added true o)) (sym c.requires.event) j

pub returns-in-Err-clause-refused : goal.returns-in-Err-clause-refused
returns-in-Err-clause-refused g c = subst (λ o. IsReadyError o c.in-Err.e) (sym (drop_there g.T.RowTest.knows g.T.RowTest.unread c.args.held.fixed c.give_back.result.fixed c.args.held.seen c.give_back.result.seen c.give_back.ensures.lock.0.1 c.give_back.ensures.seen))
    (c.in-Err.ensures.refused c.args.held.fixed c.args.held.seen c.requires.stands)

pub returns-in-Ok-clause-on : goal.returns-in-Ok-clause-on
returns-in-Ok-clause-on g c = let f = c.args.held.fixed in let es = c.args.held.seen in let s1 = c.ready.new.self in
    let h = subst (λ m. IsLocked g.T.RowTest.knows g.T.RowTest.unread c.args.state.shape.emitter.test c.args.state.shape.state m f es) (sym c.ready.ensures.marks) c.requires.stands in
    let owes = owes_is g.T.RowTest.knows g.T.RowTest.unread c.args.state.shape.emitter.test c.args.state.shape.state s1.marks f es h c.args.seal.now c.requires.owes in
    let of : c.trace.result.of ≡ s1.marks.seal.value.of = ap (λ w. w.of) c.trace.ensures.trace ∙ (c.write.ensures.of ∙ owes.0) in
    let list : c.trace.result.list ≡ true ∷ [] = ap (λ w. w.list) c.trace.ensures.trace ∙ (c.write.ensures.list ∙ ((λ i. owes.1 i ++ c.of.ensures i ∷ []))) in
    let j = subst (λ s. IsLocked g.T.RowTest.knows g.T.RowTest.unread s.shape.emitter.test s.shape.state s.marks f (es ++ Snapped (snapshot_of (g.T.RowTest.knows c.args.snap.emitter.test) c.args.snap.vis (map (λ r. r.value) c.args.rows.now.items)) ∷ [])) (sym c.seal-was.ensures.is)
    (sealed_on g.T.RowTest.knows g.T.RowTest.unread c.args.state.shape.emitter.test c.args.state.shape.state s1.marks f es h s1.shape.emitter.test s1.shape.state (snapshot_of (g.T.RowTest.knows c.args.snap.emitter.test) c.args.snap.vis (map (λ r. r.value) c.args.rows.now.items)) c.trace.result c.ready.ensures.test c.ready.ensures.limits (c.in-Ok.ensures.stands f es _ c.requires.stands c.requires.taken) of list) in
    goes_on g.T.RowTest.knows g.T.RowTest.unread c.args.held c.args.held c.give.result c.seal-was.new.self.shape.emitter.test c.seal-was.new.self.shape.state c.seal-was.new.self.marks ((refl, refl), (refl, refl)) ([], append-nil es) refl c.give.ensures.lock
    (Snapped (snapshot_of (g.T.RowTest.knows c.args.snap.emitter.test) c.args.snap.vis (map (λ r. r.value) c.args.rows.now.items)) ∷ []) (c.give.ensures.seen ∙ ap (λ o. es ++ added true o) c.requires.event) (c.give.ensures.mine ∙ ap (λ o. mine c.args.held ++ added true o) c.requires.event) j

pub returns-in-Ok-clause-left : goal.returns-in-Ok-clause-left
returns-in-Ok-clause-left g c = let f = c.args.held.fixed in let es = c.args.held.seen in let s1 = c.ready.new.self in
    let h = subst (λ m. IsLocked g.T.RowTest.knows g.T.RowTest.unread c.args.state.shape.emitter.test c.args.state.shape.state m f es) (sym c.ready.ensures.marks) c.requires.stands in
    let owes = owes_is g.T.RowTest.knows g.T.RowTest.unread c.args.state.shape.emitter.test c.args.state.shape.state s1.marks f es h c.args.seal.now c.requires.owes in
    let of : c.trace.result.of ≡ s1.marks.seal.value.of = ap (λ w. w.of) c.trace.ensures.trace ∙ (c.write.ensures.of ∙ owes.0) in
    let list : c.trace.result.list ≡ true ∷ [] = ap (λ w. w.list) c.trace.ensures.trace ∙ (c.write.ensures.list ∙ ((λ i. owes.1 i ++ c.of.ensures i ∷ []))) in
    let j = subst (λ s. IsLocked g.T.RowTest.knows g.T.RowTest.unread s.shape.emitter.test s.shape.state s.marks f (es ++ Snapped (snapshot_of (g.T.RowTest.knows c.args.snap.emitter.test) c.args.snap.vis (map (λ r. r.value) c.args.rows.now.items)) ∷ [])) (sym c.seal-was.ensures.is)
    (sealed_on g.T.RowTest.knows g.T.RowTest.unread c.args.state.shape.emitter.test c.args.state.shape.state s1.marks f es h s1.shape.emitter.test s1.shape.state (snapshot_of (g.T.RowTest.knows c.args.snap.emitter.test) c.args.snap.vis (map (λ r. r.value) c.args.rows.now.items)) c.trace.result c.ready.ensures.test c.ready.ensures.limits (c.in-Ok.ensures.stands f es _ c.requires.stands c.requires.taken) of list) in
    c.cause_of-left.ensures ∙ (ap cause_in (c.stage.ensures f (es ++ Snapped (snapshot_of (g.T.RowTest.knows c.args.snap.emitter.test) c.args.snap.vis (map (λ r. r.value) c.args.rows.now.items)) ∷ []) j) ∙ (drop_by_stage g.T.RowTest.knows g.T.RowTest.unread f (es ++ Snapped (snapshot_of (g.T.RowTest.knows c.args.snap.emitter.test) c.args.snap.vis (map (λ r. r.value) c.args.rows.now.items)) ∷ [])
    ∙ sym (drop_there g.T.RowTest.knows g.T.RowTest.unread f c.give.result.fixed (es ++ Snapped (snapshot_of (g.T.RowTest.knows c.args.snap.emitter.test) c.args.snap.vis (map (λ r. r.value) c.args.rows.now.items)) ∷ []) c.give.result.seen c.give.ensures.lock.0.1 (c.give.ensures.seen ∙ ap (λ o. es ++ added true o) c.requires.event))))
