use Rattle.std.proofs.Common.{rules, ◌≡◌, ◌++◌, ◌∷◌, [], None, ap, sym, ◌∙◌, subst, is_some}
use Rattle.front_lock.specs.Passes.{mine}
use Rattle.shape_json.specs.ShapeHistory.{Dropped}
use Rattle.shape_state.specs.declared.paged.Stage.TheVariants as stage
use Rattle.shape_lock.specs.Stages.{cause_in}
use Rattle.shape_lock.specs.Starts.{drop_in}
use Rattle.shape_lock.specs.Locked.{IsLocked}
use Rattle.shape_lock.proofs.Holding.{drop_by_stage, drop_there, dropped_is, goes_on}
use Rattle.shape_lock.proofs.calls.drop_shape.Goals as goal

pub returns-in-Gone-clause-dropped : goal.returns-in-Gone-clause-dropped
returns-in-Gone-clause-dropped g c = let f = c.args.pass.fixed in let es = c.take-held.result.0.seen in
    let s : c.stage.result ≡ stage.Gone c.in-Gone.cause = search rules in
    ap is_some (drop_there g.T.RowTest.knows g.T.RowTest.unread f c.give_back.result.fixed es c.give_back.result.seen (c.give_back.ensures.lock.0.1 ∙ c.take-held.ensures.lock.0.1) c.give_back.ensures.seen
    ∙ (sym (drop_by_stage g.T.RowTest.knows g.T.RowTest.unread f es) ∙ ap cause_in (sym (c.stage.ensures f es c.take-held.ensures.stands) ∙ s)))

pub give_with-requires-clause-stands : goal.give_with-requires-clause-stands
give_with-requires-clause-stands g c = let s0 = c.take-held.result.1 in let f = c.args.pass.fixed in let es = c.take-held.result.0.seen in
    let s : c.stage.result ≡ stage.Starting = search rules in
    let ev : c.of.result.value ≡ Dropped c.args.cause = search rules in
    let none : drop_in g.T.RowTest.knows g.T.RowTest.unread f es ≡ None = sym (drop_by_stage g.T.RowTest.knows g.T.RowTest.unread f es) ∙ ap cause_in (sym (c.stage.ensures f es c.take-held.ensures.stands) ∙ s) in
    let j = c.drop_with.ensures f es c.take-held.ensures.stands none in
    subst (λ f. IsLocked g.T.RowTest.knows g.T.RowTest.unread c.drop_with.new.self.shape.emitter.test c.drop_with.new.self.shape.state c.drop_with.new.self.marks f (es ++ c.of.result.value ∷ [])) (sym c.take-held.ensures.lock.0.1) (subst (λ e. IsLocked g.T.RowTest.knows g.T.RowTest.unread c.drop_with.new.self.shape.emitter.test c.drop_with.new.self.shape.state c.drop_with.new.self.marks f (es ++ e ∷ [])) (sym ev) j)

pub returns-in-Starting-clause-on : goal.returns-in-Starting-clause-on
returns-in-Starting-clause-on g c = let s0 = c.take-held.result.1 in let f = c.args.pass.fixed in let es = c.take-held.result.0.seen in
    let s : c.stage.result ≡ stage.Starting = search rules in
    let ev : c.of.result.value ≡ Dropped c.args.cause = search rules in
    let none : drop_in g.T.RowTest.knows g.T.RowTest.unread f es ≡ None = sym (drop_by_stage g.T.RowTest.knows g.T.RowTest.unread f es) ∙ ap cause_in (sym (c.stage.ensures f es c.take-held.ensures.stands) ∙ s) in
    let j = c.drop_with.ensures f es c.take-held.ensures.stands none in
    goes_on g.T.RowTest.knows g.T.RowTest.unread c.args.pass c.take-held.result.0 c.give_with.result c.drop_with.new.self.shape.emitter.test c.drop_with.new.self.shape.state c.drop_with.new.self.marks c.take-held.ensures.lock c.take-held.ensures.seen c.take-held.ensures.mine.1 c.give_with.ensures.lock
    (Dropped c.args.cause ∷ []) (c.give_with.ensures.seen ∙ ap (λ e. es ++ e ∷ []) ev) (c.give_with.ensures.mine ∙ ap (λ e. mine c.take-held.result.0 ++ e ∷ []) ev) j

pub returns-in-Starting-clause-dropped : goal.returns-in-Starting-clause-dropped
returns-in-Starting-clause-dropped g c = let s0 = c.take-held.result.1 in let f = c.args.pass.fixed in let es = c.take-held.result.0.seen in
    let s : c.stage.result ≡ stage.Starting = search rules in
    let ev : c.of.result.value ≡ Dropped c.args.cause = search rules in
    let none : drop_in g.T.RowTest.knows g.T.RowTest.unread f es ≡ None = sym (drop_by_stage g.T.RowTest.knows g.T.RowTest.unread f es) ∙ ap cause_in (sym (c.stage.ensures f es c.take-held.ensures.stands) ∙ s) in
    let j = c.drop_with.ensures f es c.take-held.ensures.stands none in
    ap is_some (drop_there g.T.RowTest.knows g.T.RowTest.unread f c.give_with.result.fixed (es ++ Dropped c.args.cause ∷ []) c.give_with.result.seen (c.give_with.ensures.lock.0.1 ∙ c.take-held.ensures.lock.0.1) (c.give_with.ensures.seen ∙ ap (λ e. es ++ e ∷ []) ev)
    ∙ dropped_is g.T.RowTest.knows g.T.RowTest.unread s0.shape.emitter.test s0.shape.state s0.marks f es c.take-held.ensures.stands c.args.cause none)

pub give_with-requires-in-Ready-clause-stands : goal.give_with-requires-in-Ready-clause-stands
give_with-requires-in-Ready-clause-stands g c = let s0 = c.take-held.result.1 in let f = c.args.pass.fixed in let es = c.take-held.result.0.seen in
    let s : c.stage.result ≡ stage.Ready = search rules in
    let ev : c.of-in-Ready.result.value ≡ Dropped c.args.cause = search rules in
    let none : drop_in g.T.RowTest.knows g.T.RowTest.unread f es ≡ None = sym (drop_by_stage g.T.RowTest.knows g.T.RowTest.unread f es) ∙ ap cause_in (sym (c.stage.ensures f es c.take-held.ensures.stands) ∙ s) in
    let j = c.drop_with-in-Ready.ensures f es c.take-held.ensures.stands none in
    subst (λ f. IsLocked g.T.RowTest.knows g.T.RowTest.unread c.drop_with-in-Ready.new.self.shape.emitter.test c.drop_with-in-Ready.new.self.shape.state c.drop_with-in-Ready.new.self.marks f (es ++ c.of-in-Ready.result.value ∷ [])) (sym c.take-held.ensures.lock.0.1) (subst (λ e. IsLocked g.T.RowTest.knows g.T.RowTest.unread c.drop_with-in-Ready.new.self.shape.emitter.test c.drop_with-in-Ready.new.self.shape.state c.drop_with-in-Ready.new.self.marks f (es ++ e ∷ [])) (sym ev) j)

pub returns-in-Ready-clause-on : goal.returns-in-Ready-clause-on
returns-in-Ready-clause-on g c = let s0 = c.take-held.result.1 in let f = c.args.pass.fixed in let es = c.take-held.result.0.seen in
    let s : c.stage.result ≡ stage.Ready = search rules in
    let ev : c.of-in-Ready.result.value ≡ Dropped c.args.cause = search rules in
    let none : drop_in g.T.RowTest.knows g.T.RowTest.unread f es ≡ None = sym (drop_by_stage g.T.RowTest.knows g.T.RowTest.unread f es) ∙ ap cause_in (sym (c.stage.ensures f es c.take-held.ensures.stands) ∙ s) in
    let j = c.drop_with-in-Ready.ensures f es c.take-held.ensures.stands none in
    goes_on g.T.RowTest.knows g.T.RowTest.unread c.args.pass c.take-held.result.0 c.give_with-in-Ready.result c.drop_with-in-Ready.new.self.shape.emitter.test c.drop_with-in-Ready.new.self.shape.state c.drop_with-in-Ready.new.self.marks c.take-held.ensures.lock c.take-held.ensures.seen c.take-held.ensures.mine.1 c.give_with-in-Ready.ensures.lock
    (Dropped c.args.cause ∷ []) (c.give_with-in-Ready.ensures.seen ∙ ap (λ e. es ++ e ∷ []) ev) (c.give_with-in-Ready.ensures.mine ∙ ap (λ e. mine c.take-held.result.0 ++ e ∷ []) ev) j

pub returns-in-Ready-clause-dropped : goal.returns-in-Ready-clause-dropped
returns-in-Ready-clause-dropped g c = let s0 = c.take-held.result.1 in let f = c.args.pass.fixed in let es = c.take-held.result.0.seen in
    let s : c.stage.result ≡ stage.Ready = search rules in
    let ev : c.of-in-Ready.result.value ≡ Dropped c.args.cause = search rules in
    let none : drop_in g.T.RowTest.knows g.T.RowTest.unread f es ≡ None = sym (drop_by_stage g.T.RowTest.knows g.T.RowTest.unread f es) ∙ ap cause_in (sym (c.stage.ensures f es c.take-held.ensures.stands) ∙ s) in
    let j = c.drop_with-in-Ready.ensures f es c.take-held.ensures.stands none in
    ap is_some (drop_there g.T.RowTest.knows g.T.RowTest.unread f c.give_with-in-Ready.result.fixed (es ++ Dropped c.args.cause ∷ []) c.give_with-in-Ready.result.seen (c.give_with-in-Ready.ensures.lock.0.1 ∙ c.take-held.ensures.lock.0.1) (c.give_with-in-Ready.ensures.seen ∙ ap (λ e. es ++ e ∷ []) ev)
    ∙ dropped_is g.T.RowTest.knows g.T.RowTest.unread s0.shape.emitter.test s0.shape.state s0.marks f es c.take-held.ensures.stands c.args.cause none)
