use Rattle.std.proofs.Common.{rules, ◌≡◌, ap, sym, ◌∙◌, subst}
use Rattle.shape_state.specs.declared.paged.Stage.TheVariants as stage
use Rattle.shape_lock.specs.declared.fate.Fate.TheVariants.{Found}
use Rattle.shape_lock.specs.Stages.{cause_in}
use Rattle.shape_lock.specs.Passes.{IsFateOf}
use Rattle.shape_lock.proofs.Holding.{drop_is, drop_by_stage}
use Rattle.shape_lock.proofs.locked.Locked.take_in.Goals as goal

pub returns-in-Gone-clause-fate : goal.returns-in-Gone-clause-fate
returns-in-Gone-clause-fate g c = λ f es h. let s : c.stage.result ≡ stage.Gone c.in-Gone.cause = search rules in
    subst (λ f. IsFateOf g.T.RowTest.knows g.T.RowTest.unread f es c.args.tx.now c.args.others (Found c.in-Gone.cause)) (sym h.about)
    (sym (drop_is g.T.RowTest.knows g.T.RowTest.unread c.args.self.now.shape.emitter.test c.args.self.now.shape.state c.args.self.now.marks f es h)
    ∙ (sym (drop_by_stage g.T.RowTest.knows g.T.RowTest.unread f es) ∙ ap cause_in (sym (c.stage.ensures f es h) ∙ s)))

pub returns-in-Starting-clause-fate : goal.returns-in-Starting-clause-fate
returns-in-Starting-clause-fate g c = λ f es h. let s : c.stage.result ≡ stage.Starting = search rules in
    c.commit.ensures.fate f es h (sym (drop_by_stage g.T.RowTest.knows g.T.RowTest.unread f es) ∙ ap cause_in (sym (c.stage.ensures f es h) ∙ s))

pub returns-in-Starting-clause-stands : goal.returns-in-Starting-clause-stands
returns-in-Starting-clause-stands g c = λ f es h less. let s : c.stage.result ≡ stage.Starting = search rules in
    c.commit.ensures.stands f es h (sym (drop_by_stage g.T.RowTest.knows g.T.RowTest.unread f es) ∙ ap cause_in (sym (c.stage.ensures f es h) ∙ s)) less

pub returns-in-Ready-clause-fate : goal.returns-in-Ready-clause-fate
returns-in-Ready-clause-fate g c = λ f es h. let s : c.stage.result ≡ stage.Ready = search rules in
    c.commit-in-Ready.ensures.fate f es h (sym (drop_by_stage g.T.RowTest.knows g.T.RowTest.unread f es) ∙ ap cause_in (sym (c.stage.ensures f es h) ∙ s))

pub returns-in-Ready-clause-stands : goal.returns-in-Ready-clause-stands
returns-in-Ready-clause-stands g c = λ f es h less. let s : c.stage.result ≡ stage.Ready = search rules in
    c.commit-in-Ready.ensures.stands f es h (sym (drop_by_stage g.T.RowTest.knows g.T.RowTest.unread f es) ∙ ap cause_in (sym (c.stage.ensures f es h) ∙ s)) less
