use Rattle.std.proofs.Common.{◌≡◌, ◌<◌, ◌++◌, ap, sym, ◌∙◌, subst}
use Rattle.std.specs.List.{AllByRecursion}
use Rattle.shape_json.specs.ShapeHistory.{last_lsn}
use Rattle.shape_state.specs.Reading.{reader_of}
use Rattle.shape_state.specs.Answers.{log_bytes}
use Rattle.shape_lock.specs.Locked.{IsLocked, lsns}
use Rattle.shape_lock.specs.Passes.{IsFateOf, made_by, taken_by}
use Rattle.shape_lock.proofs.Holding.{last_below, drop_there, state_there, state_is, goes_on}
use Rattle.shape_lock.proofs.Commits.{pen_is, fed_same, renewed, fed_on, told_is, gone_is}
use Rattle.shape_lock.proofs.feeding.feed.Goals as goal

pub renew-requires : goal.renew-requires
renew-requires g c = let s0 = c.take-held.result.1 in pen_is g.T.RowTest.knows g.T.RowTest.unread s0.shape.emitter.test s0.shape.state s0.marks c.args.pass.fixed c.take-held.result.0.seen c.take-held.ensures.stands c.args.pen.now c.requires.pen

pub take_in-fate-requires-clause-later : goal.take_in-fate-requires-clause-later
take_in-fate-requires-clause-later g c = let s0 = c.take-held.result.1 in let f = c.args.pass.fixed in let es = c.take-held.result.0.seen in let w = c.args.pen.now in
    let same : lsns es ≡ w.list = fed_same g.T.RowTest.knows g.T.RowTest.unread s0.shape.emitter.test s0.shape.state s0.marks f es c.take-held.ensures.stands w.list c.args.pass.seen c.renew.ensures.front c.requires.known c.take-held.ensures.seen in
    let h1 = subst (λ s. IsLocked g.T.RowTest.knows g.T.RowTest.unread s.shape.emitter.test s.shape.state s.marks f es) (sym c.renew.ensures.is) (renewed g.T.RowTest.knows g.T.RowTest.unread s0.shape.emitter.test s0.shape.state s0.marks f es c.take-held.ensures.stands w (sym (pen_is g.T.RowTest.knows g.T.RowTest.unread s0.shape.emitter.test s0.shape.state s0.marks f es c.take-held.ensures.stands w c.requires.pen)) (sym same)) in
    let less : last_lsn es < c.args.tx.now.lsn = last_below es c.args.tx.now.lsn c.requires.above.0 (subst (λ l. AllByRecursion (λ k. k < c.args.tx.now.lsn) l) (sym same) c.requires.above.1) in
    c.comes_later.ensures (reader_of (g.T.RowTest.knows c.renew.new.self.shape.emitter.test) (g.T.RowTest.unread c.renew.new.self.shape.emitter.test)) c.renew.new.self.shape.state es c.args.tx.now.lsn h1.stands less

pub give_fate-pass-requires-clause-stands : goal.give_fate-pass-requires-clause-stands
give_fate-pass-requires-clause-stands g c = let s0 = c.take-held.result.1 in let f = c.args.pass.fixed in let es = c.take-held.result.0.seen in let w = c.args.pen.now in
    let same : lsns es ≡ w.list = fed_same g.T.RowTest.knows g.T.RowTest.unread s0.shape.emitter.test s0.shape.state s0.marks f es c.take-held.ensures.stands w.list c.args.pass.seen c.renew.ensures.front c.requires.known c.take-held.ensures.seen in
    let h1 = subst (λ s. IsLocked g.T.RowTest.knows g.T.RowTest.unread s.shape.emitter.test s.shape.state s.marks f es) (sym c.renew.ensures.is) (renewed g.T.RowTest.knows g.T.RowTest.unread s0.shape.emitter.test s0.shape.state s0.marks f es c.take-held.ensures.stands w (sym (pen_is g.T.RowTest.knows g.T.RowTest.unread s0.shape.emitter.test s0.shape.state s0.marks f es c.take-held.ensures.stands w c.requires.pen)) (sym same)) in
    let less : last_lsn es < c.args.tx.now.lsn = last_below es c.args.tx.now.lsn c.requires.above.0 (subst (λ l. AllByRecursion (λ k. k < c.args.tx.now.lsn) l) (sym same) c.requires.above.1) in
    let s1 = c.renew.new.self in let s2 = c.take_in-fate.new.self in
    let h2 = subst (λ m. IsLocked g.T.RowTest.knows g.T.RowTest.unread s1.shape.emitter.test s1.shape.state m f es) (sym c.take_in-fate.ensures.marks) h1 in
    let of : c.trace.result.of ≡ s2.marks.fed.of = ap (λ t. t.of) c.trace.ensures.trace ∙ (c.write_fate.ensures.of ∙ (ap (λ t. t.of) c.renew.ensures.pen ∙ sym (ap (λ m. m.fed.of) c.take_in-fate.ensures.marks ∙ ap (λ s. s.marks.fed.of) c.renew.ensures.is))) in
    let list : c.trace.result.list ≡ lsns es ++ taken_by c.take_in-fate.result c.args.tx.now.lsn = ap (λ t. t.list) c.trace.ensures.trace ∙ (c.write_fate.ensures.list ∙ (ap (λ t. t.list ++ taken_by c.take_in-fate.result c.args.tx.now.lsn) c.renew.ensures.pen ∙ ap (λ l. l ++ taken_by c.take_in-fate.result c.args.tx.now.lsn) (sym same))) in
    let h3 = subst (λ s. IsLocked g.T.RowTest.knows g.T.RowTest.unread s.shape.emitter.test s.shape.state s.marks f (es ++ made_by c.take_in-fate.result c.args.tx.now c.args.others)) (sym c.mark-was.ensures.is)
    (fed_on g.T.RowTest.knows g.T.RowTest.unread s1.shape.emitter.test s1.shape.state s2.marks f es h2 s2.shape.emitter.test s2.shape.state c.args.tx.now c.args.others c.take_in-fate.result c.trace.result c.take_in-fate.ensures.test c.take_in-fate.ensures.limits (c.take_in-fate.ensures.stands f es h1 less) of list) in
    subst (λ f. IsLocked g.T.RowTest.knows g.T.RowTest.unread c.mark-was.new.self.shape.emitter.test c.mark-was.new.self.shape.state c.mark-was.new.self.marks f (es ++ made_by c.take_in-fate.result c.args.tx.now c.args.others)) (sym c.take-held.ensures.lock.0.1) h3

pub returns-clause-on : goal.returns-clause-on
returns-clause-on g c = let s0 = c.take-held.result.1 in let f = c.args.pass.fixed in let es = c.take-held.result.0.seen in let w = c.args.pen.now in
    let same : lsns es ≡ w.list = fed_same g.T.RowTest.knows g.T.RowTest.unread s0.shape.emitter.test s0.shape.state s0.marks f es c.take-held.ensures.stands w.list c.args.pass.seen c.renew.ensures.front c.requires.known c.take-held.ensures.seen in
    let h1 = subst (λ s. IsLocked g.T.RowTest.knows g.T.RowTest.unread s.shape.emitter.test s.shape.state s.marks f es) (sym c.renew.ensures.is) (renewed g.T.RowTest.knows g.T.RowTest.unread s0.shape.emitter.test s0.shape.state s0.marks f es c.take-held.ensures.stands w (sym (pen_is g.T.RowTest.knows g.T.RowTest.unread s0.shape.emitter.test s0.shape.state s0.marks f es c.take-held.ensures.stands w c.requires.pen)) (sym same)) in
    let less : last_lsn es < c.args.tx.now.lsn = last_below es c.args.tx.now.lsn c.requires.above.0 (subst (λ l. AllByRecursion (λ k. k < c.args.tx.now.lsn) l) (sym same) c.requires.above.1) in
    let s1 = c.renew.new.self in let s2 = c.take_in-fate.new.self in
    let h2 = subst (λ m. IsLocked g.T.RowTest.knows g.T.RowTest.unread s1.shape.emitter.test s1.shape.state m f es) (sym c.take_in-fate.ensures.marks) h1 in
    let of : c.trace.result.of ≡ s2.marks.fed.of = ap (λ t. t.of) c.trace.ensures.trace ∙ (c.write_fate.ensures.of ∙ (ap (λ t. t.of) c.renew.ensures.pen ∙ sym (ap (λ m. m.fed.of) c.take_in-fate.ensures.marks ∙ ap (λ s. s.marks.fed.of) c.renew.ensures.is))) in
    let list : c.trace.result.list ≡ lsns es ++ taken_by c.take_in-fate.result c.args.tx.now.lsn = ap (λ t. t.list) c.trace.ensures.trace ∙ (c.write_fate.ensures.list ∙ (ap (λ t. t.list ++ taken_by c.take_in-fate.result c.args.tx.now.lsn) c.renew.ensures.pen ∙ ap (λ l. l ++ taken_by c.take_in-fate.result c.args.tx.now.lsn) (sym same))) in
    let h3 = subst (λ s. IsLocked g.T.RowTest.knows g.T.RowTest.unread s.shape.emitter.test s.shape.state s.marks f (es ++ made_by c.take_in-fate.result c.args.tx.now c.args.others)) (sym c.mark-was.ensures.is)
    (fed_on g.T.RowTest.knows g.T.RowTest.unread s1.shape.emitter.test s1.shape.state s2.marks f es h2 s2.shape.emitter.test s2.shape.state c.args.tx.now c.args.others c.take_in-fate.result c.trace.result c.take_in-fate.ensures.test c.take_in-fate.ensures.limits (c.take_in-fate.ensures.stands f es h1 less) of list) in
    goes_on g.T.RowTest.knows g.T.RowTest.unread c.args.pass c.take-held.result.0 c.give_fate-pass.result c.mark-was.new.self.shape.emitter.test c.mark-was.new.self.shape.state c.mark-was.new.self.marks c.take-held.ensures.lock c.take-held.ensures.seen c.take-held.ensures.mine.1 c.give_fate-pass.ensures.lock (made_by c.take_in-fate.result c.args.tx.now c.args.others) c.give_fate-pass.ensures.seen c.give_fate-pass.ensures.mine h3

pub returns-clause-fate : goal.returns-clause-fate
returns-clause-fate g c = let s0 = c.take-held.result.1 in let f = c.args.pass.fixed in let es = c.take-held.result.0.seen in let w = c.args.pen.now in
    let same : lsns es ≡ w.list = fed_same g.T.RowTest.knows g.T.RowTest.unread s0.shape.emitter.test s0.shape.state s0.marks f es c.take-held.ensures.stands w.list c.args.pass.seen c.renew.ensures.front c.requires.known c.take-held.ensures.seen in
    let h1 = subst (λ s. IsLocked g.T.RowTest.knows g.T.RowTest.unread s.shape.emitter.test s.shape.state s.marks f es) (sym c.renew.ensures.is) (renewed g.T.RowTest.knows g.T.RowTest.unread s0.shape.emitter.test s0.shape.state s0.marks f es c.take-held.ensures.stands w (sym (pen_is g.T.RowTest.knows g.T.RowTest.unread s0.shape.emitter.test s0.shape.state s0.marks f es c.take-held.ensures.stands w c.requires.pen)) (sym same)) in
    let less : last_lsn es < c.args.tx.now.lsn = last_below es c.args.tx.now.lsn c.requires.above.0 (subst (λ l. AllByRecursion (λ k. k < c.args.tx.now.lsn) l) (sym same) c.requires.above.1) in
    record {
      before = es;
      seen = c.give_fate-pass.ensures.seen;
      fate_is = subst (λ f. IsFateOf g.T.RowTest.knows g.T.RowTest.unread f es c.args.tx.now c.args.others c.take_in-fate.result) (sym (c.give_fate-pass.ensures.lock.0.1 ∙ c.take-held.ensures.lock.0.1)) (c.take_in-fate.ensures.fate f es h1);
    }

pub returns-clause-told : goal.returns-clause-told
returns-clause-told g c = let s0 = c.take-held.result.1 in let f = c.args.pass.fixed in let es = c.take-held.result.0.seen in let w = c.args.pen.now in
    let same : lsns es ≡ w.list = fed_same g.T.RowTest.knows g.T.RowTest.unread s0.shape.emitter.test s0.shape.state s0.marks f es c.take-held.ensures.stands w.list c.args.pass.seen c.renew.ensures.front c.requires.known c.take-held.ensures.seen in
    let h1 = subst (λ s. IsLocked g.T.RowTest.knows g.T.RowTest.unread s.shape.emitter.test s.shape.state s.marks f es) (sym c.renew.ensures.is) (renewed g.T.RowTest.knows g.T.RowTest.unread s0.shape.emitter.test s0.shape.state s0.marks f es c.take-held.ensures.stands w (sym (pen_is g.T.RowTest.knows g.T.RowTest.unread s0.shape.emitter.test s0.shape.state s0.marks f es c.take-held.ensures.stands w c.requires.pen)) (sym same)) in
    let less : last_lsn es < c.args.tx.now.lsn = last_below es c.args.tx.now.lsn c.requires.above.0 (subst (λ l. AllByRecursion (λ k. k < c.args.tx.now.lsn) l) (sym same) c.requires.above.1) in
    ap (λ t. t.list) c.trace.ensures.kept ∙ (told_is g.T.RowTest.knows g.T.RowTest.unread es c.args.tx.now c.args.others c.take_in-fate.result w.list c.write_fate.new.pen.list same (c.write_fate.ensures.list ∙ ap (λ t. t.list ++ taken_by c.take_in-fate.result c.args.tx.now.lsn) c.renew.ensures.pen) ∙ ap lsns (sym c.give_fate-pass.ensures.seen))

pub returns-clause-gone : goal.returns-clause-gone
returns-clause-gone g c = let s0 = c.take-held.result.1 in let f = c.args.pass.fixed in let es = c.take-held.result.0.seen in let w = c.args.pen.now in
    let same : lsns es ≡ w.list = fed_same g.T.RowTest.knows g.T.RowTest.unread s0.shape.emitter.test s0.shape.state s0.marks f es c.take-held.ensures.stands w.list c.args.pass.seen c.renew.ensures.front c.requires.known c.take-held.ensures.seen in
    let h1 = subst (λ s. IsLocked g.T.RowTest.knows g.T.RowTest.unread s.shape.emitter.test s.shape.state s.marks f es) (sym c.renew.ensures.is) (renewed g.T.RowTest.knows g.T.RowTest.unread s0.shape.emitter.test s0.shape.state s0.marks f es c.take-held.ensures.stands w (sym (pen_is g.T.RowTest.knows g.T.RowTest.unread s0.shape.emitter.test s0.shape.state s0.marks f es c.take-held.ensures.stands w c.requires.pen)) (sym same)) in
    let less : last_lsn es < c.args.tx.now.lsn = last_below es c.args.tx.now.lsn c.requires.above.0 (subst (λ l. AllByRecursion (λ k. k < c.args.tx.now.lsn) l) (sym same) c.requires.above.1) in
    drop_there g.T.RowTest.knows g.T.RowTest.unread f c.give_fate-pass.result.fixed (es ++ made_by c.take_in-fate.result c.args.tx.now c.args.others) c.give_fate-pass.result.seen (c.give_fate-pass.ensures.lock.0.1 ∙ c.take-held.ensures.lock.0.1) c.give_fate-pass.ensures.seen ∙ gone_is g.T.RowTest.knows g.T.RowTest.unread f es c.args.tx.now c.args.others c.take_in-fate.result (c.take_in-fate.ensures.fate f es h1)

pub returns-clause-bytes : goal.returns-clause-bytes
returns-clause-bytes g c = let s0 = c.take-held.result.1 in let f = c.args.pass.fixed in let es = c.take-held.result.0.seen in let w = c.args.pen.now in
    let same : lsns es ≡ w.list = fed_same g.T.RowTest.knows g.T.RowTest.unread s0.shape.emitter.test s0.shape.state s0.marks f es c.take-held.ensures.stands w.list c.args.pass.seen c.renew.ensures.front c.requires.known c.take-held.ensures.seen in
    let h1 = subst (λ s. IsLocked g.T.RowTest.knows g.T.RowTest.unread s.shape.emitter.test s.shape.state s.marks f es) (sym c.renew.ensures.is) (renewed g.T.RowTest.knows g.T.RowTest.unread s0.shape.emitter.test s0.shape.state s0.marks f es c.take-held.ensures.stands w (sym (pen_is g.T.RowTest.knows g.T.RowTest.unread s0.shape.emitter.test s0.shape.state s0.marks f es c.take-held.ensures.stands w c.requires.pen)) (sym same)) in
    let less : last_lsn es < c.args.tx.now.lsn = last_below es c.args.tx.now.lsn c.requires.above.0 (subst (λ l. AllByRecursion (λ k. k < c.args.tx.now.lsn) l) (sym same) c.requires.above.1) in
    let s1 = c.renew.new.self in let s2 = c.take_in-fate.new.self in
    let h2 = subst (λ m. IsLocked g.T.RowTest.knows g.T.RowTest.unread s1.shape.emitter.test s1.shape.state m f es) (sym c.take_in-fate.ensures.marks) h1 in
    let of : c.trace.result.of ≡ s2.marks.fed.of = ap (λ t. t.of) c.trace.ensures.trace ∙ (c.write_fate.ensures.of ∙ (ap (λ t. t.of) c.renew.ensures.pen ∙ sym (ap (λ m. m.fed.of) c.take_in-fate.ensures.marks ∙ ap (λ s. s.marks.fed.of) c.renew.ensures.is))) in
    let list : c.trace.result.list ≡ lsns es ++ taken_by c.take_in-fate.result c.args.tx.now.lsn = ap (λ t. t.list) c.trace.ensures.trace ∙ (c.write_fate.ensures.list ∙ (ap (λ t. t.list ++ taken_by c.take_in-fate.result c.args.tx.now.lsn) c.renew.ensures.pen ∙ ap (λ l. l ++ taken_by c.take_in-fate.result c.args.tx.now.lsn) (sym same))) in
    let h3 = subst (λ s. IsLocked g.T.RowTest.knows g.T.RowTest.unread s.shape.emitter.test s.shape.state s.marks f (es ++ made_by c.take_in-fate.result c.args.tx.now c.args.others)) (sym c.mark-was.ensures.is)
    (fed_on g.T.RowTest.knows g.T.RowTest.unread s1.shape.emitter.test s1.shape.state s2.marks f es h2 s2.shape.emitter.test s2.shape.state c.args.tx.now c.args.others c.take_in-fate.result c.trace.result c.take_in-fate.ensures.test c.take_in-fate.ensures.limits (c.take_in-fate.ensures.stands f es h1 less) of list) in
    c.bytes-bytes.ensures (es ++ made_by c.take_in-fate.result c.args.tx.now c.args.others) h3.stands ∙ ap log_bytes (sym (state_there g.T.RowTest.knows g.T.RowTest.unread f c.give_fate-pass.result.fixed (es ++ made_by c.take_in-fate.result c.args.tx.now c.args.others) c.give_fate-pass.result.seen (c.give_fate-pass.ensures.lock.0.1 ∙ c.take-held.ensures.lock.0.1) c.give_fate-pass.ensures.seen ∙ state_is g.T.RowTest.knows g.T.RowTest.unread c.mark-was.new.self.shape.emitter.test c.mark-was.new.self.shape.state c.mark-was.new.self.marks f (es ++ made_by c.take_in-fate.result c.args.tx.now c.args.others) h3))
