use Rattle.std.proofs.Common.{◌∙◌, sym, subst, Option}
use Rattle.std.specs.Prelude.{IfErr}
use Rattle.shape_snapshot.specs.declared.faults.SnapError.{SnapError}
use Rattle.shape_snapshot.specs.Refusals.{reader_of, log_of, IsCause}
use Rattle.shape_snapshot.proofs.Taking.{taken_same, taken_more, taken_still, cause_behind, on_ok, on_ok_three, on_err_both, entry_there, none_there}
use Rattle.shape_snapshot.proofs.snap.Snap.row.Goals as goal

pub returns-in_default-clause-taken : goal.returns-in_default-clause-taken
returns-in_default-clause-taken g c rows h =
    let s = g.T.RowTest.knows c.args.self.now.emitter.test in
    let passed = none_there s c.args.row c.in_ok-pos.pos c.in_ok-entry.field-0 c.in_default.is (c.in_ok-entry.ensures).entry in
    taken_same (reader_of s (g.T.RowTest.unread c.args.self.now.emitter.test)) c.args.self.now.limits c.args.self.now.kept rows c.args.row (c.in_ok-entry.ensures).good passed h

pub returns-clause-came : goal.returns-clause-came
returns-clause-came g c rows h =
    let s = g.T.RowTest.knows c.args.self.now.emitter.test in
    let r = reader_of s (g.T.RowTest.unread c.args.self.now.emitter.test) in
    let l = c.args.self.now.limits in
    let kept = c.args.self.now.kept in
    let there = entry_there s c.args.row c.in_ok-pos.pos c.in_ok-entry.field-0 c.in-Some.entry c.in-Some.is (c.in_ok-entry.ensures).entry in
    let cause = cause_behind r l kept rows c.args.row c.in_ok-pos.pos c.in-Some.entry h c.in_ok-pos.ensures (c.in_ok-entry.ensures).good there.0 there.1 in
    on_ok c.put.result _ _ (λ none. cause ∙ none) (c.put.ensures.ok (log_of s rows) h.log)

pub returns-clause-refused : goal.returns-clause-refused
returns-clause-refused g c rows h =
    let s = g.T.RowTest.knows c.args.self.now.emitter.test in
    let r = reader_of s (g.T.RowTest.unread c.args.self.now.emitter.test) in
    let l = c.args.self.now.limits in
    let kept = c.args.self.now.kept in
    let there = entry_there s c.args.row c.in_ok-pos.pos c.in_ok-entry.field-0 c.in-Some.entry c.in-Some.is (c.in_ok-entry.ensures).entry in
    let cause = cause_behind r l kept rows c.args.row c.in_ok-pos.pos c.in-Some.entry h c.in_ok-pos.ensures (c.in_ok-entry.ensures).good there.0 there.1 in
    subst (λ (o : Option SnapError). IfErr c.put.result (IsCause o)) (sym cause) (c.put.ensures.err (log_of s rows) h.log)

pub returns-clause-taken : goal.returns-clause-taken
returns-clause-taken g c rows h =
    let s = g.T.RowTest.knows c.args.self.now.emitter.test in
    let r = reader_of s (g.T.RowTest.unread c.args.self.now.emitter.test) in
    let l = c.args.self.now.limits in
    let kept = c.args.self.now.kept in
    let there = entry_there s c.args.row c.in_ok-pos.pos c.in_ok-entry.field-0 c.in-Some.entry c.in-Some.is (c.in_ok-entry.ensures).entry in
    let cause = cause_behind r l kept rows c.args.row c.in_ok-pos.pos c.in-Some.entry h c.in_ok-pos.ensures (c.in_ok-entry.ensures).good there.0 there.1 in
    on_ok_three c.put.result _ _ _ _ (λ none log keys. taken_more r l kept c.put.new.self rows c.args.row c.in_ok-pos.pos c.in-Some.entry h c.in_ok-pos.ensures there.0 there.1 (cause ∙ none) log keys)
    (c.put.ensures.ok (log_of s rows) h.log) (c.put.ensures.log (log_of s rows) h.log) c.put.ensures.keys

pub returns-clause-unchanged : goal.returns-clause-unchanged
returns-clause-unchanged g c rows h =
    let s = g.T.RowTest.knows c.args.self.now.emitter.test in
    let r = reader_of s (g.T.RowTest.unread c.args.self.now.emitter.test) in
    let l = c.args.self.now.limits in
    let kept = c.args.self.now.kept in
    on_err_both c.put.result _ _ _ (λ log keys. taken_still r l kept c.put.new.self rows h log keys) (c.put.ensures.log_kept (log_of s rows) h.log) c.put.ensures.keys_kept
