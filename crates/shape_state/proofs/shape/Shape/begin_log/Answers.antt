use Rattle.std.proofs.Common.{◌≡◌, ◌∙◌, ◌++◌, ℕ, List, None, Some, refl, sym, ap, subst}
use Rattle.std.specs.List.{AllByRecursion}
use Rattle.shape_base.specs.declared.change.Tx.{Tx}
use Rattle.shape_base.specs.Visibility.{Visibility}
use Rattle.shape_base.specs.Shape.{shown}
use Rattle.shape_base.specs.Log.{start_from, unseen, entries_past}
use Rattle.shape_base.specs.Transactions.{IsWhole, LsnsRise}
use Rattle.shape_base.proofs.Lemmas.{unseen_rise}
use Rattle.chunked_log.specs.Chunked.{Holds}
use Rattle.shape_json.specs.ShapeHistory.{bytes_of, drop_among, is_empty}
use Rattle.shape_state.specs.Reading.{reader_of}
use Rattle.shape_state.specs.declared.state.Kept.TheVariants as kept
use Rattle.shape_state.specs.Standing.{Keeps}
use Rattle.shape_state.proofs.Taking.{unseen_whole, empty_is}
use Rattle.shape_state.proofs.Life.{begins, begins_log}
use Rattle.shape_state.proofs.shape.Shape.begin_log.Goals as goal

pub add_all-requires-clause-whole : goal.add_all-requires-clause-whole
add_all-requires-clause-whole g c =
    subst (AllByRecursion IsWhole) (sym (c.unseen-txs.ensures ∙ ap (unseen c.args.vis) c.as_slice.ensures.txs)) (unseen_whole c.args.vis c.in-Waiting.commits.txs c.as_slice.ensures.whole)

pub add_all-requires-clause-rise : goal.add_all-requires-clause-rise
add_all-requires-clause-rise g c =
    let rise = unseen_rise c.args.vis c.in-Waiting.commits.txs 0 c.as_slice.ensures.rise in
    subst (λ (n : ℕ). LsnsRise n c.unseen-txs.result.now) (sym c.requires.start) (subst (LsnsRise 0) (sym (c.unseen-txs.ensures ∙ ap (unseen c.args.vis) c.as_slice.ensures.txs)) rise)

pub returns-in-Some-clause-stands : goal.returns-in-Some-clause-stands
returns-in-Some-clause-stands g c = λ events snapshot st visible held.
    let old = c.args.self.now.state in
    let r = reader_of (g.T.RowTest.knows c.args.self.now.emitter.test) (g.T.RowTest.unread c.args.self.now.emitter.test) in
    let start = start_from 1 (shown r.knows snapshot.rows) in
    let txs = c.unseen-txs.ensures ∙ ap (unseen c.args.vis) c.as_slice.ensures.txs ∙ ap (λ (v : Visibility). unseen v c.in-Waiting.commits.txs) (sym visible) in
    let found = (c.in_ok-stop.ensures).found start held ∙ ap (drop_among r old.limits (bytes_of start)) txs in
    begins r old (record { limits = old.limits; kept = kept.Gone c.in-Some.cause; took = old.took }) c.in-Waiting.commits events snapshot c.in-Waiting.is st (Some c.in-Some.cause) (sym c.in-Some.is ∙ found) refl refl (λ gone. gone)

pub returns-in-None-clause-stands : goal.returns-in-None-clause-stands
returns-in-None-clause-stands g c = λ events snapshot st visible held.
    let old = c.args.self.now.state in
    let r = reader_of (g.T.RowTest.knows c.args.self.now.emitter.test) (g.T.RowTest.unread c.args.self.now.emitter.test) in
    let start = start_from 1 (shown r.knows snapshot.rows) in
    let commits = c.in-Waiting.commits in
    let txs = c.unseen-txs.ensures ∙ ap (unseen c.args.vis) c.as_slice.ensures.txs ∙ ap (λ (v : Visibility). unseen v commits.txs) (sym visible) in
    let found = (c.in_ok-stop.ensures).found start held ∙ ap (drop_among r old.limits (bytes_of start)) txs in
    let log = subst (λ (ts : List Tx). Holds c.add_all.new.log (start_from 1 (shown r.knows snapshot.rows) ++ entries_past r.knows ts)) txs ((c.in_ok-stop.ensures).held start held c.in-None.is) in
    begins r old (record { limits = old.limits; kept = kept.Logging (record { log = c.add_all.new.log; vis = c.args.vis; all_shown = c.is_empty-all_shown.result }); took = old.took }) commits events snapshot c.in-Waiting.is st None (sym c.in-None.is ∙ found) refl refl
    (λ stands. begins_log r old.limits commits events snapshot (record { log = c.add_all.new.log; vis = c.args.vis; all_shown = c.is_empty-all_shown.result }) (subst (Keeps r old.limits events) c.in-Waiting.is st.keeps) stands (sym visible) ((c.in_ok-stop.ensures).least ∙ c.requires.least)
    (empty_is c.unseen-txs.result.now c.is_empty-all_shown.result c.is_empty-all_shown.ensures ∙ ap is_empty txs) log)
