use Rattle.std.proofs.Common.{ℕ, List, [], Err, refl, ap, sym, ◌∙◌, arith}
use Rattle.std.proofs.lemmas.Result.{err_from_is_err_and}
use Rattle.script.specs.declared.reading.ReadStop.{ReadStop}
use Rattle.script.specs.Items.{items_of}
use Rattle.script.specs.Reading.{since}
use Rattle.script.proofs.Filling.{consumes_none, consumes_then, since_step, beyond_of}
use Rattle.script_play.proofs.ItemLists.{longer_is}
use Rattle.script_play.proofs.Rounds.{Whole, nothing_written, first_round, next_round, staged_at, all_read, read_off, not_read, record_ends, record_stops, stops_short, stops_unended, items_within, items_all, items_read}
use Rattle.script_play.proofs.replaying.play.Goals as goal

pub records-init : goal.records-init
records-init g c = record {
  sound = c.new-stage.ensures.sound;
  within = omega arith;
  took = λ t. consumes_none _ _ _;
  round = λ words limits t. first_round words _ (g.S.Traffic.given c.args.input.now) _ (c.new-stage.ensures.staged words) (nothing_written _ _);
  reads_later = omega arith;
  writes_later = omega arith;
}

pub returns-in_err-item-clause-came_out : goal.returns-in_err-item-clause-came_out
returns-in_err-item-clause-came_out g c words limits t =
    let p = err_from_is_err_and c.from_residual.result c.from_residual.ensures.1 in
    let so_far = c.records.invariant.took t in
    let then = c.in_err-item.ensures.took t in
    rw (p.1, p.2) (not_read words _ _ _ _ _ _ _ _ _ c.records.stage c.args.limits c.in_err-item.field-0.0 (c.records.invariant.round words limits t) c.records.invariant.sound limits (items_within so_far then) (items_read _ so_far then.came)
    (λ e. c.in_err-item.ensures.part t (ap (λ (s : ReadStop). Err s) e)))

pub returns-in_err-has_more-clause-came_out : goal.returns-in_err-has_more-clause-came_out
returns-in_err-has_more-clause-came_out g c words limits t =
    let p = err_from_is_err_and c.from_residual-in_err-has_more.result c.from_residual-in_err-has_more.ensures.1 in
    let so_far = c.records.invariant.took t in
    let then = c.in_ok-item.ensures.took t in
    let none = rw c.in_default.is at (c.in_ok-item.ensures.next t) in
    let came = ap (λ (given : List ℕ). items_of (since (g.S.Traffic.given c.args.input.now) given)) (c.in_err-has_more.ensures.kept t) ∙ items_read _ so_far then.came in
    rw (p.1, p.2, c.in_err-has_more.ensures.causes) (read_off words _ _ _ _ _ c.records.stage _ c.args.limits (c.records.invariant.round words limits t) c.records.invariant.sound limits (items_within so_far then) came none.0)

pub returns-then-branch-clause-came_out : goal.returns-then-branch-clause-came_out
returns-then-branch-clause-came_out g c words limits t =
    let so_far = c.records.invariant.took t in
    let then = c.in_ok-item.ensures.took t in
    let none = rw c.in_default.is at (c.in_ok-item.ensures.next t) in
    let longer = longer_is c.args.limit (g.S.Traffic.left c.args.input.now) _ (beyond_of so_far ∙ beyond_of then) ∙ sym (c.in_ok-has_more.ensures.more t) in
    let piece = since (g.S.Traffic.given c.records.input) (g.S.Traffic.given c.next_item.new.source) in
    let writes = Whole g.K.Traffic.tells (g.K.Traffic.written c.args.out.now) (g.K.Traffic.written c.records.out) in
    stops_short words _ [] _ _ writes writes longer (all_read words _ piece _ c.records.stage writes _ c.args.limits (c.records.invariant.round words limits t) c.records.invariant.sound limits (items_all so_far then none.1) none.0 refl) c.if-branch.true

pub returns-in_default-clause-came_out : goal.returns-in_default-clause-came_out
returns-in_default-clause-came_out g c words limits t =
    let so_far = c.records.invariant.took t in
    let then = c.in_ok-item.ensures.took t in
    let none = rw c.in_default.is at (c.in_ok-item.ensures.next t) in
    let longer = longer_is c.args.limit (g.S.Traffic.left c.args.input.now) _ (beyond_of so_far ∙ beyond_of then) ∙ sym (c.in_ok-has_more.ensures.more t) in
    let piece = since (g.S.Traffic.given c.records.input) (g.S.Traffic.given c.next_item.new.source) in
    let writes = Whole g.K.Traffic.tells (g.K.Traffic.written c.args.out.now) (g.K.Traffic.written c.records.out) in
    stops_unended words _ [] _ _ writes writes longer (all_read words _ piece _ c.records.stage writes _ c.args.limits (c.records.invariant.round words limits t) c.records.invariant.sound limits (items_all so_far then none.1) none.0 refl) c.if-branch.false

pub returns-in_err-play_item-clause-came_out : goal.returns-in_err-play_item-clause-came_out
returns-in_err-play_item-clause-came_out g c words limits t =
    let p = err_from_is_err_and c.from_residual-in_err-play_item.result c.from_residual-in_err-play_item.ensures.1 in
    let so_far = c.records.invariant.took t in
    let then = c.in_ok-item.ensures.took t in
    let r = c.records.invariant.round words limits t in
    let some = rw c.in-Some.is at (c.in_ok-item.ensures.next t) in
    let turn = c.in_err-play_item.ensures.turn words r.first r.outs limits (staged_at words _ c.records.stage _ _ r (omega (arith, so_far.size))) in
    rw (p.1, p.2) (record_stops words _ _ _ _ _ _ _ _ _ _ c.records.stage c.play_item.new.stage _ c.args.limits 0 c.in_err-play_item.field-0.0 r c.records.invariant.sound limits (items_within so_far then) some turn)

pub returns-then-not-branch-clause-came_out : goal.returns-then-not-branch-clause-came_out
returns-then-not-branch-clause-came_out g c words limits t =
    let so_far = c.records.invariant.took t in
    let then = c.in_ok-item.ensures.took t in
    let r = c.records.invariant.round words limits t in
    let some = rw c.in-Some.is at (c.in_ok-item.ensures.next t) in
    let turn = rw c.if-not-branch.true at (c.in_ok-play_item.ensures.turn words r.first r.outs limits (staged_at words _ c.records.stage _ _ r (omega (arith, so_far.size)))) in
    record_ends words _ _ _ _ _ _ _ [] _ _ c.records.stage _ tt r (items_within so_far then) some turn

pub records-preserved : goal.records-preserved
records-preserved g c =
    let size = rw c.in-Some.is at c.in_ok-item.ensures.size in
    record {
      sound = c.in_ok-play_item.ensures.sound;
      within = omega (arith, size, c.records.invariant.within);
      took = λ t. consumes_then (c.records.invariant.took t) (c.in_ok-item.ensures.took t);
      round = λ words limits t.
          let so_far = c.records.invariant.took t in
          let then = c.in_ok-item.ensures.took t in
          let r = c.records.invariant.round words limits t in
          let some = rw c.in-Some.is at (c.in_ok-item.ensures.next t) in
          let turn = rw c.if-not-branch.false at (c.in_ok-play_item.ensures.turn words r.first r.outs limits (staged_at words _ c.records.stage _ _ r (omega (arith, so_far.size)))) in
          next_round words _ _ _ _ _ _ _ c.records.stage _ _ _ r (since_step _ _ so_far then.came) (omega (arith, size, then.size)) (omega (arith, so_far.size)) some turn;
      reads_later = omega (arith, c.records.invariant.reads_later, c.in_ok-item.ensures.later);
      writes_later = omega (arith, c.records.invariant.writes_later, c.in_ok-play_item.ensures.later);
    }
