use Rattle.std.proofs.Common.{◌≡◌, ap, sym, ◌∙◌}
use Rattle.std.proofs.lemmas.List.{append-nil}
use Rattle.std.proofs.lemmas.Result.{err_from_is_err_and}
use Rattle.script_play.proofs.Moves.{declared_next, passed_next, brought_next, event_stops, ends_last, end_stops, is_refused}
use Rattle.script_play.proofs.playing.play_item.Goals as goal

pub bring_on-requires-clause-started : goal.bring_on-requires-clause-started
bring_on-requires-clause-started g c = c.in_ok-start-in-Brings.ensures.started

pub returns-in_err-bring_on-in-Brings-clause-turn : goal.returns-in_err-bring_on-in-Brings-clause-turn
returns-in_err-bring_on-in-Brings-clause-turn g c words first outs limits staged =
    let p = err_from_is_err_and c.from_residual-in_err-bring_on-in-Brings.result c.from_residual-in_err-bring_on-in-Brings.ensures.1 in
    let step = rw c.deref.ensures.value at (rw c.is_some.ensures at (sym c.in-Brings.is ∙ c.in_ok-table.ensures.step)) in
    rw (p.1, p.2) (event_stops words _ _ _ _ _ first _ outs _ _ _ c.bring_on.new.stage c.in_err-bring_on-in-Brings.field-0.0 (c.in_ok-start-in-Brings.ensures.going words _ first outs limits staged) step c.in_err-bring_on-in-Brings.ensures.brought)

pub returns-in_err-write_end-in-Ends-clause-turn : goal.returns-in_err-write_end-in-Ends-clause-turn
returns-in_err-write_end-in-Ends-clause-turn g c words first outs limits staged =
    let p = err_from_is_err_and c.from_residual-in_err-write_end-in-Ends.result c.from_residual-in_err-write_end-in-Ends.ensures.1 in
    let step = rw c.deref.ensures.value at (rw c.is_some.ensures at (sym c.in-Ends.is ∙ c.in_ok-table.ensures.step)) in
    let last = ends_last words _ _ _ _ first _ outs _ (c.in_ok-start-in-Ends.ensures.going words c.args.place first outs limits staged) step c.exchanges_in.ensures in
    rw (p.1, p.2) (end_stops words c.args.place first _ outs _ _ _ c.start-in-Ends.new.stage c.in_err-write_end-in-Ends.field-0.0 last c.in_err-write_end-in-Ends.ensures.wrote)

pub returns-in_ok-declare-in-Declares-clause-turn : goal.returns-in_ok-declare-in-Declares-clause-turn
returns-in_ok-declare-in-Declares-clause-turn g c words first outs limits staged =
    let step = rw c.deref.ensures.value at (rw c.is_some.ensures at (sym c.in-Declares.is ∙ c.in_ok-table.ensures.step)) in
    declared_next words _ _ _ first _ outs _ _ _ staged step c.in_ok-declare-in-Declares.ensures.declared c.in_ok-declare-in-Declares.ensures.core (λ t. sym (append-nil _))

pub returns-in_ok-start-in-Passes-clause-turn : goal.returns-in_ok-start-in-Passes-clause-turn
returns-in_ok-start-in-Passes-clause-turn g c words first outs limits staged =
    let step = rw c.deref.ensures.value at (rw c.is_some.ensures at (sym c.in-Passes.is ∙ c.in_ok-table.ensures.step)) in
    passed_next words _ _ _ first _ outs _ _ (c.in_ok-start-in-Passes.ensures.going words _ first outs limits staged) step (ap (λ v. v.items) c.in_ok-start-in-Passes.ensures.declared) (λ t. sym (append-nil _))

pub returns-in_ok-bring_on-in-Brings-clause-turn : goal.returns-in_ok-bring_on-in-Brings-clause-turn
returns-in_ok-bring_on-in-Brings-clause-turn g c words first outs limits staged =
    let step = rw c.deref.ensures.value at (rw c.is_some.ensures at (sym c.in-Brings.is ∙ c.in_ok-table.ensures.step)) in
    brought_next words _ _ _ _ first _ outs _ _ _ _ _ (c.in_ok-start-in-Brings.ensures.going words _ first outs limits staged) step c.in_ok-bring_on-in-Brings.ensures.brought
    (ap (λ v. v.items) (c.in_ok-bring_on-in-Brings.ensures.declared ∙ c.in_ok-start-in-Brings.ensures.declared))

pub returns-in_ok-write_end-in-Ends-clause-turn : goal.returns-in_ok-write_end-in-Ends-clause-turn
returns-in_ok-write_end-in-Ends-clause-turn g c words first outs limits staged =
    let step = rw c.deref.ensures.value at (rw c.is_some.ensures at (sym c.in-Ends.is ∙ c.in_ok-table.ensures.step)) in
    record {
      exchanges = c.exchanges_in.result;
      last = ends_last words _ _ _ _ first _ outs _ (c.in_ok-start-in-Ends.ensures.going words c.args.place first outs limits staged) step c.exchanges_in.ensures;
      written = c.in_ok-write_end-in-Ends.ensures.wrote;
    }

pub returns-in-Refused-clause-turn : goal.returns-in-Refused-clause-turn
returns-in-Refused-clause-turn g c words first outs limits staged =
    let step = rw c.deref.ensures.value at (rw c.is_some.ensures at (sym c.in-Refused.is ∙ c.in_ok-table.ensures.step)) in
    (is_refused words _ _ _ _ first _ outs _ c.requires.keys limits staged step, λ t. sym (append-nil _))
