use Rattle.std.proofs.Common.{sym, ap, ◌∙◌, arith, ℕ}
use Rattle.std.proofs.lemmas.Result.{err_from_is_err_and}
use Rattle.pg_dialogue.specs.declared.wanted.Told.{Told}
use Rattle.pg_dialogue.specs.Messages.{behind}
use Rattle.pg_dialogue.specs.Dialogue.{Met, noted}
use Rattle.pg_dialogue.specs.Links.{to_come}
use Rattle.pg_dialogue.specs.Replies.{reply}
use Rattle.pg_dialogue.proofs.Filling.{takes_then}
use Rattle.pg_dialogue.proofs.Hearing.{met_passed, met_news, refuses, stops, ends_as}
use Rattle.pg_dialogue.proofs.Causes.{no_link_answer}
use Rattle.pg_dialogue.proofs.inbox.Inbox.meet.Goals as goal

pub returns-in_err-kind-clause-read : goal.returns-in_err-kind-clause-read
returns-in_err-kind-clause-read g c t =
    let p = err_from_is_err_and c.from_residual.result c.from_residual.ensures.1 in
    rw (p.1, p.2) (ends_as c.in_err-kind.field-0.0 _ _ (c.messages.invariant.same t) (stops _ c.args.wanted c.args.told.now c.in_err-kind.field-0.0 (c.in_err-kind.ensures.err t)))

pub messages-preserved : goal.messages-preserved
messages-preserved g c = record {
  took = λ t. takes_then (c.messages.invariant.took t) (c.message.ensures.took t);
  same = λ t. c.messages.invariant.same t ∙ met_passed _ _ c.args.wanted c.args.told.now c.messages.self.place c.in_ok-kind.kind c.message.new.self.payload.items (c.in_ok-kind.ensures.ok t)
      (ap (reply c.args.wanted c.messages.self.place c.in_ok-kind.kind) (sym c.as_slice.ensures.value) ∙ (rw c.in-Ok-None.field-0-is at c.in-Ok-None.ensures));
  told = c.messages.invariant.told;
  size = omega (arith, c.messages.invariant.size, c.in_ok-kind.ensures.size);
  later = omega (arith, c.messages.invariant.later, c.message.ensures.later);
  written = c.message.ensures.written ∙ c.messages.invariant.written;
  writes = c.message.ensures.writes ∙ c.messages.invariant.writes;
}

pub returns-in-Ok-Some-clause-read : goal.returns-in-Ok-Some-clause-read
returns-in-Ok-Some-clause-read g c t =
    let rest = to_come c.message.new.self.place (g.P.Traffic.left c.message.new.link) in
    c.messages.invariant.same t ∙ met_news _ rest c.args.wanted c.args.told.now c.in-Ok-Some.news c.messages.self.place c.in_ok-kind.kind c.message.new.self.payload.items (c.in_ok-kind.ensures.ok t)
    (ap (reply c.args.wanted c.messages.self.place c.in_ok-kind.kind) (sym c.as_slice.ensures.value) ∙ (rw c.in-Ok-Some.field-0-is at c.in-Ok-Some.ensures))
    ∙ ap (λ (x : Told). Met x (behind c.messages.self.place c.message.new.self.payload.items) rest) (ap (λ (x : Told). noted x c.in-Ok-Some.news) (sym c.messages.invariant.told) ∙ sym c.note.ensures)
    ∙ ap (λ (n : ℕ). Met c.note.new.self n rest) (sym (c.in_ok-kind.ensures.behind t))

pub returns-in-Err-clause-read : goal.returns-in-Err-clause-read
returns-in-Err-clause-read g c t =
    ends_as c.in-Err.error _ _ (c.messages.invariant.same t)
    (refuses _ _ c.args.wanted c.args.told.now c.in-Err.error c.messages.self.place c.in_ok-kind.kind c.message.new.self.payload.items (c.in_ok-kind.ensures.ok t) (rw c.as_slice.ensures.value at c.in-Err.ensures))

pub returns-in-Err-clause-fault : goal.returns-in-Err-clause-fault
returns-in-Err-clause-fault g c h = absurd (no_link_answer c.args.wanted c.messages.self.place c.in_ok-kind.kind c.as_slice.result.now c.in-Err.error c.in-Err.ensures h)
