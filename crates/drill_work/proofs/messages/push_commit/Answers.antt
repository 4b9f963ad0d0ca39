use Rattle.std.proofs.Common.{◌++◌, ◌∷◌, [], List, ap, ◌∙◌, map}
use Rattle.core_events.specs.declared.event.Event.{Event}
use Rattle.drill_work.specs.Messages.{event_of, message_of, relation_before, commit_of}
use Rattle.drill_work.proofs.Joining.{joined}
use Rattle.drill_work.proofs.messages.push_commit.Goals as goal

pub returns : goal.returns
returns c =
    let number = c.args.commit.now.number in
    joined c.args.events.now c.push_end.new.events number c.args.commit.now.statements
    (c.in_ok-push_end.ensures ∙ ap (λ (es : List Event). es ++ event_of (commit_of number) ∷ []) (c.in_ok-push_statements.ensures
    ∙ ap (λ (es : List Event). es ++ map event_of (map message_of c.args.commit.now.statements)) (c.in_ok-push_relation.ensures
    ∙ ap (λ (es : List Event). es ++ map event_of (relation_before number)) c.in_ok-push_begin.ensures)))
