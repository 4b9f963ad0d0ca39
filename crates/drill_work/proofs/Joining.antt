-- The messages of a commit, joined.
use Rattle.std.proofs.Common.{◌≡◌, ℕ, List, [], ◌∷◌, ◌++◌, map, sym, ap, ◌∙◌, append_assoc}
use Rattle.std.proofs.lemmas.List.{map-append}
use Rattle.core_events.specs.declared.event.Event.{Event}
use Rattle.drill_work.specs.declared.plain.Statement.{Statement}
use Rattle.drill_work.specs.Messages.{event_of, message_of, begin_of, commit_of, relation_before, commit_events}

pub joined : (es fs : List Event) (number : ℕ) (ss : List Statement) → fs ≡ ((((es ++ event_of (begin_of number) ∷ []) ++ map event_of (relation_before number)) ++ map event_of (map message_of ss)) ++ event_of (commit_of number) ∷ []) → fs ≡ es ++ commit_events (record { number = number; statements = ss })
joined es fs number ss h =
    let first : List Event = map event_of (relation_before number) in
    let others : List Event = map event_of (map message_of ss) in
    let last : List Event = event_of (commit_of number) ∷ [] in
    let e = event_of (begin_of number) in
    let inner : map event_of (relation_before number ++ (map message_of ss ++ commit_of number ∷ [])) ≡ first ++ (others ++ last) = map-append event_of (relation_before number) (map message_of ss ++ commit_of number ∷ []) ∙ ap (λ xs. first ++ xs) (map-append event_of (map message_of ss) (commit_of number ∷ [])) in
    h ∙ append_assoc ((es ++ e ∷ []) ++ first) others last ∙ append_assoc (es ++ e ∷ []) first (others ++ last) ∙ append_assoc es (e ∷ []) (first ++ (others ++ last)) ∙ ap (λ xs. es ++ e ∷ xs) (sym inner)
