-- What a client hears in a talk does not depend on what it writes.
use Rattle.std.proofs.Common.{◌≡◌, ℕ, List, [], ◌∷◌, ◌++◌, refl, sym, ◌∙◌}
use Rattle.pg_dialogue.specs.declared.wanted.Wanted.{Wanted}
use Rattle.pg_dialogue.specs.declared.wanted.Told.{Told}
use Rattle.pg_dialogue.specs.Messages.{Said}
use Rattle.pg_dialogue.specs.Dialogue as dialogue
use Rattle.pg_dialogue.specs.Dialogue.{Heard, Met, met, then_heard, answered, Exchange, Talk, talk_then, talk}
use Rattle.pg_dialogue.specs.Dialogues.{opening, closing}
use Rattle.pg_dialogue.specs.Course.{wanted_in, SnapshotWants, TalkIsHeard}

then_after : (h : Heard) (one two : Told → ℕ → Said → Heard) (both : Told → ℕ → Said → Heard) → ((told : Told) (p : ℕ) (s : Said) → both told p s ≡ then_heard (one told p s) two) → then_heard h both ≡ then_heard (then_heard h one) two
then_after (dialogue.Wants place) one two both e = refl
then_after (dialogue.Refused error) one two both e = refl
then_after (Met told place rest) one two both e = e told place rest

-- one list of messages after another
answered_both : (one two : List Wanted) (told : Told) (p : ℕ) (s : Said) → answered (one ++ two) told p s ≡ then_heard (answered one told p s) (answered two)
unfolding answered
answered_both [] two told p s = refl
answered_both (w ∷ ws) two told p s = then_after (met s w told) (answered ws) (answered two) (answered (ws ++ two)) (λ told p s. answered_both ws two told p s)

heard_then : (sent : List ℕ) (h : Heard) (next : Told → ℕ → Said → Talk) (later : Told → ℕ → Said → Heard) → ((told : Told) (p : ℕ) (s : Said) → (next told p s).heard ≡ later told p s) → (talk_then sent h next).heard ≡ then_heard h later
heard_then sent (dialogue.Wants place) next later e = refl
heard_then sent (dialogue.Refused error) next later e = refl
heard_then sent (Met told place rest) next later e = e told place rest

pub talk_heard : TalkIsHeard
unfolding talk answered
talk_heard [] told p s = refl
talk_heard (e ∷ es) told p s = heard_then e.sent (answered e.wanted told p s) (talk es) (answered (wanted_in es)) (λ told p s. talk_heard es told p s) ∙ sym (answered_both e.wanted (wanted_in es) told p s)

pub snapshots_want : SnapshotWants
unfolding opening closing
snapshots_want login table = (refl, refl)
