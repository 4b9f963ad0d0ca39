-- Messages that the client waits for, one after the other.
use Rattle.std.proofs.Common.{◌≡◌, ◌⊎◌, inl, inr, ℕ, List, Some, None, Ok, Err, ap, ◌∙◌}
use Rattle.pg_dialogue.specs.declared.wire_error.WireError.{WireError}
use Rattle.pg_dialogue.specs.declared.wire_error.WireError.TheVariants.{OutOfMemory}
use Rattle.pg_dialogue.specs.declared.wanted.Wanted.{Wanted}
use Rattle.pg_dialogue.specs.declared.wanted.News.{News}
use Rattle.pg_dialogue.specs.declared.wanted.Told.{Told}
use Rattle.pg_dialogue.specs.Messages.{Said, Silent, Broken, Says, behind}
use Rattle.pg_dialogue.specs.Replies.{reply}
use Rattle.pg_dialogue.specs.Dialogue.{Heard, Wants, Refused, Met, noted, met_with, met, then_heard, error_of, Ends}
use Rattle.pg_dialogue.specs.Links.{stop_of, StopsSaid}

-- ---- one message

met_says : (s rest : Said) (w : Wanted) (told : Told) (place kind : ℕ) (payload : List ℕ) → s ≡ Says place kind payload rest → met s w told ≡ met_with (met rest) w told (behind place payload) rest (reply w place kind payload)
unfolding met
met_says s rest w told place kind payload e = ap (λ (x : Said). met x w told) e

pub met_passed : (s rest : Said) (w : Wanted) (told : Told) (place kind : ℕ) (payload : List ℕ) → s ≡ Says place kind payload rest → reply w place kind payload ≡ Ok None → met s w told ≡ met rest w told
met_passed s rest w told place kind payload e r = met_says s rest w told place kind payload e ∙ ap (met_with (met rest) w told (behind place payload) rest) r

pub met_news : (s rest : Said) (w : Wanted) (told : Told) (news : News) (place kind : ℕ) (payload : List ℕ) → s ≡ Says place kind payload rest → reply w place kind payload ≡ Ok (Some news) → met s w told ≡ Met (noted told news) (behind place payload) rest
met_news s rest w told news place kind payload e r = met_says s rest w told place kind payload e ∙ ap (met_with (met rest) w told (behind place payload) rest) r

pub met_refused : (s rest : Said) (w : Wanted) (told : Told) (error : WireError) (place kind : ℕ) (payload : List ℕ) → s ≡ Says place kind payload rest → reply w place kind payload ≡ Err error → met s w told ≡ Refused error
met_refused s rest w told error place kind payload e r = met_says s rest w told place kind payload e ∙ ap (met_with (met rest) w told (behind place payload) rest) r

pub refuses : (s rest : Said) (w : Wanted) (told : Told) (error : WireError) (place kind : ℕ) (payload : List ℕ) → s ≡ Says place kind payload rest → (error ≡ OutOfMemory) ⊎ (reply w place kind payload ≡ Err error) → Ends error (met s w told)
refuses s rest w told error place kind payload e (inl h) = inl h
refuses s rest w told error place kind payload e (inr h) = inr (inr (ap error_of (met_refused s rest w told error place kind payload e h)))

stopped : (s : Said) (w : Wanted) (told : Told) (error : WireError) → stop_of s ≡ Some error → error_of (met s w told) ≡ Some error
unfolding met
stopped (Silent place) w told error e = e
stopped (Broken place) w told error e = e
stopped (Says place kind payload rest) w told error e = absurd cc

pub stops : (s : Said) (w : Wanted) (told : Told) (error : WireError) → StopsSaid error s → Ends error (met s w told)
stops s w told error (inl h) = inl h
stops s w told error (inr (inl h)) = inr (inl h)
stops s w told error (inr (inr h)) = inr (inr (stopped s w told error h))

-- ---- ends of what is the same

pub ends_as : (error : WireError) (one two : Heard) → one ≡ two → Ends error two → Ends error one
ends_as error one two e (inl h) = inl h
ends_as error one two e (inr (inl h)) = inr (inl h)
ends_as error one two e (inr (inr h)) = inr (inr (ap error_of e ∙ h))

pub then_ends : (error : WireError) (h : Heard) (next : Told → ℕ → Said → Heard) → Ends error h → Ends error (then_heard h next)
then_ends error h next (inl e) = inl e
then_ends error h next (inr (inl e)) = inr (inl e)
then_ends error (Wants place) next (inr (inr e)) = inr (inr e)
then_ends error (Refused x) next (inr (inr e)) = inr (inr e)
then_ends error (Met told place rest) next (inr (inr e)) = absurd cc
