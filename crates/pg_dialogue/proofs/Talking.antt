-- Exchanges, one after the other.
use Rattle.std.proofs.Common.{◌≡◌, inl, inr, ℕ, ◌≤◌, Bool, true, false, List, [], ◌∷◌, ◌++◌, length, Some, refl, sym, ap, subst, ◌∙◌, append_assoc, arith}
use Rattle.std.proofs.lemmas.List.{append-nil, length-append}
use Rattle.shape_base.specs.Outside.{AddsFront}
use Rattle.pg_dialogue.specs.declared.wire_error.WireError.{WireError}
use Rattle.pg_dialogue.specs.declared.wanted.Wanted.{Wanted}
use Rattle.pg_dialogue.specs.declared.wanted.Told.{Told}
use Rattle.pg_dialogue.specs.Messages.{Said}
use Rattle.pg_dialogue.specs.Dialogue.{Heard, Wants, Refused, Met, met, then_heard, answered, Exchange, Talk, talk_then, talk, error_of, Ends}
use Rattle.pg_dialogue.specs.Links.{is_outside, WritesBy}
use Rattle.pg_dialogue.proofs.Hearing.{ends_as, then_ends}

-- ---- messages

pub answered_step : (wanted : List Wanted) (w : Wanted) (ws : List Wanted) (told told1 : Told) (p p1 : ℕ) (s s1 : Said) (total : Heard) → wanted ≡ w ∷ ws → total ≡ answered wanted told p s → met s w told ≡ Met told1 p1 s1 → total ≡ answered ws told1 p1 s1
unfolding answered
answered_step wanted w ws told told1 p p1 s s1 total e so_far m =
    so_far ∙ ap (λ (xs : List Wanted). answered xs told p s) e ∙ ap (λ (h : Heard). then_heard h (answered ws)) m

pub answered_stops : (wanted : List Wanted) (w : Wanted) (ws : List Wanted) (told : Told) (p : ℕ) (s : Said) (total : Heard) (error : WireError) → wanted ≡ w ∷ ws → total ≡ answered wanted told p s → Ends error (met s w told) → Ends error total
unfolding answered
answered_stops wanted w ws told p s total error e so_far h =
    ends_as error total (then_heard (met s w told) (answered ws)) (so_far ∙ ap (λ (xs : List Wanted). answered xs told p s) e) (then_ends error (met s w told) (answered ws) h)

pub answered_all : (wanted : List Wanted) (told : Told) (p : ℕ) (s : Said) (total : Heard) → wanted ≡ [] → total ≡ answered wanted told p s → total ≡ Met told p s
unfolding answered
answered_all wanted told p s total e so_far = so_far ∙ ap (λ (xs : List Wanted). answered xs told p s) e

-- ---- exchanges

-- What is left of a talk leads to the same end, and with what was written so far to the same bytes.
pub record Leads (total now : Talk) (before written : List ℕ) : Type 0 where
  pub heard : total.heard ≡ now.heard
  pub wrote : before ++ total.written ≡ written ++ now.written
  pub longer : length before ≤ length written

pub leads_self : (total : Talk) (before : List ℕ) → Leads total total before before
leads_self total before = record { heard = refl; wrote = refl; longer = omega arith }

met_talk : (sent : List ℕ) (h : Heard) (next : Told → ℕ → Said → Talk) (told : Told) (p : ℕ) (s : Said) → h ≡ Met told p s → talk_then sent h next ≡ record { written = sent ++ (next told p s).written; heard = (next told p s).heard }
met_talk sent h next told p s e = ap (λ (x : Heard). talk_then sent x next) e

pub talk_step : (all : List Exchange) (e : Exchange) (es : List Exchange) (told told1 : Told) (p p1 : ℕ) (s s1 : Said) (total : Talk) (before written written1 : List ℕ) → all ≡ e ∷ es → Leads total (talk all told p s) before written
    → answered e.wanted told p s ≡ Met told1 p1 s1 → written1 ≡ written ++ e.sent → Leads total (talk es told1 p1 s1) before written1
unfolding talk
talk_step all e es told told1 p p1 s s1 total before written written1 same l m w =
    let now : talk all told p s ≡ record { written = e.sent ++ (talk es told1 p1 s1).written; heard = (talk es told1 p1 s1).heard } = ap (λ (xs : List Exchange). talk xs told p s) same ∙ met_talk e.sent (answered e.wanted told p s) (talk es) told1 p1 s1 m in
    record {
      heard = l.heard ∙ ap (λ (t : Talk). t.heard) now;
      wrote = l.wrote ∙ ap (λ (t : Talk). written ++ t.written) now ∙ sym (append_assoc written e.sent (talk es told1 p1 s1).written) ∙ ap (λ (xs : List ℕ). xs ++ (talk es told1 p1 s1).written) (sym w);
      longer = omega (arith, l.longer, ap length w, length-append written e.sent);
    }

ends_then : (error : WireError) (sent : List ℕ) (h : Heard) (next : Told → ℕ → Said → Talk) → Ends error h → Ends error (talk_then sent h next).heard
ends_then error sent h next (inl e) = inl e
ends_then error sent h next (inr (inl e)) = inr (inl e)
ends_then error sent (Wants place) next (inr (inr e)) = inr (inr e)
ends_then error sent (Refused x) next (inr (inr e)) = inr (inr e)
ends_then error sent (Met told place rest) next (inr (inr e)) = absurd cc

pub talk_stops : (all : List Exchange) (e : Exchange) (es : List Exchange) (told : Told) (p : ℕ) (s : Said) (total : Talk) (before written : List ℕ) (error : WireError) → all ≡ e ∷ es → Leads total (talk all told p s) before written
    → Ends error (answered e.wanted told p s) → Ends error total.heard
unfolding talk
talk_stops all e es told p s total before written error same l h =
    ends_as error total.heard (talk_then e.sent (answered e.wanted told p s) (talk es)).heard (l.heard ∙ ap (λ (xs : List Exchange). (talk xs told p s).heard) same) (ends_then error e.sent (answered e.wanted told p s) (talk es) h)

-- what a talk writes begins with its first piece
begins : (sent : List ℕ) (h : Heard) (next : Told → ℕ → Said → Talk) → (more : List ℕ) × ((talk_then sent h next).written ≡ sent ++ more)
begins sent (Wants place) next = ([], sym (append-nil sent))
begins sent (Refused x) next = ([], sym (append-nil sent))
begins sent (Met told place rest) next = ((next told place rest).written, refl)

-- and is no more, where the talk ends there
no_more : (error : WireError) (sent : List ℕ) (h : Heard) (next : Told → ℕ → Said → Talk) → error_of h ≡ Some error → (talk_then sent h next).written ≡ sent
no_more error sent (Wants place) next e = refl
no_more error sent (Refused x) next e = refl
no_more error sent (Met told place rest) next e = absurd cc

front : (e : Exchange) (h : Heard) (next : Told → ℕ → Said → Talk) (total : Talk) (before written written1 : List ℕ) → Leads total (talk_then e.sent h next) before written → AddsFront written written1 e.sent → AddsFront before written1 total.written
front e h next total before written written1 l a =
    let b = begins e.sent h next in
    record {
      longer = omega (arith, l.longer, a.longer);
      more = a.more ++ b.0;
      whole = sym (append_assoc written1 a.more b.0) ∙ ap (λ (xs : List ℕ). xs ++ b.0) a.whole ∙ append_assoc written e.sent b.0 ∙ ap (λ (xs : List ℕ). written ++ xs) (sym b.1) ∙ sym l.wrote;
    }

inside : (error : WireError) (h : Heard) → is_outside error ≡ false → Ends error h → error_of h ≡ Some error
inside error h e (inl x) = absurd (let w = ap is_outside x in cc)
inside error h e (inr (inl x)) = absurd (let w = ap is_outside x in cc)
inside error h e (inr (inr x)) = x

wrote_by : (b : Bool) (error : WireError) (e : Exchange) (h : Heard) (next : Told → ℕ → Said → Talk) (total : Talk) (before written written1 : List ℕ) → is_outside error ≡ b → Leads total (talk_then e.sent h next) before written → Ends error h
    → WritesBy b written written1 e.sent → WritesBy b before written1 total.written
wrote_by true error e h next total before written written1 t l x w = front e h next total before written written1 l w
wrote_by false error e h next total before written written1 t l x w = w ∙ ap (λ (xs : List ℕ). written ++ xs) (sym (no_more error e.sent h next (inside error h t x))) ∙ sym l.wrote

pub talk_wrote : (all : List Exchange) (e : Exchange) (es : List Exchange) (told : Told) (p : ℕ) (s : Said) (total : Talk) (before written written1 : List ℕ) (error : WireError) → all ≡ e ∷ es → Leads total (talk all told p s) before written
    → Ends error (answered e.wanted told p s) → WritesBy (is_outside error) written written1 e.sent → WritesBy (is_outside error) before written1 total.written
unfolding talk
talk_wrote all e es told p s total before written written1 error same l x w =
    wrote_by (is_outside error) error e (answered e.wanted told p s) (talk es) total before written written1 refl (subst (λ (xs : List Exchange). Leads total (talk xs told p s) before written) same l) x w

pub talk_all : (all : List Exchange) (told : Told) (p : ℕ) (s : Said) (total : Talk) (before written : List ℕ) → all ≡ [] → Leads total (talk all told p s) before written → (total.heard ≡ Met told p s) × (written ≡ before ++ total.written)
unfolding talk
talk_all all told p s total before written same l =
    let m = subst (λ (xs : List Exchange). Leads total (talk xs told p s) before written) same l in
    (m.heard, sym (append-nil written) ∙ sym m.wrote)
