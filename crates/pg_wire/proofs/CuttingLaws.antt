-- Frames that are taken while their bytes come in pieces are those of all the bytes.
use Rattle.std.proofs.Common.{◌≡◌, ◌⊎◌, inl, inr, ℕ, zero, suc, ◌+◌, ◌<◌, ◌≤◌, List, [], ◌∷◌, ◌++◌, length, drop, Option, None, Some, refl, sym, ap, subst, ◌∙◌, append_assoc, arith}
use Rattle.std.proofs.lemmas.List.{append-nil, length-append, length-drop, drop-append-le}
use Rattle.pg_wire.specs.declared.frame.Frame.{Frame}
use Rattle.pg_wire.specs.declared.frame.FrameError.{FrameError}
use Rattle.pg_wire.specs.declared.frame.FrameError.TheVariants as errors
use Rattle.pg_wire.specs.Reached.{Reached}
use Rattle.pg_wire.specs.FrameList.{whole_at, Beginning, Unfinished, Framed, Refused, beginning, Held, ended, one_more, held_of, held_within, held_from, frames_of}
use Rattle.pg_wire.specs.Cutting.{after, Leads, start, Took, Moves}
use Rattle.pg_wire.proofs.FrameLaws.{front_stays, front_size}

-- ---- the bound on the steps is never met

front_none : (place : ℕ) → beginning place [] ≡ Unfinished
unfolding beginning whole_at
front_none place = refl

none_held : (n place : ℕ) → held_within n place [] ≡ ended None
unfolding held_within
none_held zero place = refl
none_held (suc n) place = ap (held_of (held_within n) place []) (front_none place)

same_later : (one two : ℕ → List ℕ → Held) (place : ℕ) (bytes : List ℕ) (f : Beginning) → ((given : Option Frame) (size : ℕ) → f ≡ Framed given size → one (place + size) (drop size bytes) ≡ two (place + size) (drop size bytes))
    → held_of one place bytes f ≡ held_of two place bytes f
same_later one two place bytes Unfinished same = refl
same_later one two place bytes (Refused error) same = refl
same_later one two place bytes (Framed given size) same = ap (one_more given) (same given size refl)

enough : (n m place : ℕ) (bytes : List ℕ) → length bytes ≤ n → length bytes ≤ m → held_within n place bytes ≡ held_within m place bytes
unfolding held_within
enough n m place [] p q = none_held n place ∙ sym (none_held m place)
enough zero m place (b ∷ bytes) p q = absurd (omega (arith, p))
enough (suc n) zero place (b ∷ bytes) p q = absurd (omega (arith, q))
enough (suc n) (suc m) place (b ∷ bytes) p q = same_later (held_within n) (held_within m) place (b ∷ bytes) (beginning place (b ∷ bytes)) (λ given size e.
    let w = front_size place (b ∷ bytes) given size e in
    let len = length-drop size (b ∷ bytes) in
    enough n m (place + size) (drop size (b ∷ bytes)) (omega (arith, p, w.some, len)) (omega (arith, q, w.some, len)))

held_step : (place : ℕ) (bytes : List ℕ) → held_from place bytes ≡ held_of held_from place bytes (beginning place bytes)
unfolding held_within held_from
held_step place [] = ap (held_of held_from place []) (sym (front_none place))
held_step place (b ∷ bytes) = same_later (held_within (length bytes)) held_from place (b ∷ bytes) (beginning place (b ∷ bytes)) (λ given size e.
    let w = front_size place (b ∷ bytes) given size e in
    let len = length-drop size (b ∷ bytes) in
    enough (length bytes) (length (drop size (b ∷ bytes))) (place + size) (drop size (b ∷ bytes)) (omega (arith, w.some, len)) (omega (arith, len)))

-- ---- steps

abbrev pub listed : Option Frame → List Frame
listed None = []
listed (Some frame) = frame ∷ []

one_more_is : (given : Option Frame) (held : Held) → one_more given held ≡ after (listed given) held
one_more_is None held = refl
one_more_is (Some frame) held = refl

framed : (place : ℕ) (bytes : List ℕ) (given : Option Frame) (size : ℕ) → beginning place bytes ≡ Framed given size → held_from place bytes ≡ after (listed given) (held_from (place + size) (drop size bytes))
framed place bytes given size e = held_step place bytes ∙ ap (held_of held_from place bytes) e ∙ one_more_is given (held_from (place + size) (drop size bytes))

stays_framed : (place : ℕ) (bytes more : List ℕ) (given : Option Frame) (size : ℕ) → beginning place bytes ≡ Framed given size → beginning place (bytes ++ more) ≡ Framed given size
stays_framed place bytes more given size e =
    elim (front_stays place bytes more) [
      | inl h ↦ absurd (let k = sym h ∙ e in cc)
      | inr h ↦ h ∙ e
    ]

pub leads_self : (s : Reached) → Leads s [] s
leads_self s = record { fed = refl; ahead = λ more. refl }

pub leads_step : (old new : Reached) (given : Option Frame) → Moves old given new → Leads old (listed given) new
leads_step old new given m =
    let w = front_size old.place old.rest given m.size m.framed in
    record {
      fed = omega (arith, m.place, ap length m.rest, length-drop m.size old.rest, w.inside);
      ahead = λ more.
          framed old.place (old.rest ++ more) given m.size (stays_framed old.place old.rest more given m.size m.framed)
          ∙ ap (λ (bytes : List ℕ). after (listed given) (held_from (old.place + m.size) bytes)) (drop-append-le m.size old.rest more w.inside ∙ ap (λ (bytes : List ℕ). bytes ++ more) (sym m.rest))
          ∙ ap (λ (place : ℕ). after (listed given) (held_from place (new.rest ++ more))) (sym m.place);
    }

pub leads_then : (a b c : Reached) (xs ys : List Frame) → Leads a xs b → Leads b ys c → Leads a (xs ++ ys) c
leads_then a b c xs ys p q = record {
  fed = p.fed ∙ q.fed;
  ahead = λ more.
      let h = held_from c.place (c.rest ++ more) in
      p.ahead more ∙ ap (after xs) (q.ahead more) ∙ ap (λ (fs : List Frame). record { frames = fs; refusal = h.refusal }) (sym (append_assoc xs ys h.frames));
}

pub took_fed : (fed piece : List ℕ) (taken : List Frame) (old new : Reached) → new.place ≡ old.place → new.rest ≡ old.rest ++ piece → Took fed taken old → Took (fed ++ piece) taken new
took_fed fed piece taken old new same grown p = record {
  fed = omega (arith, same, ap length grown, length-append old.rest piece, length-append fed piece, p.fed);
  ahead = λ more.
      ap (held_from 0) (append_assoc fed piece more) ∙ p.ahead (piece ++ more)
      ∙ ap (λ (bytes : List ℕ). after taken (held_from old.place bytes)) (sym (append_assoc old.rest piece more) ∙ ap (λ (bytes : List ℕ). bytes ++ more) (sym grown))
      ∙ ap (λ (place : ℕ). after taken (held_from place (new.rest ++ more))) (sym same);
}

-- ---- ends

took_end : (fed more : List ℕ) (taken : List Frame) (now : Reached) (f : Beginning) (refusal : Option FrameError) → Took fed taken now → beginning now.place (now.rest ++ more) ≡ f
    → held_of held_from now.place (now.rest ++ more) f ≡ ended refusal → frames_of (fed ++ more) ≡ record { frames = taken; refusal = refusal }
took_end fed more taken now f refusal p e h =
    p.ahead more ∙ ap (after taken) (held_step now.place (now.rest ++ more) ∙ ap (held_of held_from now.place (now.rest ++ more)) e ∙ h)
    ∙ ap (λ (fs : List Frame). record { frames = fs; refusal = refusal }) (append-nil taken)

pub took_all : (fed : List ℕ) (taken : List Frame) (now : Reached) → Took fed taken now → beginning now.place now.rest ≡ Unfinished → frames_of fed ≡ record { frames = taken; refusal = None }
took_all fed taken now p e =
    ap (held_from 0) (sym (append-nil fed)) ∙ took_end fed [] taken now Unfinished None p (ap (beginning now.place) (append-nil now.rest) ∙ e) refl

pub stays_refused : (place : ℕ) (bytes more : List ℕ) (error : FrameError) → beginning place bytes ≡ Refused error → beginning place (bytes ++ more) ≡ Refused error
stays_refused place bytes more error e =
    elim (front_stays place bytes more) [
      | inl h ↦ absurd (let k = sym h ∙ e in cc)
      | inr h ↦ h ∙ e
    ]

-- whatever is fed behind
pub took_refused : (fed more : List ℕ) (taken : List Frame) (now : Reached) (error : FrameError) → Took fed taken now → beginning now.place now.rest ≡ Refused error → frames_of (fed ++ more) ≡ record { frames = taken; refusal = Some error }
took_refused fed more taken now error p e = took_end fed more taken now (Refused error) (Some error) p (stays_refused now.place now.rest more error e) refl

-- ---- the turns of the loop

pub later : (fed : List ℕ) (taken : List Frame) (old now : Reached) → Took fed taken old → Leads old [] now → Took fed taken now
later fed taken old now t p = subst (λ (fs : List Frame). Took fed fs now) (append-nil taken) (leads_then (start fed) old now taken [] t p)

pub moves_smaller : (old new : Reached) (given : Option Frame) → Moves old given new → length new.rest < length old.rest
moves_smaller old new given m =
    let w = front_size old.place old.rest given m.size m.framed in
    omega (arith, ap length m.rest, length-drop m.size old.rest, w.some, w.inside)

pub refuses : (e : FrameError) (old now : Reached) → Leads old [] now → (e ≡ errors.OutOfMemory) ⊎ (beginning now.place now.rest ≡ Refused e)
    → (e ≡ errors.OutOfMemory) ⊎ ((fed more : List ℕ) (taken : List Frame) → Took fed taken old → frames_of (fed ++ more) ≡ record { frames = taken; refusal = Some e })
refuses e old now p (inl h) = inl h
refuses e old now p (inr h) = inr (λ fed more taken t. took_refused fed more taken now e (later fed taken old now t p) h)
