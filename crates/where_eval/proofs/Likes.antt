-- Laws of LIKE: going along what is asked for and the text.
use Rattle.std.proofs.Common.{◌≡◌, ◌≤◌, ℕ, Bool, true, false, ◌&&◌, ◌||◌, List, [], ◌∷◌, length, refl, sym, ap, ◌∙◌, arith, subst}
use Rattle.std.proofs.lemmas.Bool.{and_parts, or_left, or_right}
use Rattle.std.specs.Cmp.{both_ways}
use Rattle.where_eval.specs.declared.like.Piece.{Piece}
use Rattle.where_eval.specs.declared.like.Piece.TheVariants.{Run, One, Exactly}
use Rattle.where_eval.specs.Like.{is_run, takes, behind, on_some_end, fits}
use Rattle.where_eval.specs.Walks.{IsAtRun}

-- from one of two
pub either : {C : Type 0} → (a b : Bool) → (a || b) ≡ true → (a ≡ true → C) → (b ≡ true → C) → C
either true b h f g = f refl
either false b h f g = g h

pub begins : (f : List ℕ → Bool) (text : List ℕ) → f text ≡ true → on_some_end f text ≡ true
begins f [] h = h
begins f (c ∷ rest) h = or_left (f (c ∷ rest)) (on_some_end f rest) h

-- an end of the text on which a piece and then the test pass leaves an end on which the test passes
behind_ends : (x : Piece) (f : List ℕ → Bool) (text : List ℕ) → on_some_end (behind x f) text ≡ true → on_some_end f text ≡ true
behind_ends x f [] h = absurd (cc)
behind_ends x f (c ∷ rest) h = either (takes x c && f rest) (on_some_end (behind x f) rest) h
    (λ here. or_right (f (c ∷ rest)) (on_some_end f rest) (begins f rest ((and_parts (takes x c) (f rest) here).1)))
    (λ there. or_right (f (c ∷ rest)) (on_some_end f rest) (behind_ends x f rest there))

behind_end : (x : Piece) (f : List ℕ → Bool) (c : ℕ) (rest : List ℕ) → on_some_end (behind x f) (c ∷ rest) ≡ true → on_some_end f rest ≡ true
behind_end x f c rest h = either (takes x c && f rest) (on_some_end (behind x f) rest) h
    (λ here. begins f rest ((and_parts (takes x c) (f rest) here).1))
    (λ there. behind_ends x f rest there)

ends_of_ends : (f : List ℕ → Bool) (text : List ℕ) → on_some_end (on_some_end f) text ≡ true → on_some_end f text ≡ true
ends_of_ends f [] h = h
ends_of_ends f (c ∷ rest) h = either (on_some_end f (c ∷ rest)) (on_some_end (on_some_end f) rest) h
    (λ here. here)
    (λ there. or_right (f (c ∷ rest)) (on_some_end f rest) (ends_of_ends f rest there))

-- from the first pieces and text it comes to these
pub record IsWalked (pieces : List Piece) (text : List ℕ) (asked : List Piece) (left : List ℕ) : Type 0 where
  pub same : fits pieces text ≡ fits asked left
  pub later : on_some_end (fits pieces) text ≡ true → on_some_end (fits asked) left ≡ true

pub walked_none : (pieces : List Piece) (text : List ℕ) → IsWalked pieces text pieces text
walked_none pieces text = record { same = refl; later = λ h. h }

one_taken : (x : Piece) (others : List Piece) (c : ℕ) (rest : List ℕ) → takes x c ≡ true → fits (x ∷ others) (c ∷ rest) ≡ fits others rest
one_taken Run others c rest h = absurd (cc)
one_taken One others c rest h = refl
one_taken (Exactly d) others c rest h = ap (λ b. b && fits others rest) h

one_later : (x : Piece) (others : List Piece) (c : ℕ) (rest : List ℕ) → takes x c ≡ true → on_some_end (fits (x ∷ others)) (c ∷ rest) ≡ true → on_some_end (fits others) rest ≡ true
one_later Run others c rest t h = absurd (cc)
one_later One others c rest t h = behind_end One (fits others) c rest h
one_later (Exactly d) others c rest t h = behind_end (Exactly d) (fits others) c rest h

pub walked_one : (pieces asked others : List Piece) (text left rest : List ℕ) (x : Piece) (c : ℕ) → IsWalked pieces text asked left → asked ≡ x ∷ others → left ≡ c ∷ rest → takes x c ≡ true → IsWalked pieces text others rest
walked_one pieces asked others text left rest x c w a l t =
    let v : IsWalked pieces text (x ∷ others) (c ∷ rest) = subst (λ u. IsWalked pieces text (x ∷ others) u) l (subst (λ u. IsWalked pieces text u left) a w) in
    record { same = v.same ∙ one_taken x others c rest t; later = λ h. one_later x others c rest t (v.later h) }

none_taken : (x : Piece) (others : List Piece) → is_run x ≡ false → fits (x ∷ others) [] ≡ false
none_taken Run others h = absurd (cc)
none_taken One others h = refl
none_taken (Exactly d) others h = refl

not_taken : (x : Piece) (others : List Piece) (c : ℕ) (rest : List ℕ) → is_run x ≡ false → takes x c ≡ false → fits (x ∷ others) (c ∷ rest) ≡ false
not_taken Run others c rest h t = absurd (cc)
not_taken One others c rest h t = absurd (cc)
not_taken (Exactly d) others c rest h t = ap (λ b. b && fits others rest) t

pub stuck_at_end : (pieces asked others : List Piece) (text left : List ℕ) (x : Piece) → IsWalked pieces text asked left → asked ≡ x ∷ others → left ≡ [] → is_run x ≡ false → fits pieces text ≡ false
stuck_at_end pieces asked others text left x w a l r = w.same ∙ (ap (λ u. fits u left) a ∙ (ap (fits (x ∷ others)) l ∙ none_taken x others r))

pub stuck_at : (pieces asked others : List Piece) (text left rest : List ℕ) (x : Piece) (c : ℕ) → IsWalked pieces text asked left → asked ≡ x ∷ others → left ≡ c ∷ rest → is_run x ≡ false → takes x c ≡ false → fits pieces text ≡ false
stuck_at pieces asked others text left rest x c w a l r t = w.same ∙ (ap (λ u. fits u left) a ∙ (ap (fits (x ∷ others)) l ∙ not_taken x others c rest r t))

pub stuck_behind : (pieces asked : List Piece) (text left rest : List ℕ) (c : ℕ) → IsWalked pieces text asked left → asked ≡ [] → left ≡ c ∷ rest → fits pieces text ≡ false
stuck_behind pieces asked text left rest c w a l = w.same ∙ (ap (λ u. fits u left) a ∙ ap (fits []) l)

pub to_its_end : (pieces asked : List Piece) (text left : List ℕ) → IsWalked pieces text asked left → asked ≡ [] → left ≡ [] → fits pieces text ≡ true
to_its_end pieces asked text left w a l = w.same ∙ (ap (λ u. fits u left) a ∙ ap (fits []) l)

a_run : (x : Piece) → is_run x ≡ true → x ≡ Run
a_run Run h = refl
a_run One h = absurd (cc)
a_run (Exactly d) h = absurd (cc)

-- it comes to a run
pub at_run : (pieces asked others : List Piece) (text left : List ℕ) (x : Piece) → IsWalked pieces text asked left → asked ≡ x ∷ others → is_run x ≡ true → length asked ≤ length pieces → length left ≤ length text → IsAtRun pieces text others left
at_run pieces asked others text left x w a r fewer shorter =
    let cut : asked ≡ Run ∷ others = a ∙ ap (λ y. y ∷ others) (a_run x r) in
    let v : IsWalked pieces text (Run ∷ others) left = subst (λ u. IsWalked pieces text u left) cut w in
    let size : length asked ≡ length (x ∷ others) = ap length a in
    record { here = v.same; later = both_ways (fits (Run ∷ pieces) text) (fits (Run ∷ others) left) (λ h. ends_of_ends (fits others) left (v.later h)) (λ h. begins (fits pieces) text (v.same ∙ h)); fewer = omega (arith, size, fewer); shorter = shorter }

-- a run before the pieces, or none
abbrev pub led : Bool → List Piece → List Piece
led true pieces = Run ∷ pieces
led false pieces = pieces

pub led_whole : (b : Bool) (pieces : List Piece) (text : List ℕ) → fits pieces text ≡ true → fits (led b pieces) text ≡ true
led_whole true pieces text h = begins (fits pieces) text h
led_whole false pieces text h = h

pub led_run : (b : Bool) (pieces others : List Piece) (text rest : List ℕ) → IsAtRun pieces text others rest → fits (led b pieces) text ≡ fits (led true others) rest
led_run true pieces others text rest r = r.later
led_run false pieces others text rest r = r.here

pub led_stuck : (b : Bool) (pieces : List Piece) (text rest : List ℕ) (c : ℕ) → b ≡ true → fits pieces text ≡ false → text ≡ c ∷ rest → fits (led b pieces) text ≡ fits (led b pieces) rest
led_stuck true pieces text rest c b h e = let g : fits pieces (c ∷ rest) ≡ false = ap (fits pieces) (sym e) ∙ h in ap (fits (Run ∷ pieces)) e ∙ ap (λ u. u || on_some_end (fits pieces) rest) g
led_stuck false pieces text rest c b h e = absurd (cc)

pub led_end : (b : Bool) (pieces : List Piece) (text : List ℕ) → fits pieces text ≡ false → text ≡ [] → fits (led b pieces) text ≡ false
led_end true pieces text h e = ap (fits (Run ∷ pieces)) e ∙ (ap (fits pieces) (sym e) ∙ h)
led_end false pieces text h e = h
