-- Texts with their commas, and the places behind them.
use Rattle.std.proofs.Common.{◌≡◌, ℕ, zero, suc, ◌+◌, ◌-◌, ◌<◌, ◌≤◌, List, [], ◌∷◌, ◌++◌, length, map, take, drop, refl, sym, ap, ap₂, ◌∙◌, arith, append_assoc, append-nil, length-append}
use Rattle.std.specs.Prelude.{slice_range, slice_index}
use Rattle.std.specs.List.{sum, flat_map}
use Rattle.std.proofs.Math.Seq.{take-append-add, take-append_seam}
use Rattle.std.proofs.lemmas.List.Sums.{sum_by-append}
use Rattle.std.proofs.lemmas.List.{take-append-drop, length-take-le, length-drop}
use Rattle.shape_log.specs.Texts.{closed_by_commas, joined, positions, position, pieces}
use Rattle.shape_log.proofs.Parts.{between_behind}

pub pieces_length : (start : ℕ) (ends bytes : List ℕ) → length (pieces start ends bytes) ≡ length ends
pieces_length start [] bytes = refl
pieces_length start (end ∷ ends) bytes = ap suc (pieces_length end ends bytes)

pub closed_length : (ts : List (List ℕ)) → length (closed_by_commas ts) ≡ sum (map length ts) + length ts
closed_length [] = refl
closed_length (t ∷ ts) =
    let e : sum (map length (t ∷ ts)) ≡ sum (length t ∷ []) + sum (map length ts) = sum_by-append (λ x. x) (length t ∷ []) (map length ts) in
    let f : sum (length t ∷ []) ≡ length t = omega arith in
    omega (arith, e, f, length-append (t ++ 44 ∷ []) (closed_by_commas ts), length-append t (44 ∷ []), closed_length ts)

closed_more : (ts us : List (List ℕ)) → closed_by_commas (ts ++ us) ≡ closed_by_commas ts ++ closed_by_commas us
closed_more [] us = refl
closed_more (t ∷ ts) us = ap (λ (zs : List ℕ). (t ++ 44 ∷ []) ++ zs) (closed_more ts us) ∙ sym (append_assoc (t ++ 44 ∷ []) (closed_by_commas ts) (closed_by_commas us))

positions_more : (start : ℕ) (ts : List (List ℕ)) (t : List ℕ) → positions start (ts ++ t ∷ []) ≡ positions start ts ++ (start + length (closed_by_commas ts) + length t + 1) ∷ []
positions_more start [] t = ap (λ (n : ℕ). n ∷ []) (let e : start + length t + 1 ≡ start + 0 + length t + 1 = omega arith in e)
positions_more start (u ∷ ts) t =
    let e : start + length u + 1 + length (closed_by_commas ts) + length t + 1 ≡ start + length ((u ++ 44 ∷ []) ++ closed_by_commas ts) + length t + 1 = omega (arith, length-append (u ++ 44 ∷ []) (closed_by_commas ts), length-append u (44 ∷ [])) in
    ap (λ (ns : List ℕ). (start + length u + 1) ∷ ns) (positions_more (start + length u + 1) ts t ∙ ap (λ (n : ℕ). positions (start + length u + 1) ts ++ n ∷ []) e)

front_of : (t rest : List ℕ) → slice_range ((t ++ 44 ∷ []) ++ rest) 0 (length t) ≡ t
front_of t rest =
    let e : length t - 0 ≡ length t = omega arith in
    ap₂ (λ (n : ℕ) (zs : List ℕ). take n zs) e (append_assoc t (44 ∷ []) rest) ∙ take-append_seam t ((44 ∷ []) ++ rest)

pieces_are : (ts : List (List ℕ)) (front : List ℕ) (start : ℕ) → start ≡ length front → pieces start (positions start ts) (front ++ closed_by_commas ts) ≡ ts
pieces_are [] front start is = refl
pieces_are (t ∷ ts) front start is =
    let rest = closed_by_commas ts in
    let a : start ≡ length front + 0 = omega (arith, is) in
    let b : start + length t + 1 - 1 ≡ length front + length t = omega (arith, is) in
    let next : start + length t + 1 ≡ length (front ++ (t ++ 44 ∷ [])) = omega (arith, is, length-append front (t ++ 44 ∷ []), length-append t (44 ∷ [])) in
    ap₂ (λ (x : List ℕ) (xs : List (List ℕ)). x ∷ xs)
    (ap₂ (λ (m n : ℕ). slice_range (front ++ ((t ++ 44 ∷ []) ++ rest)) m n) a b ∙ between_behind front ((t ++ 44 ∷ []) ++ rest) 0 (length t) ∙ front_of t rest)
    (ap (λ (zs : List ℕ). pieces (start + length t + 1) (positions (start + length t + 1) ts) zs) (sym (append_assoc front (t ++ 44 ∷ []) rest)) ∙ pieces_are ts (front ++ (t ++ 44 ∷ [])) (start + length t + 1) next)

-- one text more
pub record IsAppended (ends bytes more_ends more_bytes text : List ℕ) : Type 0 where
  pub are_texts : pieces 0 more_ends more_bytes ≡ pieces 0 ends bytes ++ text ∷ []
  pub are_ends : more_ends ≡ positions 0 (pieces 0 more_ends more_bytes)
  pub are_bytes : more_bytes ≡ closed_by_commas (pieces 0 more_ends more_bytes)

pub appended : (ends bytes more_ends more_bytes text : List ℕ) → ends ≡ positions 0 (pieces 0 ends bytes) → bytes ≡ closed_by_commas (pieces 0 ends bytes)
    → more_bytes ≡ (bytes ++ text) ++ 44 ∷ [] → more_ends ≡ ends ++ length more_bytes ∷ [] → IsAppended ends bytes more_ends more_bytes text
appended ends bytes more_ends more_bytes text e b mb me =
    let ts = pieces 0 ends bytes in
    let nb : more_bytes ≡ closed_by_commas (ts ++ text ∷ []) =
    mb ∙ append_assoc bytes text (44 ∷ []) ∙ ap (λ (zs : List ℕ). zs ++ (text ++ 44 ∷ [])) b ∙ ap (λ (zs : List ℕ). closed_by_commas ts ++ zs) (sym (append-nil (text ++ 44 ∷ []))) ∙ sym (closed_more ts (text ∷ [])) in
    let n : length more_bytes ≡ 0 + length (closed_by_commas ts) + length text + 1 = omega (arith, ap length mb, length-append (bytes ++ text) (44 ∷ []), length-append bytes text, ap length b) in
    let ne : more_ends ≡ positions 0 (ts ++ text ∷ []) = me ∙ ap₂ (λ (ns : List ℕ) (m : ℕ). ns ++ m ∷ []) e n ∙ sym (positions_more 0 ts text) in
    let all : pieces 0 more_ends more_bytes ≡ ts ++ text ∷ [] = ap₂ (λ (ns zs : List ℕ). pieces 0 ns zs) ne nb ∙ pieces_are (ts ++ text ∷ []) [] 0 refl in
    record { are_texts = all; are_ends = ne ∙ ap (positions 0) (sym all); are_bytes = nb ∙ ap closed_by_commas (sym all) }

-- ---- places

place_from : (start : ℕ) (ts : List (List ℕ)) (n : ℕ) → n < length ts → slice_index (positions start ts) n ≡ start + length (closed_by_commas (take (suc n) ts))
place_from start [] n lt = absurd (omega (arith, lt))
place_from start (t ∷ ts) zero lt = omega (arith, length-append (t ++ 44 ∷ []) [], length-append t (44 ∷ []))
place_from start (t ∷ ts) (suc n) lt =
    omega (arith, place_from (start + length t + 1) ts n (omega (arith, lt)), length-append (t ++ 44 ∷ []) (closed_by_commas (take (suc n) ts)), length-append t (44 ∷ []))

pub place_of : (ts : List (List ℕ)) (n : ℕ) → n ≤ length ts → position (positions 0 ts) n ≡ length (closed_by_commas (take n ts))
place_of ts zero le = refl
place_of ts (suc n) le = place_from 0 ts n (omega (arith, le)) ∙ (let e : 0 + length (closed_by_commas (take (suc n) ts)) ≡ length (closed_by_commas (take (suc n) ts)) = omega arith in e)

pub split_at : (ts : List (List ℕ)) (n : ℕ) → length (closed_by_commas (take n ts)) + length (closed_by_commas (drop n ts)) ≡ length (closed_by_commas ts)
split_at ts n = sym (length-append (closed_by_commas (take n ts)) (closed_by_commas (drop n ts))) ∙ ap length (sym (closed_more (take n ts) (drop n ts)) ∙ ap closed_by_commas (take-append-drop n ts))

-- ---- joined

commas_move : (ts : List (List ℕ)) → 44 ∷ closed_by_commas ts ≡ flat_map (λ (t : List ℕ). 44 ∷ t) ts ++ 44 ∷ []
commas_move [] = refl
commas_move (t ∷ ts) =
    let more = flat_map (λ (u : List ℕ). 44 ∷ u) ts in
    ap (λ (zs : List ℕ). 44 ∷ zs) (append_assoc t (44 ∷ []) (closed_by_commas ts) ∙ ap (λ (zs : List ℕ). t ++ zs) (commas_move ts) ∙ sym (append_assoc t more (44 ∷ [])))

pub closed_joined : (ts : List (List ℕ)) → 0 < length ts → closed_by_commas ts ≡ joined ts ++ 44 ∷ []
closed_joined [] some = absurd (omega (arith, some))
closed_joined (t ∷ ts) some =
    append_assoc t (44 ∷ []) (closed_by_commas ts) ∙ ap (λ (zs : List ℕ). t ++ zs) (commas_move ts) ∙ sym (append_assoc t (flat_map (λ (u : List ℕ). 44 ∷ u) ts) (44 ∷ []))

take_split : (ts : List (List ℕ)) (n m : ℕ) → n ≤ length ts → take (n + m) ts ≡ take n ts ++ take m (drop n ts)
take_split ts n m le =
    ap₂ (λ (k : ℕ) (us : List (List ℕ)). take (k + m) us) (sym (length-take-le n ts le)) (sym (take-append-drop n ts)) ∙ take-append-add (take n ts) (drop n ts) m

-- the texts of a stretch, joined, stand between the two places
pub stretch : (ts : List (List ℕ)) (from to : ℕ) → from < to → to ≤ length ts
    → slice_range (closed_by_commas ts) (position (positions 0 ts) from) (position (positions 0 ts) to - 1) ≡ joined (slice_range ts from to)
stretch ts from to lt le =
    let front = take from ts in
    let middle = slice_range ts from to in
    let back = drop (to - from) (drop from ts) in
    let count : length middle ≡ to - from = length-take-le (to - from) (drop from ts) (omega (arith, length-drop from ts, le)) in
    let closes : closed_by_commas middle ≡ joined middle ++ 44 ∷ [] = closed_joined middle (omega (arith, count, lt)) in
    let whole : closed_by_commas ts ≡ closed_by_commas front ++ (closed_by_commas middle ++ closed_by_commas back) =
    ap closed_by_commas (sym (take-append-drop from ts)) ∙ closed_more front (drop from ts)
    ∙ ap (λ (us : List (List ℕ)). closed_by_commas front ++ closed_by_commas us) (sym (take-append-drop (to - from) (drop from ts)))
    ∙ ap (λ (zs : List ℕ). closed_by_commas front ++ zs) (closed_more middle back) in
    let upto : take to ts ≡ front ++ middle = ap (λ (n : ℕ). take n ts) (let e : to ≡ from + (to - from) = omega (arith, lt) in e) ∙ take_split ts from (to - from) (omega (arith, lt, le)) in
    let a : position (positions 0 ts) from ≡ length (closed_by_commas front) + 0 = omega (arith, place_of ts from (omega (arith, lt, le))) in
    let b : position (positions 0 ts) to - 1 ≡ length (closed_by_commas front) + length (joined middle) =
    omega (arith, place_of ts to le, ap (λ (us : List (List ℕ)). length (closed_by_commas us)) upto, ap length (closed_more front middle), length-append (closed_by_commas front) (closed_by_commas middle), ap length closes, length-append (joined middle) (44 ∷ [])) in
    ap (λ (zs : List ℕ). slice_range zs (position (positions 0 ts) from) (position (positions 0 ts) to - 1)) whole
    ∙ ap₂ (λ (m n : ℕ). slice_range (closed_by_commas front ++ (closed_by_commas middle ++ closed_by_commas back)) m n) a b
    ∙ between_behind (closed_by_commas front) (closed_by_commas middle ++ closed_by_commas back) 0 (length (joined middle))
    ∙ ap (λ (zs : List ℕ). slice_range (zs ++ closed_by_commas back) 0 (length (joined middle))) closes
    ∙ front_of (joined middle) (closed_by_commas back)

-- the places of a stretch are in order, and inside
pub in_order : (ts : List (List ℕ)) (from to : ℕ) → from < to → to ≤ length ts → (position (positions 0 ts) from + 1 ≤ position (positions 0 ts) to) × (position (positions 0 ts) to ≤ length (closed_by_commas ts))
in_order ts from to lt le =
    let front = take from ts in
    let middle = slice_range ts from to in
    let count : length middle ≡ to - from = length-take-le (to - from) (drop from ts) (omega (arith, length-drop from ts, le)) in
    let upto : take to ts ≡ front ++ middle = ap (λ (n : ℕ). take n ts) (let e : to ≡ from + (to - from) = omega (arith, lt) in e) ∙ take_split ts from (to - from) (omega (arith, lt, le)) in (
      omega (arith, place_of ts from (omega (arith, lt, le)), place_of ts to le, ap (λ (us : List (List ℕ)). length (closed_by_commas us)) upto, ap length (closed_more front middle), length-append (closed_by_commas front) (closed_by_commas middle), closed_length middle, count, lt),
      omega (arith, place_of ts to le, split_at ts to),
    )
