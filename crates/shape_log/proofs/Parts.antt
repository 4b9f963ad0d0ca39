-- Parts one behind the other, and the bytes between two places in them.
use Rattle.std.proofs.Common.{◌≡◌, ℕ, zero, suc, ◌+◌, ◌-◌, ◌<◌, ◌≤◌, min, List, [], ◌∷◌, ◌++◌, length, take, drop, get_or, refl, sym, ap, ap₂, subst, ◌∙◌, ◌⊎◌, inl, inr, arith, append_assoc, append-nil, length-append}
use Rattle.std.specs.Prelude.{slice_range}
use Rattle.std.proofs.Math.Seq.{drop-append-add, take-append-add}
use Rattle.std.proofs.Math.ListN.{drop_of_length-le}
use Rattle.std.proofs.lemmas.List.{drop-append-le, take-append-le, take_all, length-drop, take-append-drop, take_more, drop_more}
use Rattle.std.proofs.lemmas.Bool.{cases_lt}
use Rattle.shape_log.specs.declared.rope.Part.{Part}
use Rattle.shape_log.specs.Roped.{flat, ArePlaced}

-- ---- between two places

drop_both_by : (n : ℕ) (xs ys : List ℕ) → (n < length xs) ⊎ (length xs ≤ n) → drop n (xs ++ ys) ≡ drop n xs ++ drop (n - length xs) ys
drop_both_by n xs ys (inl lt) = drop-append-le n xs ys (omega (arith, lt)) ∙ ap (λ (m : ℕ). drop n xs ++ drop m ys) (let e : 0 ≡ n - length xs = omega (arith, lt) in e)
drop_both_by n xs ys (inr le) =
    let e : n ≡ length xs + (n - length xs) = omega (arith, le) in
    ap (λ (m : ℕ). drop m (xs ++ ys)) e ∙ drop-append-add xs ys (n - length xs) ∙ ap (λ (zs : List ℕ). zs ++ drop (n - length xs) ys) (sym (drop_of_length-le xs le))

take_both_by : (n : ℕ) (xs ys : List ℕ) → (n < length xs) ⊎ (length xs ≤ n) → take n (xs ++ ys) ≡ take n xs ++ take (n - length xs) ys
take_both_by n xs ys (inl lt) =
    take-append-le n xs ys (omega (arith, lt)) ∙ sym (append-nil (take n xs)) ∙ ap (λ (m : ℕ). take n xs ++ take m ys) (let e : 0 ≡ n - length xs = omega (arith, lt) in e)
take_both_by n xs ys (inr le) =
    let e : n ≡ length xs + (n - length xs) = omega (arith, le) in
    ap (λ (m : ℕ). take m (xs ++ ys)) e ∙ take-append-add xs ys (n - length xs) ∙ ap (λ (zs : List ℕ). zs ++ take (n - length xs) ys) (sym (take_all n xs le))

pub between_both : (xs ys : List ℕ) (a b : ℕ) → a ≤ b → slice_range (xs ++ ys) a b ≡ slice_range xs a b ++ slice_range ys (a - length xs) (b - length xs)
between_both xs ys a b le =
    let e : (b - a) - length (drop a xs) ≡ (b - length xs) - (a - length xs) = omega (arith, length-drop a xs, le) in
    ap (take (b - a)) (drop_both_by a xs ys (cases_lt a (length xs)))
    ∙ take_both_by (b - a) (drop a xs) (drop (a - length xs) ys) (cases_lt (b - a) (length (drop a xs)))
    ∙ ap (λ (m : ℕ). slice_range xs a b ++ take m (drop (a - length xs) ys)) e

-- behind what stands before
pub between_behind : (xs ys : List ℕ) (a b : ℕ) → slice_range (xs ++ ys) (length xs + a) (length xs + b) ≡ slice_range ys a b
between_behind xs ys a b =
    let e : (length xs + b) - (length xs + a) ≡ b - a = omega arith in
    ap₂ (λ (m : ℕ) (zs : List ℕ). take m zs) e (drop-append-add xs ys a)

-- before what stands behind
pub between_before : (xs ys : List ℕ) (a b : ℕ) → a ≤ b → b ≤ length xs → slice_range (xs ++ ys) a b ≡ slice_range xs a b
between_before xs ys a b le within =
    ap (take (b - a)) (drop-append-le a xs ys (omega (arith, le, within))) ∙ take-append-le (b - a) (drop a xs) ys (omega (arith, length-drop a xs, within))

clip_by : (xs : List ℕ) (a b : ℕ) → a ≤ b → (b < length xs) ⊎ (length xs ≤ b) → (a < length xs) ⊎ (length xs ≤ a) → slice_range xs (min a (length xs)) (min b (length xs)) ≡ slice_range xs a b
clip_by xs a b le (inl lt) other =
    let e : min a (length xs) ≡ a = omega (arith, lt, le) in let f : min b (length xs) ≡ b = omega (arith, lt) in ap₂ (λ (m n : ℕ). slice_range xs m n) e f
clip_by xs a b le (inr up) (inl lt) =
    let e : min a (length xs) ≡ a = omega (arith, lt) in let f : min b (length xs) ≡ length xs = omega (arith, up) in
    ap₂ (λ (m n : ℕ). slice_range xs m n) e f ∙ take_all (length xs - a) (drop a xs) (omega (arith, length-drop a xs)) ∙ sym (take_all (b - a) (drop a xs) (omega (arith, length-drop a xs, up)))
clip_by xs a b le (inr up) (inr over) =
    let e : min a (length xs) ≡ length xs = omega (arith, over) in let f : min b (length xs) ≡ length xs = omega (arith, up) in
    ap₂ (λ (m n : ℕ). slice_range xs m n) e f ∙ take_all (length xs - length xs) (drop (length xs) xs) (omega (arith, length-drop (length xs) xs))
    ∙ drop_of_length-le xs (omega arith) ∙ sym (drop_of_length-le xs over) ∙ sym (take_all (b - a) (drop a xs) (omega (arith, length-drop a xs, over)))

pub clip : (xs : List ℕ) (a b : ℕ) → a ≤ b → slice_range xs (min a (length xs)) (min b (length xs)) ≡ slice_range xs a b
clip xs a b le = clip_by xs a b le (cases_lt b (length xs)) (cases_lt a (length xs))

-- ---- parts

pub record IsAmong (first : ℕ) (ps : List Part) (p : Part) : Type 0 where
  pub front : List ℕ
  pub back : List ℕ
  pub all : flat ps ≡ front ++ (p.bytes ++ back)
  pub start : p.start ≡ first + length front

pub among : (first : ℕ) (ps : List Part) (end i : ℕ) (p : Part) → ArePlaced first ps end → i < length ps → p ≡ get_or ps i p → IsAmong first ps p
among first [] end i p placed lt is = absurd (omega (arith, lt))
among first (q ∷ ps) end zero p placed lt is = record { front = []; back = flat ps; all = ap (λ (x : Part). x.bytes ++ flat ps) (sym is); start = ap (λ (x : Part). x.start) is ∙ placed.0 ∙ (let e : first ≡ first + 0 = omega arith in e) }
among first (q ∷ ps) end (suc i) p placed lt is =
    let rest = among (first + length q.bytes) ps end i p placed.1 (omega (arith, lt)) is in
    record {
      front = q.bytes ++ rest.front;
      back = rest.back;
      all = ap (λ (zs : List ℕ). q.bytes ++ zs) rest.all ∙ sym (append_assoc q.bytes rest.front (p.bytes ++ rest.back));
      start = omega (arith, rest.start, length-append q.bytes rest.front);
    }

-- what stands in one part
pub in_part : (ps : List Part) (rest : List ℕ) (end i : ℕ) (p : Part) (from to : ℕ) → i < length ps → p ≡ get_or ps i p → from ≤ to → p.start ≤ from → to - p.start ≤ length p.bytes → ArePlaced 0 ps end
    → slice_range p.bytes (from - p.start) (to - p.start) ≡ slice_range (flat ps ++ rest) from to
in_part ps rest end i p from to lt is le low high placed =
    let a = among 0 ps end i p placed lt is in
    let f : length a.front + (from - p.start) ≡ from = omega (arith, a.start, low) in
    let t : length a.front + (to - p.start) ≡ to = omega (arith, a.start, low, le) in
    let whole : flat ps ++ rest ≡ a.front ++ (p.bytes ++ (a.back ++ rest)) =
    ap (λ (zs : List ℕ). zs ++ rest) a.all ∙ append_assoc a.front (p.bytes ++ a.back) rest ∙ ap (λ (zs : List ℕ). a.front ++ zs) (append_assoc p.bytes a.back rest) in
    sym (between_before p.bytes (a.back ++ rest) (from - p.start) (to - p.start) (omega (arith, le)) high)
    ∙ sym (between_behind a.front (p.bytes ++ (a.back ++ rest)) (from - p.start) (to - p.start))
    ∙ ap₂ (λ (m n : ℕ). slice_range (a.front ++ (p.bytes ++ (a.back ++ rest))) m n) f t
    ∙ ap (λ (zs : List ℕ). slice_range zs from to) (sym whole)

pub flat_more : (ps qs : List Part) → flat (ps ++ qs) ≡ flat ps ++ flat qs
flat_more [] qs = refl
flat_more (p ∷ ps) qs = ap (λ (zs : List ℕ). p.bytes ++ zs) (flat_more ps qs) ∙ sym (append_assoc p.bytes (flat ps) (flat qs))

pub placed_length : (first : ℕ) (ps : List Part) (end : ℕ) → ArePlaced first ps end → first + length (flat ps) ≡ end
placed_length first [] end placed = omega (arith, placed)
placed_length first (p ∷ ps) end placed = omega (arith, placed_length (first + length p.bytes) ps end placed.1, length-append p.bytes (flat ps))

pub placed_more : (first : ℕ) (ps : List Part) (end : ℕ) (p : Part) → ArePlaced first ps end → p.start ≡ end → ArePlaced first (ps ++ p ∷ []) (end + length p.bytes)
placed_more first [] end p placed is = (is ∙ sym placed, ap (λ (n : ℕ). n + length p.bytes) placed)
placed_more first (q ∷ ps) end p placed is = (placed.0, placed_more (first + length q.bytes) ps end p placed.1 is)

placed_front : (first : ℕ) (ps qs : List Part) (end : ℕ) → ArePlaced first (ps ++ qs) end → ArePlaced (first + length (flat ps)) qs end
placed_front first [] qs end placed = subst (λ (n : ℕ). ArePlaced n qs end) (let e : first ≡ first + 0 = omega arith in e) placed
placed_front first (p ∷ ps) qs end placed =
    subst (λ (n : ℕ). ArePlaced n qs end) (let e : first + length p.bytes + length (flat ps) ≡ first + length (p.bytes ++ flat ps) = omega (arith, length-append p.bytes (flat ps)) in e)
    (placed_front (first + length p.bytes) ps qs end placed.1)

-- one part more
pub gathers : (ps : List Part) (end i : ℕ) (p : Part) (from to : ℕ) (old new : List ℕ) → ArePlaced 0 ps end → i < length ps → p ≡ get_or ps i p → from ≤ to
    → old ≡ slice_range (flat (take i ps)) from to → new ≡ old ++ slice_range p.bytes (from - p.start) (to - p.start) → new ≡ slice_range (flat (take (i + 1) ps)) from to
gathers ps end i p from to old new placed lt is le had next =
    let split : ps ≡ take i ps ++ p ∷ drop (i + 1) ps = sym (take-append-drop i ps) ∙ ap (λ (qs : List Part). take i ps ++ qs) (drop_more ps i p lt ∙ ap (λ (q : Part). q ∷ drop (i + 1) ps) (sym is)) in
    let start : p.start ≡ 0 + length (flat (take i ps)) = (placed_front 0 (take i ps) (p ∷ drop (i + 1) ps) end (subst (λ (qs : List Part). ArePlaced 0 qs end) split placed)).0 in
    let more : flat (take (i + 1) ps) ≡ flat (take i ps) ++ p.bytes = ap flat (take_more ps i p lt ∙ ap (λ (q : Part). take i ps ++ q ∷ []) (sym is)) ∙ flat_more (take i ps) (p ∷ []) ∙ ap (λ (zs : List ℕ). flat (take i ps) ++ zs) (append-nil p.bytes) in
    next ∙ ap₂ (λ (zs : List ℕ) (n : ℕ). zs ++ slice_range p.bytes (from - n) (to - n)) had (start ∙ (let e : 0 + length (flat (take i ps)) ≡ length (flat (take i ps)) = omega arith in e))
    ∙ sym (between_both (flat (take i ps)) p.bytes from to le) ∙ ap (λ (zs : List ℕ). slice_range zs from to) (sym more)

pub frozen : (ps : List Part) (p : Part) (items rest : List ℕ) (n : ℕ) → p.bytes ≡ take n items → rest ≡ drop n items → flat (ps ++ p ∷ []) ++ rest ≡ flat ps ++ items
frozen ps p items rest n front back =
    ap (λ (zs : List ℕ). zs ++ rest) (flat_more ps (p ∷ [])) ∙ append_assoc (flat ps) (p.bytes ++ []) rest
    ∙ ap (λ (zs : List ℕ). flat ps ++ zs) (ap₂ (λ (x y : List ℕ). x ++ y) (append-nil p.bytes ∙ front) back ∙ take-append-drop n items)

pub between_none : (a b : ℕ) → a ≤ b → [] ≡ slice_range (flat []) a b
between_none a b le = sym (take_all (b - a) (drop a []) (omega (arith, length-drop {A = ℕ} a [])) ∙ drop_of_length-le [] (omega arith))

-- in the last part
pub in_last : (flats last all : List ℕ) (start from to : ℕ) → flats ++ last ≡ all → length flats ≡ start → start ≤ from → from ≤ to → slice_range last (from - start) (to - start) ≡ slice_range all from to
in_last flats last all start from to is count low le =
    let f : length flats + (from - start) ≡ from = omega (arith, count, low) in
    let t : length flats + (to - start) ≡ to = omega (arith, count, low, le) in
    sym (between_behind flats last (from - start) (to - start)) ∙ ap₂ (λ (m n : ℕ). slice_range (flats ++ last) m n) f t ∙ ap (λ (zs : List ℕ). slice_range zs from to) is

-- all parts were gathered, and then the last one
pub gathered_last : (ps : List Part) (last : List ℕ) (start i from to : ℕ) (old new : List ℕ) → ArePlaced 0 ps start → length ps ≤ i → from ≤ to
    → old ≡ slice_range (flat (take i ps)) from to → new ≡ old ++ slice_range last (from - start) (to - start) → new ≡ slice_range (flat ps ++ last) from to
gathered_last ps last start i from to old new placed le order had next =
    let n : start ≡ length (flat ps) = omega (arith, placed_length 0 ps start placed) in
    next ∙ ap₂ (λ (zs : List ℕ) (m : ℕ). zs ++ slice_range last (from - m) (to - m)) (had ∙ ap (λ (qs : List Part). slice_range (flat qs) from to) (take_all i ps le)) n ∙ sym (between_both (flat ps) last from to order)
