-- What callers learn of their passes.
use Rattle.std.proofs.Common.{◌≡◌, ℕ, ◌+◌, ◌-◌, ◌≤◌, List, [], ◌++◌, length, sym, ap, ◌∙◌, arith, append_assoc, max}
use mathlib.Core.List.{IsPrefix}
use Rattle.front_lock.specs.declared.view.View.{View}
use Rattle.front_lock.specs.Rule.{picked, any_of, longest, mine_of, doubled, shares, joined, CatchesUp}
use Rattle.front_lock.proofs.Lists.{prefix_length, longest_first, longest_length, any_of_length, any_of_none, picked_both, picked_longer, doubled_zero}

prefix_trans : {E : Type 0} (xs ys zs : List E) → IsPrefix xs ys → IsPrefix ys zs → IsPrefix xs zs
prefix_trans xs ys zs (r, e) (t, f) = (r ++ t, sym (append_assoc xs r t) ∙ (ap (λ l. l ++ t) e ∙ f))

module _ {E F : Type 0} where
  pub joined_sees : (v w : View E F) (h : List E) → CatchesUp (joined v w) h → IsPrefix v.seen h
  joined_sees v w h c = prefix_trans v.seen (longest v.seen w.seen) h (longest_first v.seen w.seen) c.sees

  pub joined_mine : (v w : View E F) (h : List E) → length v.own ≤ length v.seen → CatchesUp (joined v w) h → picked v.own h ≡ mine_of v
  joined_mine v w h short c = picked_longer v.own v.seen h short (joined_sees v w h c)

  pub joined_mine_too : (v w : View E F) (h : List E) → length w.own ≤ length w.seen → CatchesUp (joined v w) h → picked w.own h ≡ mine_of w
  joined_mine_too v w h short c = picked_longer w.own w.seen h short c.tells

  pub joined_count : (v w : View E F) (h : List E) → length v.own ≤ length v.seen → length w.own ≤ length w.seen → CatchesUp (joined v w) h
      → length (picked (any_of v.own w.own) h) ≡ length (mine_of v) + length (mine_of w)
  joined_count v w h sv sw c = let a = ap length (joined_mine v w h sv c) in let b = ap length (joined_mine_too v w h sw c) in omega (arith, picked_both v.own w.own h c.once)

  pub joined_short : (v w : View E F) (h : List E) → length v.own ≤ length v.seen → length w.own ≤ length w.seen → CatchesUp (joined v w) h → length (any_of v.own w.own) ≤ length h
  joined_short v w h sv sw c = let a = prefix_length (longest v.seen w.seen) h c.sees in omega (arith, any_of_length v.own w.own, longest_length v.seen w.seen)

  -- a note adds no share and no own event
  pub noted_share : (v w : View E F) → w.part ≡ 0 → w.depth ≡ 0 → (shares v w ≡ v.part) × (max v.depth w.depth ≡ v.depth)
  noted_share v w no_part no_depth = let m : max v.depth w.depth ≡ v.depth = omega arith in let z : max v.depth w.depth - v.depth ≡ 0 = omega arith in
      let a : doubled (max v.depth w.depth - v.depth) v.part ≡ v.part = ap (λ (n : ℕ). doubled n v.part) z in
      let b : doubled (max v.depth w.depth - w.depth) w.part ≡ 0 = ap (doubled (max v.depth w.depth - w.depth)) no_part ∙ doubled_zero (max v.depth w.depth - w.depth) in
      (omega arith, m)

  pub noted_own : (v w : View E F) → w.own ≡ [] → any_of v.own w.own ≡ v.own
  noted_own v w bare = ap (any_of v.own) bare ∙ any_of_none v.own
