-- Pieces that are read and written.
use Rattle.std.proofs.Common.{◌≡◌, ℕ, ◌+◌, ◌-◌, ◌≤◌, List, ◌++◌, length, take, drop, refl, sym, arith}
use Rattle.std.proofs.lemmas.List.{take_at, take-append-drop, drop-drop, length-take, length-drop}
use Rattle.std.proofs.Math.Seq.{take-add}
use Rattle.shape_base.specs.Outside.{AddsFront}

-- nothing was written
pub adds_nothing : (old piece : List ℕ) → AddsFront old old piece
adds_nothing old piece = record { longer = omega arith; more = piece; whole = refl }

front_length : (bytes : List ℕ) (at n : ℕ) → at + n ≤ length bytes → length (take n (drop at bytes)) ≡ n
front_length bytes at n h = omega (arith, length-take n (drop at bytes), length-drop at bytes)

-- n bytes from a place go into a room
pub piece_left : (bytes room piece : List ℕ) (at n : ℕ) → at + n ≤ length bytes → piece ≡ take (at + n - at) (drop at bytes) → drop at bytes ≡ take n (piece ++ drop n room) ++ drop (at + n) bytes
piece_left bytes room piece at n h e =
    let k : at + n - at ≡ n = omega arith in
    rw (e, k, take_at (take n (drop at bytes)) (drop n room) n (front_length bytes at n h), ← drop-drop n at bytes) (sym (take-append-drop n (drop at bytes)))

pub piece_given : (bytes room piece : List ℕ) (at n : ℕ) → at + n ≤ length bytes → piece ≡ take (at + n - at) (drop at bytes) → take (at + n) bytes ≡ take at bytes ++ take n (piece ++ drop n room)
piece_given bytes room piece at n h e =
    let k : at + n - at ≡ n = omega arith in
    rw (e, k, take_at (take n (drop at bytes)) (drop n room) n (front_length bytes at n h)) (take-add at n bytes)
