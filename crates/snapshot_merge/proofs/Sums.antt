-- Sums of bytes that end at 2^64 - 1.
use Rattle.std.proofs.Common.{◌≡◌, ℕ, ◌+◌, min, List, [], ◌∷◌, ◌++◌, sym, ap, ◌∙◌, arith}
use Rattle.shape_base.specs.declared.change.Tx.{Tx}
use Rattle.snapshot_merge.specs.Buffer.{bytes_of, capped}

bytes_with : (txs : List Tx) (tx : Tx) → bytes_of (txs ++ tx ∷ []) ≡ bytes_of txs + tx.bytes
bytes_with [] tx = omega arith
bytes_with (t ∷ txs) tx = let e : bytes_of (txs ++ tx ∷ []) ≡ bytes_of txs + tx.bytes = bytes_with txs tx in omega (arith, e)

-- a capped sum goes on from a capped sum
capped_on : (a b : ℕ) → min (capped a + b) 18446744073709551615 ≡ capped (a + b)
capped_on a b = omega arith

pub capped_with : (txs : List Tx) (tx : Tx) (bytes sum : ℕ) → bytes ≡ capped (bytes_of txs) → sum ≡ min (bytes + tx.bytes) 18446744073709551615 → sum ≡ capped (bytes_of (txs ++ tx ∷ []))
capped_with txs tx bytes sum e s = s ∙ ap (λ (n : ℕ). min (n + tx.bytes) 18446744073709551615) e ∙ capped_on (bytes_of txs) tx.bytes ∙ ap capped (sym (bytes_with txs tx))
