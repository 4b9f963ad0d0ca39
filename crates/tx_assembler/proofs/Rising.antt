-- The LSNs of what a stream shows rise.
use Rattle.std.proofs.Common.{◌≡◌, ℕ, ◌<◌, ◌≤◌, max, nat_le, Bool, true, false, List, [], ◌∷◌, ◌++◌, Option, None, Some, refl, sym, ◌∙◌, subst, arith}
use Rattle.std.specs.Bool.{if◌then◌else◌}
use Rattle.std.proofs.lemmas.Bool.Decides.{nat_tests}
use Rattle.shape_base.specs.declared.change.Tx.{Tx}
use Rattle.shape_base.specs.declared.served.Served.{Served}
use Rattle.shape_base.specs.Transactions.{LsnsRise}
use Rattle.pgout.specs.declared.message.Message.{Message}
use Rattle.tx_assembler.specs.Kept.{DefinedChange, place_of_definition, with_change_at, with_change, with_changes}
use Rattle.tx_assembler.specs.Feeding.{empty_tx}
use Rattle.tx_assembler.specs.Shown.{Stretch, pieces_of, lsn_of, begin_of, xid_in, changes_in, tx_of, greatest_of, taken_of, shown_in, shown_from}
use Rattle.tx_assembler.specs.Stream.{ShownRise}

-- the LSNs rise strictly, from above the first number and not past the second
abbrev RiseTo : ℕ → List Tx → ℕ → Type 0
RiseTo low [] high = low ≤ high
RiseTo low (tx ∷ txs) high = (low < tx.lsn) × RiseTo tx.lsn txs high

rise_behind : (low high : ℕ) (xs ys : List Tx) → RiseTo low xs high → ((below : ℕ) → below ≤ high → LsnsRise below ys) → LsnsRise low (xs ++ ys)
rise_behind low high [] ys h rest = rest low h
rise_behind low high (x ∷ xs) ys h rest = (h.0, rise_behind x.lsn high xs ys h.1 rest)

lsn_kept : (tx : Tx) (c : DefinedChange) (place : Option ℕ) → (with_change_at tx c place).lsn ≡ tx.lsn
lsn_kept tx c None = refl
lsn_kept tx c (Some p) = refl

lsn_stays : (tx : Tx) (cs : List DefinedChange) → (with_changes tx cs).lsn ≡ tx.lsn
lsn_stays tx [] = refl
lsn_stays tx (c ∷ cs) = lsn_stays (with_change tx c) cs ∙ lsn_kept tx c (place_of_definition tx.defs c.definition)

lsn_is : (tables : List Served) (before piece : List Message) → (tx_of tables before piece).lsn ≡ lsn_of piece
lsn_is tables before piece = lsn_stays (empty_tx (lsn_of piece) (xid_in (begin_of piece))) (changes_in tables before piece)

rise_if : (tables : List Served) (before piece : List Message) (pieces : List (List Message)) (last : ℕ) (b : Bool) → nat_le (lsn_of piece) last ≡ b
    → ((low : ℕ) → RiseTo low (shown_in tables (before ++ piece) low pieces) (greatest_of low pieces))
    → RiseTo last (if b then shown_in tables (before ++ piece) last pieces else tx_of tables before piece ∷ shown_in tables (before ++ piece) (lsn_of piece) pieces) (greatest_of (max last (lsn_of piece)) pieces)
rise_if tables before piece pieces last true e rest =
    let same : max last (lsn_of piece) ≡ last = grind (arith, nat_tests) in
    subst (λ high. RiseTo last (shown_in tables (before ++ piece) last pieces) (greatest_of high pieces)) (sym same) (rest last)
rise_if tables before piece pieces last false e rest =
    let more : last < lsn_of piece = grind (arith, nat_tests) in
    let same : max last (lsn_of piece) ≡ lsn_of piece = grind (arith, nat_tests) in
    let is = sym (lsn_is tables before piece) in (
      subst (λ n. last < n) is more,
      subst (λ n. RiseTo n (shown_in tables (before ++ piece) (lsn_of piece) pieces) (greatest_of (max last (lsn_of piece)) pieces)) is
          (subst (λ high. RiseTo (lsn_of piece) (shown_in tables (before ++ piece) (lsn_of piece) pieces) (greatest_of high pieces)) (sym same) (rest (lsn_of piece))),
    )

in_stretch : (tables : List Served) (pieces : List (List Message)) (before : List Message) (last : ℕ) → RiseTo last (shown_in tables before last pieces) (greatest_of last pieces)
in_stretch tables [] before last = omega arith
in_stretch tables (piece ∷ pieces) before last = rise_if tables before piece pieces last (nat_le (lsn_of piece) last) refl (λ low. in_stretch tables pieces (before ++ piece) low)

from_less : (a b : ℕ) (txs : List Tx) → a ≤ b → LsnsRise b txs → LsnsRise a txs
from_less a b [] le h = tt
from_less a b (tx ∷ txs) le h = (omega (arith, h.0, le), h.1)

over_stretches : (tables : List Served) (stretches : List Stretch) (last : ℕ) → LsnsRise last (shown_from tables last stretches)
over_stretches tables [] last = tt
over_stretches tables (stretch ∷ stretches) last =
    let pieces = pieces_of (taken_of tables last stretch) in
    let high = greatest_of last pieces in
    rise_behind last high (shown_in tables [] last pieces) (shown_from tables high stretches) (in_stretch tables pieces [] last)
    (λ below le. from_less below high (shown_from tables high stretches) le (over_stretches tables stretches high))

pub shown_rise : ShownRise
shown_rise tables stream = over_stretches tables stream 0
