-- What is said, piece by piece.
use Rattle.std.proofs.Common.{◌≡◌, ℕ, ◌≤◌, List, [], ◌++◌, length, sym, ap, ◌∙◌, append_assoc, arith, inl, inr}
use Rattle.std.proofs.lemmas.List.{append-nil}
use Rattle.shape_base.specs.Outside.{Rose, AddsFront}
use Rattle.shape_replay.specs.Running.{Said}

rose_since : (before middle after : ℕ) → before ≤ middle → Rose middle after → Rose before after
rose_since before middle after h (inl lt) = inl (omega (arith, h, lt))
rose_since before middle after h (inr top) = inr top

-- a front of a piece was written, behind those before it
pub said_front : (old now new piece left all : List ℕ) (before middle after : ℕ) → length old ≤ length now → now ++ (piece ++ left) ≡ old ++ all → before ≤ middle → AddsFront now new piece → Rose middle after → Said old new before after all
unfolding Said
said_front old now new piece left all before middle after longer owed later front rose = inr (
  rose_since before middle after later rose,
  record {
    longer = omega (arith, longer, front.longer);
    more = front.more ++ left;
    whole = sym (append_assoc new front.more left) ∙ ap (λ xs. xs ++ left) front.whole ∙ append_assoc now piece left ∙ owed;
  },
)

-- nothing is left
pub said_whole : (old now all : List ℕ) (before after : ℕ) → now ++ [] ≡ old ++ all → Said old now before after all
unfolding Said
said_whole old now all before after owed = inl (sym (append-nil now) ∙ owed)

-- nothing is said
pub nothing_said : (old : List ℕ) (count : ℕ) → Said old old count count []
unfolding Said
nothing_said old count = inl (sym (append-nil old))
