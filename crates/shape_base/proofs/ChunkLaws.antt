-- Chunks, and the ids beside xmax.
use Rattle.std.proofs.Common.{◌≡◌, ℕ, ◌+◌, ◌-◌, ◌%◌, ◌<◌, ◌≤◌, Bool, true, false, List, [], ◌∷◌, ◌++◌, refl, sym, ◌∙◌, ap, arith, append_assoc, append-nil, Option, None, Some}
use Rattle.std.specs.Prelude.{nat_le, nat_lt}
use Rattle.std.specs.Bool.{if◌then◌else◌}
use Rattle.std.specs.List.{sum, concat, AllByRecursion}
use Rattle.std.proofs.lemmas.Bool.Decides.{nat_tests}
use Rattle.std.proofs.lemmas.List.Sums.{sum_by-append}
use Rattle.shape_base.specs.Visibility.{ahead}
use Rattle.shape_base.specs.Chunks.{chunks_from, open_from, IsChunk}
use Rattle.shape_base.specs.Laws.{FullIs, ChunksCut, ChunksStay}

sum_more : (run : List ℕ) (size : ℕ) → sum (run ++ size ∷ []) ≡ sum run + size
sum_more run size = sum_by-append (λ x. x) run (size ∷ []) ∙ ap (λ n. sum run + n) (omega arith)

stay_if : (least : ℕ) (run : List ℕ) (size : ℕ) (sizes more : List ℕ) (b : Bool)
    → chunks_from least [] (sizes ++ more) ≡ chunks_from least [] sizes ++ chunks_from least (open_from least [] sizes) more
    → chunks_from least (run ++ size ∷ []) (sizes ++ more) ≡ chunks_from least (run ++ size ∷ []) sizes ++ chunks_from least (open_from least (run ++ size ∷ []) sizes) more
    → ◌≡◌ {A = List (List ℕ)} (if b then (run ++ size ∷ []) ∷ chunks_from least [] (sizes ++ more) else chunks_from least (run ++ size ∷ []) (sizes ++ more))
    ((if b then (run ++ size ∷ []) ∷ chunks_from least [] sizes else chunks_from least (run ++ size ∷ []) sizes) ++ chunks_from least (if b then open_from least [] sizes else open_from least (run ++ size ∷ []) sizes) more)
stay_if least run size sizes more true closed open_ = ap (λ cs. (run ++ size ∷ []) ∷ cs) closed
stay_if least run size sizes more false closed open_ = open_

stay_from : (least : ℕ) (run sizes more : List ℕ) → chunks_from least run (sizes ++ more) ≡ chunks_from least run sizes ++ chunks_from least (open_from least run sizes) more
stay_from least run [] more = refl
stay_from least run (size ∷ sizes) more = stay_if least run size sizes more (nat_le least (sum run + size)) (stay_from least [] sizes more) (stay_from least (run ++ size ∷ []) sizes more)

pub chunks_stay : ChunksStay
chunks_stay least sizes more = stay_from least [] sizes more

-- how sizes are cut, where the open chunk holds a run so far
record IsCut (least : ℕ) (run sizes : List ℕ) (chunks : List (List ℕ)) (rest : List ℕ) : Type 0 where
  all : concat chunks ++ rest ≡ run ++ sizes
  just : AllByRecursion (IsChunk least) chunks
  short : sum rest < least

cut_if : (least : ℕ) (run : List ℕ) (size : ℕ) (sizes : List ℕ) (b : Bool) → nat_le least (sum run + size) ≡ b → sum run < least
    → IsCut least [] sizes (chunks_from least [] sizes) (open_from least [] sizes)
    → (sum (run ++ size ∷ []) < least → IsCut least (run ++ size ∷ []) sizes (chunks_from least (run ++ size ∷ []) sizes) (open_from least (run ++ size ∷ []) sizes))
    → IsCut least run (size ∷ sizes) (if b then (run ++ size ∷ []) ∷ chunks_from least [] sizes else chunks_from least (run ++ size ∷ []) sizes) (if b then open_from least [] sizes else open_from least (run ++ size ∷ []) sizes)
cut_if least run size sizes true is short closed open_ = let more = sum_more run size in let le : least ≤ sum run + size = grind (arith, nat_tests) in record {
  all = append_assoc (run ++ size ∷ []) (concat (chunks_from least [] sizes)) (open_from least [] sizes) ∙ ap (λ xs. (run ++ size ∷ []) ++ xs) closed.all ∙ append_assoc run (size ∷ []) sizes;
  just = (record { front = run; last = size; is = refl; short = short; whole = omega (arith, more, le) }, closed.just);
  short = closed.short;
}
cut_if least run size sizes false is short closed open_ =
    let more = sum_more run size in let lt : sum run + size < least = grind (arith, nat_tests) in
    let rest = open_ (omega (arith, more, lt)) in record { all = rest.all ∙ append_assoc run (size ∷ []) sizes; just = rest.just; short = rest.short }

cut_from : (least : ℕ) (run sizes : List ℕ) → 0 < least → sum run < least → IsCut least run sizes (chunks_from least run sizes) (open_from least run sizes)
cut_from least run [] some short = record { all = sym (append-nil run); just = tt; short = short }
cut_from least run (size ∷ sizes) some short = cut_if least run size sizes (nat_le least (sum run + size)) refl short (cut_from least [] sizes some some) (λ less. cut_from least (run ++ size ∷ []) sizes some less)

pub chunks_cut : ChunksCut
chunks_cut least sizes some = let cut = cut_from least [] sizes some some in (cut.all, cut.just, cut.short)

-- where the id lies
record IsBeside (x xmax n : ℕ) : Type 0 where
  low : n % 4294967296 ≡ x
  above : xmax ≤ n + 2147483648
  below : n < xmax + 2147483648

full_gives : (x xmax n : ℕ) (b : Bool) → x < 4294967296 → nat_lt (xmax + ahead x xmax) 2147483648 ≡ b → (if b then None else Some (xmax + ahead x xmax - 2147483648)) ≡ Some n → IsBeside x xmax n
full_gives x xmax n true small is e = cc
full_gives x xmax n false small is e =
    let same : xmax + ahead x xmax - 2147483648 ≡ n = cc in
    let le : 2147483648 ≤ xmax + ahead x xmax = grind (arith, nat_tests) in
    record { low = omega arith; above = omega arith; below = omega arith }

full_is_if : (x xmax n : ℕ) (b : Bool) → x < 4294967296 → nat_lt (xmax + ahead x xmax) 2147483648 ≡ b → n % 4294967296 ≡ x → xmax ≤ n + 2147483648 → n < xmax + 2147483648 → ◌≡◌ {A = Option ℕ} (if b then None else Some (xmax + ahead x xmax - 2147483648)) (Some n)
full_is_if x xmax n true small is low above below = let lt : xmax + ahead x xmax < 2147483648 = grind (arith, nat_tests) in absurd (omega arith)
full_is_if x xmax n false small is low above below = let le : 2147483648 ≤ xmax + ahead x xmax = grind (arith, nat_tests) in ap Some (omega arith)

pub full_is : FullIs
full_is x xmax n small = (
  λ e. let beside = full_gives x xmax n (nat_lt (xmax + ahead x xmax) 2147483648) small refl e in (beside.low, beside.above, beside.below),
  λ low above below. full_is_if x xmax n (nat_lt (xmax + ahead x xmax) 2147483648) small refl low above below,
)
