-- One size more, and the search for the end of a chunk.
use Rattle.std.proofs.Common.{◌≡◌, ℕ, zero, suc, ◌+◌, ◌-◌, ◌<◌, ◌≤◌, Bool, true, false, List, [], ◌∷◌, ◌++◌, length, get_or, refl, sym, ap, ap₂, subst, ◌∙◌, arith, append-nil, length-append, None, Some}
use Rattle.std.specs.Prelude.{nat_le, nat_lt, find, slice_get}
use Rattle.std.specs.Bool.{if◌then◌else◌}
use Rattle.std.specs.List.{sum, concat, AllByRecursion, AllWithin}
use Rattle.std.specs.List.Sorted.{IsPartitionedBy, IsPartitionPoint}
use Rattle.std.proofs.lemmas.Bool.Decides.{nat_tests}
use Rattle.std.proofs.lemmas.List.Sums.{sum_by-append}
use Rattle.shape_base.specs.Chunks.{closed_chunks, open_chunk, open_from, IsChunk}
use Rattle.shape_base.proofs.Lemmas.{chunks_cut, chunks_stay}
use Rattle.chunk_cutter.specs.Ends.{ends_from, chunk_ends, chunk_end}
use Rattle.chunk_cutter.specs.Cut.{Cut, HasCut}

sum_more : (run : List ℕ) (size : ℕ) → sum (run ++ size ∷ []) ≡ sum run + size
sum_more run size = sum_by-append (λ x. x) run (size ∷ []) ∙ ap (λ n. sum run + n) (omega arith)

-- ---- one size more

open_if : (least : ℕ) (run : List ℕ) (size : ℕ) (sizes more : List ℕ) (b : Bool)
    → open_from least [] (sizes ++ more) ≡ open_from least (open_from least [] sizes) more
    → open_from least (run ++ size ∷ []) (sizes ++ more) ≡ open_from least (open_from least (run ++ size ∷ []) sizes) more
    → ◌≡◌ {A = List ℕ} (if b then open_from least [] (sizes ++ more) else open_from least (run ++ size ∷ []) (sizes ++ more))
    (open_from least (if b then open_from least [] sizes else open_from least (run ++ size ∷ []) sizes) more)
open_if least run size sizes more true closed opened = closed
open_if least run size sizes more false closed opened = opened

open_more : (least : ℕ) (run sizes more : List ℕ) → open_from least run (sizes ++ more) ≡ open_from least (open_from least run sizes) more
open_more least run [] more = refl
open_more least run (size ∷ sizes) more = open_if least run size sizes more (nat_le least (sum run + size)) (open_more least [] sizes more) (open_more least (run ++ size ∷ []) sizes more)

count_in : List (List ℕ) → ℕ
count_in chunks = length (concat chunks)

ends_more : (first : ℕ) (chunks : List (List ℕ)) (run : List ℕ) → ends_from first (chunks ++ run ∷ []) ≡ ends_from first chunks ++ (first + length (concat chunks) + length run) ∷ []
ends_more first [] run = ap (λ n. n ∷ []) (omega arith)
ends_more first (chunk ∷ chunks) run =
    ap (λ ends. (first + length chunk) ∷ ends) (ends_more (first + length chunk) chunks run
    ∙ ap (λ n. ends_from (first + length chunk) chunks ++ n ∷ []) (omega (arith, length-append chunk (concat chunks))))

-- all sizes stand in the closed chunks and the open one
pub all_cut : (least : ℕ) (sizes : List ℕ) → 0 < least → length (concat (closed_chunks least sizes)) + length (open_chunk least sizes) ≡ length sizes
all_cut least sizes some = sym (length-append (concat (closed_chunks least sizes)) (open_chunk least sizes)) ∙ ap length (chunks_cut least sizes some).0

if_true : {A : Type 0} (b : Bool) (x y : A) → b ≡ true → ◌≡◌ {A = A} (if b then x else y) x
if_true true x y e = refl
if_true false x y e = cc

if_false : {A : Type 0} (b : Bool) (x y : A) → b ≡ false → ◌≡◌ {A = A} (if b then x else y) y
if_false true x y e = cc
if_false false x y e = refl

-- the chunk closes
pub closes : (least : ℕ) (sizes : List ℕ) (size : ℕ) → 0 < least → nat_le least (sum (open_chunk least sizes) + size) ≡ true
    → (chunk_ends least (sizes ++ size ∷ []) ≡ chunk_ends least sizes ++ (length sizes + 1) ∷ []) × (sum (open_chunk least (sizes ++ size ∷ [])) ≡ 0)
closes least sizes size some whole =
    let run = open_chunk least sizes in
    let b = nat_le least (sum run + size) in (
      ap (ends_from 0) (chunks_stay least sizes (size ∷ []) ∙ ap (λ (cs : List (List ℕ)). closed_chunks least sizes ++ cs) (if_true b ((run ++ size ∷ []) ∷ []) [] whole))
          ∙ ends_more 0 (closed_chunks least sizes) (run ++ size ∷ [])
          ∙ ap (λ n. chunk_ends least sizes ++ n ∷ []) (omega (arith, all_cut least sizes some, length-append run (size ∷ []))),
      ap sum (open_more least [] sizes (size ∷ []) ∙ if_true b [] (run ++ size ∷ []) whole),
    )

-- the chunk stays open
pub stays_open : (least : ℕ) (sizes : List ℕ) (size : ℕ) → nat_le least (sum (open_chunk least sizes) + size) ≡ false
    → (chunk_ends least (sizes ++ size ∷ []) ≡ chunk_ends least sizes) × (sum (open_chunk least (sizes ++ size ∷ [])) ≡ sum (open_chunk least sizes) + size)
stays_open least sizes size short =
    let run = open_chunk least sizes in
    let b = nat_le least (sum run + size) in (
      ap (ends_from 0) (chunks_stay least sizes (size ∷ []) ∙ ap (λ (cs : List (List ℕ)). closed_chunks least sizes ++ cs) (if_false b ((run ++ size ∷ []) ∷ []) [] short) ∙ append-nil (closed_chunks least sizes)),
      ap sum (open_more least [] sizes (size ∷ []) ∙ if_false b [] (run ++ size ∷ []) short) ∙ sum_more run size,
    )

pub closed_next : (cut new : Cut) (sizes : List ℕ) (size : ℕ) → HasCut cut sizes → cut.least ≤ cut.rest + size
    → new.least ≡ cut.least → new.ends ≡ cut.ends ++ (cut.count + 1) ∷ [] → new.rest ≡ 0 → new.count ≡ cut.count + 1 → HasCut new (sizes ++ size ∷ [])
closed_next cut new sizes size has whole least ends rest counted =
    let e : nat_le cut.least (sum (open_chunk cut.least sizes) + size) ≡ true = let r = has.rest in grind (arith, nat_tests) in
    let next = closes cut.least sizes size has.some e in
    record {
      some = omega (arith, least, has.some);
      ends = ends ∙ ap₂ (λ (es : List ℕ) (n : ℕ). es ++ (n + 1) ∷ []) has.ends has.count ∙ sym next.0 ∙ ap (λ (n : ℕ). chunk_ends n (sizes ++ size ∷ [])) (sym least);
      rest = rest ∙ sym next.1 ∙ ap (λ (n : ℕ). sum (open_chunk n (sizes ++ size ∷ []))) (sym least);
      count = omega (arith, counted, has.count, length-append sizes (size ∷ []));
    }

pub open_next : (cut new : Cut) (sizes : List ℕ) (size : ℕ) → HasCut cut sizes → cut.rest + size < cut.least
    → new.least ≡ cut.least → new.ends ≡ cut.ends → new.rest ≡ cut.rest + size → new.count ≡ cut.count + 1 → HasCut new (sizes ++ size ∷ [])
open_next cut new sizes size has short least ends rest counted =
    let e : nat_le cut.least (sum (open_chunk cut.least sizes) + size) ≡ false = let r = has.rest in grind (arith, nat_tests) in
    let next = stays_open cut.least sizes size e in
    record {
      some = omega (arith, least, has.some);
      ends = ends ∙ has.ends ∙ sym next.0 ∙ ap (λ (n : ℕ). chunk_ends n (sizes ++ size ∷ [])) (sym least);
      rest = rest ∙ ap (λ (n : ℕ). n + size) has.rest ∙ sym next.1 ∙ ap (λ (n : ℕ). sum (open_chunk n (sizes ++ size ∷ []))) (sym least);
      count = omega (arith, counted, has.count, length-append sizes (size ∷ []));
    }

-- ---- the last end

pub last_end : (first : ℕ) (chunks : List (List ℕ)) (end : ℕ) → slice_get (ends_from first chunks) (length (ends_from first chunks) - 1) ≡ Some end → end ≡ first + length (concat chunks)
last_end first [] end h = cc
last_end first (chunk ∷ []) end h = let same : first + length chunk ≡ end = cc in omega (arith, same, length-append chunk [])
last_end first (chunk ∷ next ∷ chunks) end h =
    let more : length (ends_from first (chunk ∷ next ∷ chunks)) - 1 ≡ suc (length (ends_from (first + length chunk) (next ∷ chunks)) - 1) = omega arith in
    let rest = last_end (first + length chunk) (next ∷ chunks) end (subst (λ (n : ℕ). slice_get (ends_from first (chunk ∷ next ∷ chunks)) n ≡ Some end) more h) in
    omega (arith, rest, length-append chunk (concat (next ∷ chunks)))

pub no_end : (chunks : List (List ℕ)) → length (ends_from 0 chunks) ≡ 0 → length (concat chunks) ≡ 0
no_end [] h = refl
no_end (chunk ∷ chunks) h = absurd (omega (arith, h))

pub none_last : (xs : List ℕ) → slice_get xs (length xs - 1) ≡ None → length xs ≡ 0
none_last [] h = refl
none_last (x ∷ []) h = cc
none_last (x ∷ y ∷ xs) h =
    let next : length (x ∷ y ∷ xs) - 1 ≡ suc (length (y ∷ xs) - 1) = omega arith in
    absurd (omega (arith, none_last (y ∷ xs) (subst (λ (n : ℕ). slice_get (x ∷ y ∷ xs) n ≡ None) next h)))

pub closed_none : (cut : Cut) (sizes : List ℕ) → HasCut cut sizes → slice_get cut.ends (length cut.ends - 1) ≡ None → 0 + length (open_chunk cut.least sizes) ≡ length sizes
closed_none cut sizes has none =
    omega (arith, all_cut cut.least sizes has.some, no_end (closed_chunks cut.least sizes) (ap length (sym has.ends) ∙ none_last cut.ends none))

pub closed_last : (cut : Cut) (sizes : List ℕ) (end : ℕ) → HasCut cut sizes → slice_get cut.ends (length cut.ends - 1) ≡ Some end → end + length (open_chunk cut.least sizes) ≡ length sizes
closed_last cut sizes end has last =
    omega (arith, all_cut cut.least sizes has.some, last_end 0 (closed_chunks cut.least sizes) end (subst (λ (es : List ℕ). slice_get es (length es - 1) ≡ Some end) has.ends last))

-- ---- the search

above : (least first : ℕ) (chunks : List (List ℕ)) → AllByRecursion (IsChunk least) chunks → (j d : ℕ) → j < length (ends_from first chunks) → first < get_or (ends_from first chunks) j d
above least first [] all j d lt = absurd (omega (arith, lt))
above least first (chunk ∷ chunks) all zero d lt = omega (arith, ap length all.0.is, length-append all.0.front (all.0.last ∷ []))
above least first (chunk ∷ chunks) all (suc j) d lt = omega (arith, above least (first + length chunk) chunks all.1 j d (omega (arith, lt)))

reaches : (end index : ℕ) → nat_le end index ≡ true → end ≤ index
reaches end index h = grind (arith, nat_tests)

reached : (end index : ℕ) → end ≤ index → nat_le end index ≡ true
reached end index h = grind (arith, nat_tests)

pub parted : (least first index : ℕ) (chunks : List (List ℕ)) → AllByRecursion (IsChunk least) chunks → IsPartitionedBy (λ end. nat_le end index) (ends_from first chunks)
parted least first index [] all i j d le lt h = absurd (omega (arith, lt))
parted least first index (chunk ∷ chunks) all zero zero d le lt h = h
parted least first index (chunk ∷ chunks) all (suc i) zero d le lt h = absurd (omega (arith, le))
parted least first index (chunk ∷ chunks) all zero (suc j) d le lt h =
    reached (first + length chunk) index (omega (arith, above least (first + length chunk) chunks all.1 j d (omega (arith, lt)), reaches (get_or (ends_from (first + length chunk) chunks) j d) index h))
parted least first index (chunk ∷ chunks) all (suc i) (suc j) d le lt h = parted least (first + length chunk) index chunks all.1 i j d (omega (arith, le)) (omega (arith, lt)) h

passes_not : (end index : ℕ) → nat_le end index ≡ true → nat_lt index end ≡ false
passes_not end index h = grind (arith, nat_tests)

passes : (end index : ℕ) → nat_le end index ≡ false → nat_lt index end ≡ true
passes end index h = grind (arith, nat_tests)

pub found_at : (index : ℕ) (ends : List ℕ) (n : ℕ) → n ≤ length ends → AllWithin (λ end. nat_le end index ≡ true) ends 0 n → AllWithin (λ end. nat_le end index ≡ false) ends n (length ends)
    → slice_get ends n ≡ find (λ end. nat_lt index end) ends
found_at index [] n le low high = refl
found_at index (end ∷ ends) zero le low high = sym (if_true (nat_lt index end) (Some end) (find (λ e. nat_lt index e) ends) (passes end index (high 0 end (omega arith) (omega arith))))
found_at index (end ∷ ends) (suc n) le low high =
    found_at index ends n (omega (arith, le)) (λ k d lo hi. low (suc k) d (omega (arith, lo)) (omega (arith, hi))) (λ k d lo hi. high (suc k) d (omega (arith, lo)) (omega (arith, hi)))
    ∙ sym (if_false (nat_lt index end) (Some end) (find (λ e. nat_lt index e) ends) (passes_not end index (low 0 end (omega arith) (omega arith))))

pub all_parted : (cut : Cut) (sizes : List ℕ) (index : ℕ) → HasCut cut sizes → IsPartitionedBy (λ end. nat_le end index) cut.ends
all_parted cut sizes index has = subst (λ (es : List ℕ). IsPartitionedBy (λ end. nat_le end index) es) (sym has.ends) (parted cut.least 0 index (closed_chunks cut.least sizes) (chunks_cut cut.least sizes has.some).1)

pub end_found : (cut : Cut) (sizes : List ℕ) (index n : ℕ) → HasCut cut sizes → n ≤ length cut.ends → IsPartitionPoint (λ end. nat_le end index ≡ true) (λ end. nat_le end index ≡ false) cut.ends n
    → slice_get cut.ends n ≡ chunk_end cut.least sizes index
end_found cut sizes index n has le point = found_at index cut.ends n le point.0 point.1 ∙ ap (find (λ end. nat_lt index end)) has.ends
