-- A page that ends a closed chunk stays as it is.
use Rattle.std.proofs.Common.{◌≡◌, ℕ, ◌+◌, ◌-◌, ◌<◌, ◌≤◌, Bool, true, false, true≢false, List, [], ◌∷◌, ◌++◌, length, take, drop, refl, sym, ap, ap₂, ◌∙◌, arith, length-append, Option, None, Some}
use Rattle.std.specs.Prelude.{nat_lt, nat_le}
use Rattle.std.specs.Bool.{if◌then◌else◌}
use Rattle.std.specs.List.{sum}
use Rattle.std.proofs.lemmas.Bool.Decides.{nat_tests}
use Rattle.std.proofs.lemmas.List.{map-append, take-append-le, length-map, append-nil, take-append-drop}
use Rattle.shape_base.specs.declared.offset.Offset.{Offset}
use Rattle.shape_base.specs.declared.entry.Entry.{Entry}
use Rattle.shape_base.specs.Offsets.{is_before, upto, past}
use Rattle.shape_base.specs.Chunks.{closed_chunks, chunks_from, open_chunk}
use Rattle.shape_base.proofs.Lemmas.{chunks_stay, upto_past}
use Rattle.shape_json.specs.Body.{entry_text}
use Rattle.shape_json.specs.Page.{sizes_of, end_among, chunk_end, part, count_upto, part_to, IsPage}
use Rattle.shape_json.specs.Laws.{PageStays, PageIsFront}

-- how many sizes there are in chunks
abbrev count_in : List (List ℕ) → ℕ
count_in [] = 0
count_in (chunk ∷ chunks) = length chunk + count_in chunks

count_if : (least : ℕ) (run : List ℕ) (size : ℕ) (sizes : List ℕ) (b : Bool) → count_in (chunks_from least [] sizes) ≤ length sizes → count_in (chunks_from least (run ++ size ∷ []) sizes) ≤ length (run ++ size ∷ []) + length sizes
    → count_in (if b then (run ++ size ∷ []) ∷ chunks_from least [] sizes else chunks_from least (run ++ size ∷ []) sizes) ≤ length run + (1 + length sizes)
count_if least run size sizes true closed open_ = omega (arith, closed, length-append run (size ∷ []))
count_if least run size sizes false closed open_ = omega (arith, open_, length-append run (size ∷ []))

count_from : (least : ℕ) (run sizes : List ℕ) → count_in (chunks_from least run sizes) ≤ length run + length sizes
count_from least run [] = omega arith
count_from least run (size ∷ sizes) =
    let all = count_if least run size sizes (nat_le least (sum run + size)) (omega (arith, count_from least [] sizes)) (count_from least (run ++ size ∷ []) sizes) in
    omega (arith, all)

some_once : (a b : ℕ) → ◌≡◌ {A = Option ℕ} (Some a) (Some b) → a ≡ b
some_once a b e = cc

-- where a chunk ends: past the place, and within the sizes
ends_if : (first place end : ℕ) (chunk : List ℕ) (later : Option ℕ) (count : ℕ) (b : Bool) → nat_lt place (first + length chunk) ≡ b → (if b then Some (first + length chunk) else later) ≡ Some end
    → (later ≡ Some end → (place < end) × (end ≤ first + length chunk + count)) → (place < end) × (end ≤ first + (length chunk + count))
ends_if first place end chunk later count true is e more =
    let same = some_once (first + length chunk) end e in
    let lt : place < first + length chunk = grind (arith, nat_tests) in
    (omega (arith, same, lt), omega (arith, same))
ends_if first place end chunk later count false is e more = let both = more e in (both.0, omega (arith, both.1))

ends_within : (first : ℕ) (chunks : List (List ℕ)) (place end : ℕ) → end_among first chunks place ≡ Some end → (place < end) × (end ≤ first + count_in chunks)
ends_within first [] place end e = absurd (cc)
ends_within first (chunk ∷ chunks) place end e =
    ends_if first place end chunk (end_among (first + length chunk) chunks place) (count_in chunks) (nat_lt place (first + length chunk)) refl e (ends_within (first + length chunk) chunks place end)

grows_if : (b : Bool) (x : ℕ) (y z : Option ℕ) (end : ℕ) → ◌≡◌ {A = Option ℕ} (if b then Some x else y) (Some end) → (y ≡ Some end → z ≡ Some end) → ◌≡◌ {A = Option ℕ} (if b then Some x else z) (Some end)
grows_if true x y z end e more = e
grows_if false x y z end e more = more e

ends_still : (first : ℕ) (chunks more : List (List ℕ)) (place end : ℕ) → end_among first chunks place ≡ Some end → end_among first (chunks ++ more) place ≡ Some end
ends_still first [] more place end e = absurd (cc)
ends_still first (chunk ∷ chunks) more place end e =
    grows_if (nat_lt place (first + length chunk)) (first + length chunk) (end_among (first + length chunk) chunks place) (end_among (first + length chunk) (chunks ++ more) place) end e (ends_still (first + length chunk) chunks more place end)

-- ---- entries of a longer log

split_if : (b : Bool) (e : Entry) (log more upto_log upto_more past_log past_more : List Entry) → length (if b then [] else e ∷ upto_log) < 1 + length log
    → (length upto_log < length log → (upto_more ≡ upto_log) × (past_more ≡ past_log ++ more))
    → (◌≡◌ {A = List Entry} (if b then [] else e ∷ upto_more) (if b then [] else e ∷ upto_log)) × (◌≡◌ {A = List Entry} (if b then e ∷ (log ++ more) else past_more) ((if b then e ∷ log else past_log) ++ more))
split_if true e log more upto_log upto_more past_log past_more h rest = (refl, refl)
split_if false e log more upto_log upto_more past_log past_more h rest = let both = rest (omega (arith, h)) in (ap (λ (l : List Entry). e ∷ l) both.0, both.1)

split_longer : (o : Offset) (log more : List Entry) → length (upto o log) < length log → (upto o (log ++ more) ≡ upto o log) × (past o (log ++ more) ≡ past o log ++ more)
split_longer o [] more lt = absurd (omega (arith, lt))
split_longer o (e ∷ log) more lt =
    split_if (is_before o e.offset) e log more (upto o log) (upto o (log ++ more)) (past o log) (past o (log ++ more)) (omega (arith, lt)) (split_longer o log more)

length-past : (o : Offset) (log : List Entry) → length (upto o log) + length (past o log) ≡ length log
length-past o log = sym (length-append (upto o log) (past o log)) ∙ ap length (upto_past o log)

closed_if : (log : List Entry) (o : Offset) (end : Option ℕ) → (part_to log o end).up_to_date ≡ false → (n : ℕ) × (end ≡ Some n)
closed_if log o None h = absurd (true≢false h)
closed_if log o (Some n) h = (n, refl)

pub page_stays : PageStays
page_stays least log more o h =
    let place = count_upto o log in
    let closed = closed_if log o (chunk_end least (sizes_of log) place) h in
    let end = closed.0 in
    let within = ends_within 0 (closed_chunks least (sizes_of log)) place end closed.1 in
    let all : end ≤ length log = omega (arith, within.1, count_from least [] (sizes_of log), length-map log (λ (e : Entry). length (entry_text e))) in
    let longer = split_longer o log more (omega (arith, within.0, all)) in
    let same : count_upto o (log ++ more) ≡ place = ap length longer.0 in
    let sizes : sizes_of (log ++ more) ≡ sizes_of log ++ sizes_of more = map-append (λ (e : Entry). length (entry_text e)) log more in
    let still : chunk_end least (sizes_of (log ++ more)) (count_upto o (log ++ more)) ≡ Some end =
    ap₂ (λ (s : List ℕ) (n : ℕ). chunk_end least s n) sizes same
    ∙ ap (λ (cs : List (List ℕ)). end_among 0 cs place) (chunks_stay least (sizes_of log) (sizes_of more))
    ∙ ends_still 0 (closed_chunks least (sizes_of log)) (chunks_from least (open_chunk least (sizes_of log)) (sizes_of more)) place end closed.1 in
    let few : end - place ≤ length (past o log) = omega (arith, all, length-past o log) in
    ap (part_to (log ++ more) o) still
    ∙ ap₂ (λ (n : ℕ) (es : List Entry). part o (take (end - n) es) false) same longer.1
    ∙ ap (λ (es : List Entry). part o es false) (take-append-le (end - place) (past o log) more few)
    ∙ sym (ap (part_to log o) closed.1)

-- ---- a page is a front

is_part : (log : List Entry) (o : Offset) (end : Option ℕ) → IsPage log o (part_to log o end)
is_part log o None = record { rest = []; cut = sym (append-nil (past o log)); end = refl; all = λ _. refl }
is_part log o (Some end) = record { rest = drop (end - count_upto o log) (past o log); cut = sym (take-append-drop (end - count_upto o log) (past o log)); end = refl; all = λ t. cc }

pub page_is_front : PageIsFront
page_is_front least log o = is_part log o (chunk_end least (sizes_of log) (count_upto o log))
