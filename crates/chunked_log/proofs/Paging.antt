-- The part of a log that a page carries.
use Rattle.std.proofs.Common.{◌≡◌, ℕ, zero, suc, ◌+◌, ◌-◌, ◌<◌, ◌≤◌, Bool, true, false, List, [], ◌∷◌, ◌++◌, length, map, take, drop, refl, sym, ap, ap₂, subst, ◌∙◌, arith, length-append, Option, None, Some}
use Rattle.std.specs.Prelude.{nat_lt, nat_le, ◌&&◌, find, slice_range, slice_get}
use Rattle.std.specs.Bool.{if◌then◌else◌}
use Rattle.std.specs.List.{sum}
use Rattle.std.proofs.Math.Seq.{drop-append_seam}
use Rattle.std.proofs.lemmas.Bool.Decides.{nat_tests}
use Rattle.std.proofs.lemmas.List.{take-map, drop-map, take_all, length-drop, length-map, length-take-le}
use Rattle.std.proofs.Math.ListN.{drop_of_length-le}
use Rattle.shape_base.specs.declared.offset.Offset.{Offset}
use Rattle.shape_base.specs.declared.offset.Offset.TheVariants.{At}
use Rattle.shape_base.specs.declared.entry.Entry.{Entry}
use Rattle.shape_base.specs.declared.page.Page.{Page}
use Rattle.shape_base.specs.Offsets.{is_before, rises_after, upto, past, end_from}
use Rattle.shape_base.specs.Log as logs
use Rattle.shape_base.specs.Chunks.{closed_chunks, chunks_from}
use Rattle.shape_base.proofs.Lemmas.{upto_past}
use Rattle.shape_log.specs.Texts as texts
use Rattle.shape_log.specs.Texts.{count_upto, last_from}
use Rattle.chunk_cutter.specs.Ends.{ends_from, chunk_ends}
use Rattle.chunk_cutter.specs.Ends as ends
use Rattle.shape_json.specs.Body as body
use Rattle.shape_json.specs.Body.{entry_text, inner_text}
use Rattle.shape_json.specs.Page.{Part, sizes_of, end_among, chunk_end, part, part_to, page_of}
use Rattle.shape_json.proofs.Lemmas.{page_stays}
use Rattle.chunked_log.specs.Chunked.{Texts, Chunked, Writes, Holds, Carries, offsets_of}
use Rattle.chunked_log.specs.Paging.{StopsAt}

-- ---- the two spellings of one thing

joined_is : (ts : List (List ℕ)) → texts.joined ts ≡ body.joined ts
joined_is [] = refl
joined_is (t ∷ ts) = refl

find_if : (b : Bool) (x : ℕ) (later other : Option ℕ) → later ≡ other → ◌≡◌ {A = Option ℕ} (if b then Some x else later) (if b then Some x else other)
find_if true x later other e = refl
find_if false x later other e = e

end_is_among : (first : ℕ) (chunks : List (List ℕ)) (place : ℕ) → find (λ end. nat_lt place end) (ends_from first chunks) ≡ end_among first chunks place
end_is_among first [] place = refl
end_is_among first (chunk ∷ chunks) place =
    find_if (nat_lt place (first + length chunk)) (first + length chunk) (find (λ end. nat_lt place end) (ends_from (first + length chunk) chunks)) (end_among (first + length chunk) chunks place) (end_is_among (first + length chunk) chunks place)

pub chunk_end_is : (least : ℕ) (sizes : List ℕ) (place : ℕ) → ends.chunk_end least sizes place ≡ chunk_end least sizes place
chunk_end_is least sizes place = end_is_among 0 (closed_chunks least sizes) place

count_if : (b : Bool) (e : Entry) (es : List Entry) (n : ℕ) → n ≡ length es → (if b then 0 else suc n) ≡ length (if b then [] else e ∷ es)
count_if true e es n h = refl
count_if false e es n h = ap suc h

pub count_is : (o : Offset) (es : List Entry) → count_upto o (offsets_of es) ≡ length (upto o es)
count_is o [] = refl
count_is o (e ∷ es) = count_if (is_before o e.offset) e (upto o es) (count_upto o (offsets_of es)) (count_is o es)

pub last_is : (o : Offset) (es : List Entry) → last_from o (offsets_of es) ≡ logs.last_offset o es
last_is o [] = refl
last_is o (e ∷ es) = last_is e.offset es

-- ---- where a chunk ends

count_in : List (List ℕ) → ℕ
count_in [] = 0
count_in (chunk ∷ chunks) = length chunk + count_in chunks

fits_if : (least : ℕ) (run : List ℕ) (size : ℕ) (sizes : List ℕ) (b : Bool) → count_in (chunks_from least [] sizes) ≤ length sizes → count_in (chunks_from least (run ++ size ∷ []) sizes) ≤ length (run ++ size ∷ []) + length sizes
    → count_in (if b then (run ++ size ∷ []) ∷ chunks_from least [] sizes else chunks_from least (run ++ size ∷ []) sizes) ≤ length run + (1 + length sizes)
unfolding count_in
fits_if least run size sizes true closed open_ = omega (arith, closed, length-append run (size ∷ []))
fits_if least run size sizes false closed open_ = omega (arith, open_, length-append run (size ∷ []))

fits : (least : ℕ) (run sizes : List ℕ) → count_in (chunks_from least run sizes) ≤ length run + length sizes
unfolding count_in
fits least run [] = omega arith
fits least run (size ∷ sizes) =
    let all = fits_if least run size sizes (nat_le least (sum run + size)) (omega (arith, fits least [] sizes)) (fits least (run ++ size ∷ []) sizes) in
    omega (arith, all)

some_once : (a b : ℕ) → ◌≡◌ {A = Option ℕ} (Some a) (Some b) → a ≡ b
some_once a b e = cc

inside_if : (first place end : ℕ) (chunk : List ℕ) (later : Option ℕ) (count : ℕ) (b : Bool) → nat_lt place (first + length chunk) ≡ b → (if b then Some (first + length chunk) else later) ≡ Some end
    → (later ≡ Some end → (place < end) × (end ≤ first + length chunk + count)) → (place < end) × (end ≤ first + (length chunk + count))
inside_if first place end chunk later count true is e more =
    let same = some_once (first + length chunk) end e in
    let lt : place < first + length chunk = grind (arith, nat_tests) in
    (omega (arith, same, lt), omega (arith, same))
inside_if first place end chunk later count false is e more = let both = more e in (both.0, omega (arith, both.1))

inside : (first : ℕ) (chunks : List (List ℕ)) (place end : ℕ) → end_among first chunks place ≡ Some end → (place < end) × (end ≤ first + count_in chunks)
unfolding count_in
inside first [] place end e = absurd (cc)
inside first (chunk ∷ chunks) place end e =
    inside_if first place end chunk (end_among (first + length chunk) chunks place) (count_in chunks) (nat_lt place (first + length chunk)) refl e (inside (first + length chunk) chunks place end)

-- the end of a closed chunk stands behind the place and inside the sizes
pub end_inside : (least : ℕ) (sizes : List ℕ) (place end : ℕ) → chunk_end least sizes place ≡ Some end → (place < end) × (end ≤ length sizes)
end_inside least sizes place end e =
    let both = inside 0 (closed_chunks least sizes) place end e in
    (both.0, omega (arith, both.1, fits least [] sizes))

pub stop_behind : (least : ℕ) (texts : List (List ℕ)) (place end : ℕ) → ends.chunk_end least (map length texts) place ≡ Some end → (place ≤ end) × (end ≤ length texts)
stop_behind least texts place end e =
    let both = end_inside least (map length texts) place end (sym (chunk_end_is least (map length texts) place) ∙ e) in
    (omega (arith, both.0), omega (arith, both.1, length-map texts (λ (t : List ℕ). length t)))

-- ---- the page

inside_more : (b : Bool) (m n : ℕ) → m ≤ n → (if b then 0 else suc m) ≤ suc n
inside_more true m n h = omega arith
inside_more false m n h = omega (arith, h)

pub count_inside : (o : Offset) (os : List Offset) → count_upto o os ≤ length os
count_inside o [] = omega arith
count_inside o (x ∷ xs) = inside_more (is_before o x) (count_upto o xs) (length xs) (count_inside o xs)

past_is : (o : Offset) (es : List Entry) → drop (length (upto o es)) es ≡ past o es
past_is o es = ap (drop (length (upto o es))) (sym (upto_past o es)) ∙ drop-append_seam (upto o es) (past o es)

-- the entries of a page, by its places
pub part_if : (es : List Entry) (o : Offset) (closed : Option ℕ) (stop : ℕ × Bool) → StopsAt closed (length es) stop → part_to es o closed ≡ part o (slice_range es (length (upto o es)) stop.0) stop.1
part_if es o None stop is =
    let whole : length (past o es) ≤ stop.0 - length (upto o es) = omega (arith, is.0, ap length (past_is o es), length-drop (length (upto o es)) es) in
    ap₂ (λ (ps : List Entry) (b : Bool). part o ps b) (sym (ap (take (stop.0 - length (upto o es))) (past_is o es) ∙ take_all (stop.0 - length (upto o es)) (past o es) whole)) (sym is.1)
part_if es o (Some end) stop is =
    ap₂ (λ (ps : List Entry) (b : Bool). part o ps b) (ap (λ (n : ℕ). take (n - length (upto o es)) (past o es)) (sym is.0) ∙ ap (take (stop.0 - length (upto o es))) (sym (past_is o es))) (sym is.1)

-- what a page is made of, by its places in a log of these entries
pub record IsMade (log : Chunked) (o : Offset) (from : ℕ) (stop : ℕ × Bool) (page : Page) : Type 0 where
  pub from_is : from ≡ count_upto o log.offsets
  pub stops : StopsAt (ends.chunk_end log.least (map length log.texts) from) (length log.texts) stop
  pub within : stop.0 ≤ length log.texts
  pub inner : page.inner ≡ texts.joined (slice_range log.texts from stop.0)
  pub count : page.count ≡ stop.0 - from
  pub end : page.end ≡ last_from (end_from o) (slice_range log.offsets from stop.0)
  pub up_to_date : page.up_to_date ≡ stop.1

-- the sizes of entries are the lengths of their texts
pub sizes_are : (es : List Entry) → map length (map entry_text es) ≡ sizes_of es
sizes_are [] = refl
sizes_are (e ∷ es) = ap (λ (ns : List ℕ). length (entry_text e) ∷ ns) (sizes_are es)

from_place : (log : Chunked) (es : List Entry) (o : Offset) (from : ℕ) (stop : ℕ × Bool) (page : Page) → Holds log es → IsMade log o from stop page → from ≡ length (upto o es)
from_place log es o from stop page held is = is.from_is ∙ ap (count_upto o) held.offsets ∙ count_is o es

closed_is : (log : Chunked) (es : List Entry) (o : Offset) (from : ℕ) (stop : ℕ × Bool) (page : Page) → Holds log es → IsMade log o from stop page
    → ends.chunk_end log.least (map length log.texts) from ≡ chunk_end log.least (sizes_of es) (length (upto o es))
closed_is log es o from stop page held is =
    chunk_end_is log.least (map length log.texts) from ∙ ap₂ (λ (ns : List ℕ) (n : ℕ). chunk_end log.least ns n) (ap (map length) held.texts ∙ sizes_are es) (from_place log es o from stop page held is)

count_held : (log : Chunked) (es : List Entry) → Holds log es → length log.texts ≡ length es
count_held log es held = ap length held.texts ∙ length-map es entry_text

-- the page is the page of the log
pub carried : (log : Chunked) (es : List Entry) (o : Offset) (from : ℕ) (stop : ℕ × Bool) (page : Page) → Holds log es → IsMade log o from stop page → Carries page (page_of log.least es o)
carried log es o from stop page held is =
    let place = from_place log es o from stop page held is in
    let n = length (upto o es) in
    let count = count_held log es held in
    let stops = subst (λ (closed : Option ℕ). StopsAt closed (length es) stop) (closed_is log es o from stop page held is) (subst (λ (k : ℕ). StopsAt (ends.chunk_end log.least (map length log.texts) from) k stop) count is.stops) in
    let whole = part_if es o (chunk_end log.least (sizes_of es) n) stop stops in
    subst (λ (p : Part). Carries page p) (sym whole) (record {
      inner = is.inner ∙ ap₂ (λ (ts : List (List ℕ)) (k : ℕ). texts.joined (slice_range ts k stop.0)) held.texts place ∙ joined_is (slice_range (map entry_text es) n stop.0)
          ∙ ap body.joined (ap (take (stop.0 - n)) (drop-map entry_text n es) ∙ take-map entry_text (stop.0 - n) (drop n es));
      count = is.count ∙ (let e : stop.0 - from ≡ length (slice_range es n stop.0) = omega (arith, length-take-le (stop.0 - n) (drop n es) (omega (arith, length-drop n es, is.within, count)), place) in e);
      end = is.end ∙ ap₂ (λ (os : List Offset) (k : ℕ). last_from (end_from o) (slice_range os k stop.0)) held.offsets place
          ∙ ap (last_from (end_from o)) (ap (take (stop.0 - n)) (drop-map (λ (e : Entry). e.offset) n es) ∙ take-map (λ (e : Entry). e.offset) (stop.0 - n) (drop n es)) ∙ last_is (end_from o) (slice_range es n stop.0);
      up_to_date = is.up_to_date;
    })

-- it stays for each longer log, where it ends a closed chunk
pub settled : (log : Chunked) (es more : List Entry) (o : Offset) (from : ℕ) (stop : ℕ × Bool) (page : Page) → Holds log es → IsMade log o from stop page → page.up_to_date ≡ false → Carries page (page_of log.least (es ++ more) o)
settled log es more o from stop page held is closed =
    let c = carried log es o from stop page held is in
    subst (λ (p : Part). Carries page p) (sym (page_stays log.least es more o (sym c.up_to_date ∙ closed))) c

-- a page without entries has nothing behind it
filled_if : (es : List Entry) (o : Offset) (closed : Option ℕ) (stop : ℕ × Bool) (from : ℕ) → from ≡ length (upto o es) → StopsAt closed (length es) stop → ((end : ℕ) → closed ≡ Some end → from < end) → stop.0 - from ≡ 0 → past o es ≡ []
filled_if es o None stop from place is h none = sym (past_is o es) ∙ drop_of_length-le es (omega (arith, is.0, place, none))
filled_if es o (Some end) stop from place is h none = absurd (omega (arith, h end refl, is.0, none))

pub filled : (log : Chunked) (es : List Entry) (o : Offset) (from : ℕ) (stop : ℕ × Bool) (page : Page) → Holds log es → IsMade log o from stop page → page.count ≡ 0 → past o es ≡ []
filled log es o from stop page held is none =
    filled_if es o (ends.chunk_end log.least (map length log.texts) from) stop from (from_place log es o from stop page held is)
    (subst (λ (k : ℕ). StopsAt (ends.chunk_end log.least (map length log.texts) from) k stop) (count_held log es held) is.stops)
    (λ end e. (end_inside log.least (map length log.texts) from end (sym (chunk_end_is log.least (map length log.texts) from) ∙ e)).0) (sym is.count ∙ none)

-- ---- the end of a page

nth_last : (o : Offset) (xs : List Offset) (n : ℕ) (x : Offset) → slice_get xs n ≡ Some x → last_from o (take (n + 1) xs) ≡ x
nth_last o [] n x h = absurd (cc)
nth_last o (y ∷ ys) zero x h = cc
nth_last o (y ∷ ys) (suc n) x h = ap (λ (k : ℕ). last_from o (take k (y ∷ ys))) (let e : suc n + 1 ≡ suc (n + 1) = omega arith in e) ∙ nth_last y ys n x h

get_drop : (xs : List Offset) (from n : ℕ) → slice_get (drop from xs) n ≡ slice_get xs (from + n)
get_drop xs zero n = ap (slice_get xs) (let e : n ≡ 0 + n = omega arith in e)
get_drop [] (suc from) n = refl
get_drop (x ∷ xs) (suc from) n = get_drop xs from n ∙ ap (slice_get (x ∷ xs)) (let e : suc (from + n) ≡ suc from + n = omega arith in e)

-- the end of the entries from one place up to below the other is the offset in the place before that
pub end_between : (o : Offset) (xs : List Offset) (from to : ℕ) (x : Offset) → from < to → slice_get xs (to - 1) ≡ Some x → x ≡ last_from o (slice_range xs from to)
end_between o xs from to x lt h =
    let n : from + (to - from - 1) ≡ to - 1 = omega (arith, lt) in
    let m : (to - from - 1) + 1 ≡ to - from = omega (arith, lt) in
    sym (ap (λ (k : ℕ). last_from o (take k (drop from xs))) (sym m) ∙ nth_last o (drop from xs) (to - from - 1) x (get_drop xs from (to - from - 1) ∙ ap (slice_get xs) n ∙ h))

-- ---- entries behind a log

rises_is : (o : Offset) (es : List Entry) → texts.rise_after o (offsets_of es) ≡ rises_after o es
rises_is o [] = refl
rises_is o (e ∷ es) = ap (λ (b : Bool). is_before o e.offset && b) (rises_is e.offset es)

-- Written entries may stand behind a log where their offsets rise from its end.
pub rises_behind : (log : Chunked) (es : List Entry) (written : Texts) (more : List Entry) → Holds log es → Writes written more → rises_after (logs.end_of es) more ≡ true → texts.rise_after (texts.end_of log.offsets) written.offsets ≡ true
rises_behind log es written more held writes h =
    ap₂ texts.rise_after (ap texts.end_of held.offsets ∙ last_is (At 0 0) es) writes.offsets ∙ rises_is (logs.end_of es) more ∙ h
