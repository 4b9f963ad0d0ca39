-- Entries written, and lines appended.
use Rattle.std.proofs.Common.{◌≡◌, ℕ, suc, ◌+◌, ◌-◌, ◌<◌, ◌≤◌, true, List, [], ◌∷◌, ◌++◌, length, map, take, drop, get_or, refl, sym, ap, ap₂, subst, ◌∙◌, arith, append_assoc, append-nil}
use Rattle.std.specs.List.{sum}
use Rattle.std.proofs.lemmas.Bool.{and_parts}
use Rattle.std.proofs.lemmas.List.{nil_from_length, take_more, take_all, take-append-le, drop-append-le, map-append, length-take-le, length-drop}
use Rattle.std.proofs.lemmas.List.Sums.{sum_by-append}
use Rattle.shape_base.specs.declared.offset.Offset.{Offset}
use Rattle.shape_base.specs.declared.offset.Offset.TheVariants.{At}
use Rattle.shape_base.specs.declared.entry.Entry.{Entry}
use Rattle.shape_base.specs.Offsets.{is_before}
use Rattle.shape_log.specs.Texts.{rise_after, end_of, last_from}
use Rattle.shape_json.specs.Body.{entry_text}
use Rattle.chunked_log.specs.declared.written.Line.{Line}
use Rattle.chunked_log.specs.Lines.{offsets_in, sizes_in, size_in, texts_in}
use Rattle.chunked_log.specs.Chunked.{offsets_of}

-- ---- writing

-- the line of an entry
abbrev pub line_of : Entry → Line
line_of e = record { offset = e.offset; size = length (entry_text e) }

sum_first : (n : ℕ) (ns : List ℕ) → sum (n ∷ ns) ≡ n + sum ns
sum_first n ns = sum_by-append (λ x. x) (n ∷ []) ns ∙ ap (λ (m : ℕ). m + sum ns) (let e : sum (n ∷ []) ≡ n = omega arith in e)

-- ---- lines

pub size_first : (l : Line) (ls : List Line) → size_in (l ∷ ls) ≡ l.size + size_in ls
size_first l ls = sum_first l.size (sizes_in ls)

pub count_texts : (ls : List Line) (bytes : List ℕ) → length (texts_in ls bytes) ≡ length ls
count_texts [] bytes = refl
count_texts (l ∷ ls) bytes = ap suc (count_texts ls (drop l.size bytes))

-- What is left to append, where so many lines were.
pub record IsLeft (offsets all_offsets : List Offset) (texts all_texts : List (List ℕ)) (left : List Line) (rest : List ℕ) (spare counted room : ℕ) : Type 0 where
  pub sizes : size_in left ≡ length rest
  pub offsets_left : offsets ++ offsets_in left ≡ all_offsets
  pub texts_left : texts ++ texts_in left rest ≡ all_texts
  pub rises : rise_after (end_of offsets) (offsets_in left) ≡ true
  pub has_spare : length left ≤ spare
  pub has_counted : length left ≤ counted
  pub has_room : length rest + length left ≤ room

last_more : (o : Offset) (xs : List Offset) (x : Offset) → last_from o (xs ++ x ∷ []) ≡ x
last_more o [] x = refl
last_more o (y ∷ xs) x = last_more y xs x

pub left_more : (offsets all_offsets new_offsets : List Offset) (texts all_texts new_texts : List (List ℕ)) (l : Line) (left : List Line) (rest text others : List ℕ) (spare counted room new_spare new_counted new_room : ℕ)
    → IsLeft offsets all_offsets texts all_texts (l ∷ left) rest spare counted room → text ≡ take l.size rest → others ≡ drop l.size rest → length text + length others ≡ length rest
    → new_offsets ≡ offsets ++ l.offset ∷ [] → new_texts ≡ texts ++ text ∷ [] → new_spare + 1 ≡ spare → new_counted + 1 ≡ counted → new_room + length text + 1 ≡ room
    → IsLeft new_offsets all_offsets new_texts all_texts left others new_spare new_counted new_room
left_more offsets all_offsets new_offsets texts all_texts new_texts l left rest text others spare counted room new_spare new_counted new_room h is_text is_others whole eo et es ec er =
    let parts = and_parts (is_before (end_of offsets) l.offset) _ h.rises in
    let first = size_first l left in
    let long : length text ≡ l.size = ap length is_text ∙ length-take-le l.size rest (omega (arith, first, h.sizes)) in
    record {
      sizes = omega (arith, first, h.sizes, whole, long);
      offsets_left = ap (λ (os : List Offset). os ++ offsets_in left) eo ∙ append_assoc offsets (l.offset ∷ []) (offsets_in left) ∙ h.offsets_left;
      texts_left = ap₂ (λ (ts us : List (List ℕ)). ts ++ us) et (ap (texts_in left) is_others) ∙ append_assoc texts (text ∷ []) (texts_in left (drop l.size rest)) ∙ ap (λ (t : List ℕ). texts ++ (t ∷ texts_in left (drop l.size rest))) is_text ∙ h.texts_left;
      rises = subst (λ (o : Offset). rise_after o (offsets_in left) ≡ true) (sym (ap end_of eo ∙ last_more (At 0 0) offsets l.offset)) parts.1;
      has_spare = omega (arith, h.has_spare, es);
      has_counted = omega (arith, h.has_counted, ec);
      has_room = omega (arith, h.has_room, er, whole);
    }

pub left_none : (offsets all_offsets : List Offset) (texts all_texts : List (List ℕ)) (left : List Line) (rest : List ℕ) (spare counted room : ℕ) → IsLeft offsets all_offsets texts all_texts left rest spare counted room → left ≡ []
    → (offsets ≡ all_offsets) × (texts ≡ all_texts)
left_none offsets all_offsets texts all_texts left rest spare counted room h e =
    (sym (append-nil offsets) ∙ ap (λ (ls : List Line). offsets ++ offsets_in ls) (sym e) ∙ h.offsets_left, sym (append-nil texts) ∙ ap (λ (ls : List Line). texts ++ texts_in ls rest) (sym e) ∙ h.texts_left)

-- the size of the first line is within the bytes
pub size_within : (offsets all_offsets : List Offset) (texts all_texts : List (List ℕ)) (l : Line) (left : List Line) (rest : List ℕ) (spare counted room : ℕ) → IsLeft offsets all_offsets texts all_texts (l ∷ left) rest spare counted room → l.size ≤ length rest
size_within offsets all_offsets texts all_texts l left rest spare counted room h = omega (arith, size_first l left, h.sizes)

-- the texts have their sizes
pub sum_texts : (ls : List Line) (bytes : List ℕ) → size_in ls ≡ length bytes → sum (map length (texts_in ls bytes)) ≡ length bytes
sum_texts [] bytes h = h
sum_texts (l ∷ ls) bytes h =
    let first = size_first l ls in
    let taken : length (take l.size bytes) ≡ l.size = length-take-le l.size bytes (omega (arith, first, h)) in
    let left : length (drop l.size bytes) ≡ length bytes - l.size = length-drop l.size bytes in
    omega (arith, sum_first (length (take l.size bytes)) (map length (texts_in ls (drop l.size bytes))), sum_texts ls (drop l.size bytes) (omega (arith, first, h, left)), taken, left, first, h)

-- ---- one more

-- the size of a line more
pub sizes_more : (ls : List Line) (i : ℕ) (d : Line) → i < length ls → sizes_in (take (i + 1) ls) ≡ sizes_in (take i ls) ++ (get_or ls i d).size ∷ []
sizes_more ls i d lt = ap sizes_in (take_more ls i d lt) ∙ map-append (λ (l : Line). l.size) (take i ls) (get_or ls i d ∷ [])

-- the lengths of the texts are the sizes of the lines
pub sizes_texts : (ls : List Line) (bytes : List ℕ) → size_in ls ≡ length bytes → map length (texts_in ls bytes) ≡ sizes_in ls
sizes_texts [] bytes h = refl
sizes_texts (l ∷ ls) bytes h =
    let first = size_first l ls in
    let left : length (drop l.size bytes) ≡ length bytes - l.size = length-drop l.size bytes in
    ap₂ (λ (n : ℕ) (ns : List ℕ). n ∷ ns) (length-take-le l.size bytes (omega (arith, first, h))) (sizes_texts ls (drop l.size bytes) (omega (arith, first, h, left)))

-- ---- one text more

sum_last : (ns : List ℕ) (n : ℕ) → sum (ns ++ n ∷ []) ≡ sum ns + n
sum_last ns n = sum_by-append (λ x. x) ns (n ∷ []) ∙ ap (λ (m : ℕ). sum ns + m) (let e : sum (n ∷ []) ≡ n = omega arith in e)

pub size_last : (ls : List Line) (l : Line) → size_in (ls ++ l ∷ []) ≡ size_in ls + l.size
size_last ls l = ap sum (map-append (λ (k : Line). k.size) ls (l ∷ [])) ∙ sum_last (sizes_in ls) l.size

pub texts_last : (ls : List Line) (l : Line) (bytes text : List ℕ) → size_in ls ≡ length bytes → l.size ≡ length text → texts_in (ls ++ l ∷ []) (bytes ++ text) ≡ texts_in ls bytes ++ text ∷ []
texts_last [] l bytes text whole size =
    let none : bytes ≡ [] = nil_from_length bytes (sym whole) in
    ap (λ (b : List ℕ). take l.size (b ++ text) ∷ []) none ∙ ap (λ (t : List ℕ). t ∷ []) (take_all l.size text (omega (arith, size)))
texts_last (k ∷ ls) l bytes text whole size =
    let parts : k.size + size_in ls ≡ length bytes = sym (size_first k ls) ∙ whole in
    ap₂ (λ (x : List ℕ) (xs : List (List ℕ)). x ∷ xs) (take-append-le k.size bytes text (omega (arith, parts)))
    (ap (texts_in (ls ++ l ∷ [])) (drop-append-le k.size bytes text (omega (arith, parts))) ∙ texts_last ls l (drop k.size bytes) text (omega (arith, parts, length-drop k.size bytes)) size)

-- a text behind the others is the text of an entry more
pub writes_more : (ls : List Line) (bytes : List ℕ) (es : List Entry) (e : Entry) (l : Line) → size_in ls ≡ length bytes → l ≡ line_of e → offsets_in ls ≡ offsets_of es → texts_in ls bytes ≡ map entry_text es
    → (offsets_in (ls ++ l ∷ []) ≡ offsets_of (es ++ e ∷ [])) × (texts_in (ls ++ l ∷ []) (bytes ++ entry_text e) ≡ map entry_text (es ++ e ∷ []))
writes_more ls bytes es e l whole is offsets texts = (
  map-append (λ (k : Line). k.offset) ls (l ∷ []) ∙ ap₂ (λ (os : List Offset) (o : Offset). os ++ o ∷ []) offsets (ap (λ (k : Line). k.offset) is) ∙ sym (map-append (λ (x : Entry). x.offset) es (e ∷ [])),
  texts_last ls l bytes (entry_text e) whole (ap (λ (k : Line). k.size) is) ∙ ap (λ (ts : List (List ℕ)). ts ++ entry_text e ∷ []) texts ∙ sym (map-append entry_text es (e ∷ [])),
)
