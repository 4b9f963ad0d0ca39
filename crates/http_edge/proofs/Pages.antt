-- A page leads to what it leads to: the log up to its end is the log up to where it begins, and the page.
use Rattle.std.proofs.Common.{◌≡◌, true, false, List, [], ◌∷◌, ◌++◌, refl, sym, ◌∙◌, ap, subst, append_assoc}
use Rattle.std.proofs.lemmas.List.{append-nil}
use Rattle.shape_base.specs.declared.offset.Offset.{Offset}
use Rattle.shape_base.specs.declared.offset.Offset.TheVariants.{Start, At}
use Rattle.shape_base.specs.declared.entry.Entry.{Entry}
use Rattle.shape_base.specs.Offsets.{is_before, rises_after, upto, past, end_from}
use Rattle.shape_base.specs.Log.{fold, end_of, last_offset}
use Rattle.shape_base.proofs.Lemmas.{rises_front, last_least, last_offset-append, upto_none, upto_last, rises_from, upto_more, upto_past, rises_past}
use Rattle.shape_json.specs.Plain.{ArePlain}
use Rattle.shape_json.specs.Reading.{HaveOffsets}
use Rattle.shape_json.specs.Page.{Part, IsPage}
use Rattle.shape_json.proofs.Lemmas.{plain_front, plain_back}
use Rattle.http_edge.specs.Fair.{LeadAlike}

upto_end : (o : Offset) (es : List Entry) → rises_after (At 0 0) es ≡ true → upto (end_from o) es ≡ upto o es
upto_end (At a i) es h = refl
upto_end Start es h = upto_none (At 0 0) es h ∙ sym (upto_none Start es (rises_from (At 0 0) Start es refl h))

not_past_end : (o : Offset) (log : List Entry) → rises_after (At 0 0) log ≡ true → is_before (end_of log) o ≡ false → is_before (end_of log) (end_from o) ≡ false
not_past_end (At a i) log h k = k
not_past_end Start log h k = last_least (At 0 0) log h

cut_parts : (log us ps qs rest : List Entry) → log ≡ us ++ (ps ++ qs) → log ++ rest ≡ (us ++ ps) ++ (qs ++ rest)
cut_parts log us ps qs rest h = ap (λ (xs : List Entry). xs ++ rest) h ∙ simp append_assoc

-- What is up to the end of a front of the entries after an offset.
pub upto_page : (o : Offset) (log ps qs rest : List Entry) → rises_after (At 0 0) (log ++ rest) ≡ true → is_before (end_of log) o ≡ false → past o log ≡ ps ++ qs → upto (last_offset (end_from o) ps) (log ++ rest) ≡ upto o log ++ ps
upto_page o log [] qs rest h k cut = let front = rises_front (At 0 0) log rest h in
    upto_more (At 0 0) (end_from o) log rest h (not_past_end o log front k) ∙ upto_end o log front ∙ sym (append-nil (upto o log))
upto_page o log (e ∷ ps) qs rest h k cut =
    let cut_all : log ++ rest ≡ (upto o log ++ (e ∷ ps)) ++ (qs ++ rest) = cut_parts log (upto o log) (e ∷ ps) qs rest (sym (upto_past o log) ∙ ap (λ (xs : List Entry). upto o log ++ xs) cut) in
    let last : last_offset (At 0 0) (upto o log ++ (e ∷ ps)) ≡ last_offset (end_from o) (e ∷ ps) = last_offset-append (At 0 0) (upto o log) (e ∷ ps) in
    ap (λ (xs : List Entry). upto (last_offset (end_from o) (e ∷ ps)) xs) cut_all ∙ ap (λ (x : Offset). upto x ((upto o log ++ (e ∷ ps)) ++ (qs ++ rest))) (sym last)
    ∙ upto_last (At 0 0) (upto o log ++ (e ∷ ps)) (qs ++ rest) (subst (λ (xs : List Entry). rises_after (At 0 0) xs ≡ true) cut_all h)

offsets_front : (es fs : List Entry) → HaveOffsets (es ++ fs) → HaveOffsets es
offsets_front [] fs h = tt
offsets_front (e ∷ es) fs h = (h.0, offsets_front es fs h.1)

offsets_back : (es fs : List Entry) → HaveOffsets (es ++ fs) → HaveOffsets fs
offsets_back [] fs h = h
offsets_back (e ∷ es) fs h = offsets_back es fs h.1

-- A page leads to the rows that it leads to.
pub alike_itself : (log : List Entry) (o : Offset) (page : Part) → ArePlain log → HaveOffsets log → rises_after (At 0 0) log ≡ true → is_before (end_of log) o ≡ false → IsPage log o page → LeadAlike log o page page.entries
alike_itself log o page plain offsets rises there is =
    let alone : rises_after (At 0 0) (log ++ []) ≡ true = subst (λ (es : List Entry). rises_after (At 0 0) es ≡ true) (sym (append-nil log)) rises in
    record {
      none = λ h. h;
      some = λ h. h;
      plain = plain_front page.entries is.rest (subst ArePlain is.cut (plain_back (upto o log) (past o log) (subst ArePlain (sym (upto_past o log)) plain)));
      offsets = offsets_front page.entries is.rest (subst HaveOffsets is.cut (offsets_back (upto o log) (past o log) (subst HaveOffsets (sym (upto_past o log)) offsets)));
      rise = rises_front o page.entries is.rest (subst (λ (es : List Entry). rises_after o es ≡ true) is.cut (rises_past (At 0 0) o log rises));
      last = sym is.end;
      folds = ap fold (sym (ap (upto page.end) (sym (append-nil log)) ∙ ap (λ (x : Offset). upto x (log ++ [])) is.end ∙ upto_page o log page.entries is.rest [] alone there is.cut));
    }
