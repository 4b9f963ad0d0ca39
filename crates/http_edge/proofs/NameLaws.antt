-- Names that commas join, cut at the first comma.
use Rattle.std.proofs.Common.{◌≡◌, ◌≢◌, ℕ, ◌+◌, ◌<◌, if◌then◌else◌, Bool, List, [], ◌∷◌, ◌++◌, length, length-append, get_or, refl, sym, ap, subst, ◌∙◌, arith, Option, Some, None, IfSome}
use Rattle.std.proofs.Math.Seq.{take-append_seam, drop-append-add, get_or-append_seam}
use Rattle.std.proofs.lemmas.Bool.{ne_eqb}
use Rattle.std.specs.Str.{IsUtf8}
use Rattle.std.proofs.lemmas.Str.{IsUtf8-from_ascii, IsUtf8-append, IsUtf8-take, IsUtf8-drop, IsCharBoundary-at_seam, IsCharBoundary-after_ascii}
use Rattle.std.proofs.lemmas.Str.Ascii.{IsAscii-nil, IsAscii-cons}
use Rattle.form_urlencoded.specs.Form.{split, onto_first}
use Rattle.shape_base.specs.Decimal.{LacksByte, IsSplit}
use Rattle.http_edge.specs.Tried.{IsCut}

split_other : (b : ℕ) (text : List ℕ) → b ≢ 44 → split 44 (b ∷ text) ≡ onto_first b (split 44 text)
unfolding split
split_other b text h = ap (λ (t : Bool). if t then [] ∷ split 44 text else onto_first b (split 44 text)) (ne_eqb b 44 h)

split_here : (before after : List ℕ) → LacksByte 44 before → split 44 (before ++ 44 ∷ after) ≡ before ∷ split 44 after
unfolding split
split_here [] after lacks = refl
split_here (b ∷ before) after lacks = split_other b (before ++ 44 ∷ after) lacks.0 ∙ ap (onto_first b) (split_here before after lacks.1)

split_none : (text : List ℕ) → LacksByte 44 text → split 44 text ≡ text ∷ []
unfolding split
split_none [] lacks = refl
split_none (b ∷ text) lacks = split_other b text lacks.0 ∙ ap (onto_first b) (split_none text lacks.1)

comma_utf8 : IsUtf8 (44 ∷ [])
comma_utf8 = IsUtf8-from_ascii (44 ∷ []) (IsAscii-cons 44 [] (omega arith) IsAscii-nil)

utf8_behind : (before after : List ℕ) → IsUtf8 (before ++ 44 ∷ after) → IsUtf8 after
utf8_behind before after u =
    let within : length before < length (before ++ 44 ∷ after) = omega (arith, length-append before (44 ∷ after)) in
    let comma : get_or (before ++ 44 ∷ after) (length before) 0 ≡ 44 = get_or-append_seam before 44 after 0 in
    subst IsUtf8 (drop-append-add before (44 ∷ after) 1) (IsUtf8-drop (before ++ 44 ∷ after) (length before + 1) u (IsCharBoundary-after_ascii (before ++ 44 ∷ after) (length before) u within (omega (arith, comma))))

utf8_before : (before after : List ℕ) → IsUtf8 (before ++ 44 ∷ after) → IsUtf8 before
utf8_before before after u =
    subst IsUtf8 (take-append_seam before (44 ∷ after)) (IsUtf8-take (before ++ 44 ∷ after) (length before) u (IsCharBoundary-at_seam (before ++ 44 ∷ after) before (44 ∷ after) refl (IsUtf8-append (44 ∷ []) after comma_utf8 (utf8_behind before after u))))

pub cut_here : (text before after : List ℕ) → IsSplit 44 text before after → IsUtf8 text → IsCut text before (Some after)
cut_here text before after s u = record {
  cut = ap (split 44) s.whole ∙ split_here before after s.first;
  utf8 = (utf8_before before after (subst IsUtf8 s.whole u), utf8_behind before after (subst IsUtf8 s.whole u));
  shorter = omega (arith, ap length s.whole, length-append before (44 ∷ after));
}

pub cut_none : (text : List ℕ) → LacksByte 44 text → IsUtf8 text → IsCut text text None
cut_none text lacks u = record { cut = split_none text lacks; utf8 = (u, tt); shorter = tt }

-- ---- a loop over names

-- how many bytes are left, with the end
pub left_in : Option (List ℕ) → ℕ
left_in None = 0
left_in (Some text) = length text + 1

left_less : (text : List ℕ) (rest : Option (List ℕ)) → IfSome rest (λ t. length t < length text) → left_in rest < left_in (Some text)
unfolding left_in
left_less text None shorter = omega arith
left_less text (Some t) shorter = omega arith

pub left_fewer : (before rest : Option (List ℕ)) (text : List ℕ) → before ≡ Some text → IfSome rest (λ t. length t < length text) → left_in rest < left_in before
left_fewer before rest text e shorter = subst (λ (x : Option (List ℕ)). left_in rest < left_in x) (sym e) (left_less text rest shorter)
