-- Texts in UTF-8.
use Rattle.std.proofs.Common.{ℕ, List, [], ◌∷◌, ◌++◌, length, subst, sym, arith, length-append}
use Rattle.std.specs.List.{flat_map}
use Rattle.std.specs.Str.{IsUtf8}
use Rattle.std.proofs.Math.Seq.{take-append_seam, drop-append_seam}
use Rattle.std.proofs.lemmas.Str.{IsUtf8-nil, IsUtf8-append, IsUtf8-drop, IsUtf8-from_ascii, IsCharBoundary-from_take}
use Rattle.std.proofs.lemmas.Str.Ascii.{IsAscii-cons, IsAscii-nil}
use Rattle.shape_log.specs.Texts.{joined}
use Rattle.chunked_log.specs.Chunked.{AreUtf8}

-- what stands behind a text in a longer text
pub utf8_behind : (xs ys : List ℕ) → IsUtf8 xs → IsUtf8 (xs ++ ys) → IsUtf8 ys
utf8_behind xs ys front whole =
    subst IsUtf8 (drop-append_seam xs ys) (IsUtf8-drop (xs ++ ys) (length xs) whole
    (IsCharBoundary-from_take (xs ++ ys) (length xs) whole (omega (arith, length-append xs ys)) (subst IsUtf8 (sym (take-append_seam xs ys)) front)))

comma : IsUtf8 (44 ∷ [])
comma = IsUtf8-from_ascii (44 ∷ []) (IsAscii-cons 44 [] (omega arith) IsAscii-nil)

behind_commas : (ts : List (List ℕ)) → AreUtf8 ts → IsUtf8 (flat_map (λ next. 44 ∷ next) ts)
behind_commas [] all = IsUtf8-nil
behind_commas (t ∷ ts) all = IsUtf8-append (44 ∷ t) (flat_map (λ next. 44 ∷ next) ts) (IsUtf8-append (44 ∷ []) t comma all.0) (behind_commas ts all.1)

-- joined by commas
pub joined_utf8 : (ts : List (List ℕ)) → AreUtf8 ts → IsUtf8 (joined ts)
joined_utf8 [] all = IsUtf8-nil
joined_utf8 (t ∷ ts) all = IsUtf8-append t (flat_map (λ next. 44 ∷ next) ts) all.0 (behind_commas ts all.1)
