-- The end of a log, and what stands past an offset.
use Rattle.std.proofs.Common.{◌≡◌, ℕ, ◌+◌, true, List, [], ◌∷◌, ◌++◌, drop, refl, sym, ◌∙◌, ap, append_assoc, Some, subst, Bool, false}
use Rattle.std.specs.Prelude.{slice_get, Result, Ok, IsErr, ◌↔◌}
use Rattle.std.proofs.lemmas.List.{append-nil, drop_more}
use Rattle.std.proofs.lemmas.Option.{slice_get_within, get_or_from_slice_get}
use Rattle.shape_base.specs.declared.entry.Entry.{Entry}
use Rattle.shape_base.specs.declared.offset.Offset.{Offset}
use Rattle.shape_base.specs.Log.{last_offset}

-- the last offset of a list with one entry more
pub last_more : (o : Offset) (es : List Entry) (e : Entry) → last_offset o (es ++ e ∷ []) ≡ e.offset
last_more o [] e = refl
last_more o (x ∷ es) e = last_more x.offset es e

-- one entry of what is left of a log
pub drop_at : (log : List Entry) (place : ℕ) (e : Entry) → slice_get log place ≡ Some e → drop place log ≡ e ∷ drop (place + 1) log
drop_at log place e h = drop_more log place e (slice_get_within log place e h) ∙ ap (λ (x : Entry). x ∷ drop (place + 1) log) (get_or_from_slice_get log place e e h)

-- one entry more was copied
pub copied_more : (log : List Entry) (place : ℕ) (made new all : List Entry) (e : Entry) → slice_get log place ≡ Some e → new ≡ made ++ e ∷ [] → made ++ drop place log ≡ all → new ++ drop (place + 1) log ≡ all
copied_more log place made new all e h is k = ap (λ (xs : List Entry). xs ++ drop (place + 1) log) is ∙ append_assoc made (e ∷ []) (drop (place + 1) log) ∙ ap (λ (xs : List Entry). made ++ xs) (sym (drop_at log place e h)) ∙ k

pub copied_all : (log : List Entry) (place : ℕ) (made all : List Entry) → drop place log ≡ [] → made ++ drop place log ≡ all → made ≡ all
copied_all log place made all none k = sym (append-nil made) ∙ ap (λ (xs : List Entry). made ++ xs) (sym none) ∙ k

-- the bounds were found, so the offset is not after the end
pub not_ahead : {E : Type 0} (r : Result ℕ E) (n : ℕ) (b : Bool) → r ≡ Ok n → (IsErr r ↔ (b ≡ true)) → b ≡ false
not_ahead {E} r n true is h = let err : IsErr {T = ℕ} {E = E} (Ok n) = subst (λ (x : Result ℕ E). IsErr x) is (h.1 refl) in sym err
not_ahead {E} r n false is h = refl
