-- Lists of which one begins the other, and what came in a longer history.
use Rattle.std.proofs.Common.{◌≡◌, List, [], ◌∷◌, ◌++◌, length, map, refl, sym, ap, ◌∙◌, arith, append_assoc, append-nil, length-append}
use Rattle.std.proofs.lemmas.List.{map-append}
use mathlib.Core.List.{IsPrefix}
use Rattle.shape_base.specs.declared.change.Tx.{Tx}
use Rattle.shape_json.specs.ShapeHistory.{ShapeEvent, Snapped, Took, Dropped, taken}
use Rattle.shape_lock.specs.Locked.{lsns}

pub prefix_trans : {A : Type 0} (xs ys zs : List A) → IsPrefix xs ys → IsPrefix ys zs → IsPrefix xs zs
prefix_trans xs ys zs p q = (p.0 ++ q.0, sym (append_assoc xs p.0 q.0) ∙ (ap (λ (l : List _). l ++ q.0) p.1 ∙ q.1))

pub prefix_both : {A : Type 0} (xs ys : List A) → IsPrefix xs ys → IsPrefix ys xs → xs ≡ ys
prefix_both xs ys ([], e) q = sym (append-nil xs) ∙ e
prefix_both xs ys (r ∷ rs, e) q = let a = ap length e in let b = ap length q.1 in absurd (omega (arith, length-append xs (r ∷ rs), length-append ys q.0))

-- ---- what came, in a longer history

taken_append : (es fs : List ShapeEvent) → taken (es ++ fs) ≡ taken es ++ taken fs
taken_append [] fs = refl
taken_append (Snapped s ∷ es) fs = taken_append es fs
taken_append (Took tx n ∷ es) fs = ap (λ (txs : List Tx). tx ∷ txs) (taken_append es fs)
taken_append (Dropped c ∷ es) fs = taken_append es fs

pub lsns_append : (es fs : List ShapeEvent) → lsns (es ++ fs) ≡ lsns es ++ lsns fs
lsns_append es fs = ap (map (λ (tx : Tx). tx.lsn)) (taken_append es fs) ∙ map-append (λ (tx : Tx). tx.lsn) (taken es) (taken fs)

pub lsns_longer : (es fs : List ShapeEvent) → IsPrefix es fs → IsPrefix (lsns es) (lsns fs)
lsns_longer es fs p = (lsns p.0, sym (lsns_append es p.0) ∙ ap lsns p.1)
