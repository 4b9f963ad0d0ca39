-- The record at the front of what is seen.
use Rattle.std.proofs.Common.{◌≡◌, ℕ, ◌<◌, ltb, true, false, List, [], ◌∷◌, ◌++◌, length, get_or, Some, None, refl, ap, ◌∙◌, arith}
use Rattle.std.specs.Int.{w32, from_be_bytes}
use Rattle.std.proofs.lemmas.Bool.{le-ltb, lt-ltb}
use Rattle.std.proofs.lemmas.List.{take_at, drop_at, length-append}
use Rattle.script.specs.Items.{item_at, payload_at}

-- four bytes of a head as a number
abbrev pub size_in : List ℕ → ℕ
size_in head = from_be_bytes w32 (get_or head 1 0 ∷ get_or head 2 0 ∷ get_or head 3 0 ∷ get_or head 4 0 ∷ [])

abbrev cut : List ℕ → ℕ → List ℕ → Type 0
cut head n bytes = item_at (head ++ bytes) ≡ payload_at (get_or head 0 0) n bytes

headed : (head bytes : List ℕ) → length head ≡ 5 → cut head (size_in head) bytes
headed [] bytes e = absurd (omega arith)
headed (_ ∷ []) bytes e = absurd (omega arith)
headed (_ ∷ _ ∷ []) bytes e = absurd (omega arith)
headed (_ ∷ _ ∷ _ ∷ []) bytes e = absurd (omega arith)
headed (_ ∷ _ ∷ _ ∷ _ ∷ []) bytes e = absurd (omega arith)
headed (a ∷ b ∷ c ∷ d ∷ e ∷ []) bytes _ = refl
headed (_ ∷ _ ∷ _ ∷ _ ∷ _ ∷ _ ∷ head) bytes e = absurd (omega arith)

pub item_whole : (seen head seen1 payload seen2 : List ℕ) → seen ≡ head ++ seen1 → length head ≡ 5 → seen1 ≡ payload ++ seen2 → length payload ≡ size_in head
    → item_at seen ≡ Some (record { kind = get_or head 0 0; payload = payload }, seen2)
item_whole seen head seen1 payload seen2 e len f size =
    let long : ltb (length (payload ++ seen2)) (size_in head) ≡ false = le-ltb _ _ (omega (arith, length-append payload seen2, size)) in
    ap item_at e ∙ headed head seen1 len ∙ ap (payload_at (get_or head 0 0) (size_in head)) f
    ∙ rw (long, take_at payload seen2 (size_in head) size, drop_at payload seen2 (size_in head) size) refl

pub item_cut : (seen head seen1 payload : List ℕ) → seen ≡ head ++ seen1 → length head ≡ 5 → seen1 ≡ payload ++ [] → length payload < size_in head → item_at seen ≡ None
item_cut seen head seen1 payload e len f size =
    let short : ltb (length (payload ++ [])) (size_in head) ≡ true = lt-ltb _ _ (omega (arith, length-append payload [], size)) in
    ap item_at e ∙ headed head seen1 len ∙ ap (payload_at (get_or head 0 0) (size_in head)) f ∙ rw short refl
