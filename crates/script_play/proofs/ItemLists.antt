-- The records of bytes, one after the other.
use Rattle.std.proofs.Common.{◌≡◌, ℕ, zero, suc, ◌≤◌, ◌<◌, true, false, cond, ltb, List, [], ◌∷◌, length, take, drop, Option, Some, None, refl, sym, ap, ◌∙◌, arith, inl, inr}
use Rattle.std.specs.Int.{w32, from_be_bytes}
use Rattle.std.proofs.lemmas.Bool.{cases_lt, le-ltb, lt-ltb}
use Rattle.std.proofs.lemmas.List.{length-drop}
use Rattle.script.specs.Records.{Item}
use Rattle.script.specs.Items.{item_at, payload_at, items_then, items_in, items_of}

-- ---- records are shorter than what they stand in

abbrev IsShorter : List ℕ → Option (Item × List ℕ) → Type 0
IsShorter bytes None = Unit {0}
IsShorter bytes (Some found) = length found.1 < length bytes

payload_shorter : (kind n : ℕ) (bytes longer : List ℕ) → length bytes < length longer → IsShorter longer (payload_at kind n bytes)
payload_shorter kind n bytes longer h =
    elim (ltb (length bytes) n) as (λ b. IsShorter longer (cond b None (Some (record { kind = kind; payload = take n bytes }, drop n bytes)))) [
      | true ↦ tt
      | false ↦ omega (arith, length-drop n bytes)
    ]

item_shorter : (bytes : List ℕ) → IsShorter bytes (item_at bytes)
item_shorter [] = tt
item_shorter (_ ∷ []) = tt
item_shorter (_ ∷ _ ∷ []) = tt
item_shorter (_ ∷ _ ∷ _ ∷ []) = tt
item_shorter (_ ∷ _ ∷ _ ∷ _ ∷ []) = tt
item_shorter (k ∷ a ∷ b ∷ c ∷ d ∷ bytes) = payload_shorter k (from_be_bytes w32 (a ∷ b ∷ c ∷ d ∷ [])) bytes (k ∷ a ∷ b ∷ c ∷ d ∷ bytes) (omega arith)

-- ---- enough turns are enough

then_same : (f g : List ℕ → List Item) (bytes : List ℕ) (found : Option (Item × List ℕ)) → IsShorter bytes found → ((rest : List ℕ) → length rest < length bytes → f rest ≡ g rest) → items_then f found ≡ items_then g found
then_same f g bytes None s same = refl
then_same f g bytes (Some found) s same = ap (λ (items : List Item). found.0 ∷ items) (same found.1 s)

nothing_in : (m : ℕ) (bytes : List ℕ) → length bytes ≤ 0 → [] ≡ items_in m bytes
unfolding items_in
nothing_in zero bytes h = refl
nothing_in (suc m) [] h = refl
nothing_in (suc m) (b ∷ bytes) h = absurd (omega arith)

enough : (n m : ℕ) (bytes : List ℕ) → length bytes ≤ n → length bytes ≤ m → items_in n bytes ≡ items_in m bytes
unfolding items_in
enough zero m bytes h k = nothing_in m bytes h
enough (suc n) zero bytes h k = sym (nothing_in (suc n) bytes k)
enough (suc n) (suc m) bytes h k = then_same (items_in n) (items_in m) bytes (item_at bytes) (item_shorter bytes) (λ rest lt. enough n m rest (omega arith) (omega arith))

at_least_one : (n : ℕ) (bytes : List ℕ) → n ≡ length bytes → items_in n bytes ≡ items_then items_of (item_at bytes)
unfolding items_in items_of
at_least_one zero bytes e = nothing_in (suc zero) bytes (omega arith) ∙ then_same (items_in 0) items_of bytes (item_at bytes) (item_shorter bytes) (λ rest lt. absurd (omega arith))
at_least_one (suc n) bytes e = then_same (items_in n) items_of bytes (item_at bytes) (item_shorter bytes) (λ rest lt. enough n (length rest) rest (omega arith) (omega arith))

-- the records are the first one and those of the rest
items_next : (bytes : List ℕ) → items_of bytes ≡ items_then items_of (item_at bytes)
unfolding items_of
items_next bytes = at_least_one (length bytes) bytes refl

pub no_items : (bytes : List ℕ) → item_at bytes ≡ None → items_of bytes ≡ []
no_items bytes e = items_next bytes ∙ ap (items_then items_of) e

pub one_item : (bytes : List ℕ) (item : Item) (rest : List ℕ) → item_at bytes ≡ Some (item, rest) → items_of bytes ≡ item ∷ items_of rest
one_item bytes item rest e = items_next bytes ∙ ap (items_then items_of) e

-- ---- past the limit

pub longer_is : (limit : ℕ) (bytes rest : List ℕ) → drop limit bytes ≡ rest → ltb limit (length bytes) ≡ ltb 0 (length rest)
longer_is limit bytes rest e =
    elim (cases_lt limit (length bytes)) [
      | inl lt ↦ lt-ltb _ _ lt ∙ sym (lt-ltb _ _ (omega (arith, length-drop limit bytes, ap length e)))
      | inr le ↦ le-ltb _ _ le ∙ sym (le-ltb _ _ (omega (arith, length-drop limit bytes, ap length e)))
    ]
