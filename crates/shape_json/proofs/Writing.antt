-- Texts that are added one behind the other.
use Rattle.std.proofs.Common.{◌≡◌, ℕ, ◌+◌, ◌<◌, List, [], ◌∷◌, ◌++◌, length, map, take, drop, get_or, Vec, sym, subst, ap, ◌∙◌, arith, append_assoc, append-nil, length-append}
use Rattle.std.specs.List.{flat_map}
use Rattle.std.proofs.lemmas.List.{map-append, take-append-drop, drop_more, take_more}
use Rattle.std.proofs.lemmas.Grind.{flat_map-append}
use Rattle.shape_json.specs.Buffer.{HasRoom, Adds}

-- ---- texts, each behind a comma

abbrev pub more : {X : Type 0} → (X → List ℕ) → List X → List ℕ
more f xs = flat_map (λ (text : List ℕ). 44 ∷ text) (map f xs)

pub more-append : {X : Type 0} (f : X → List ℕ) (xs ys : List X) → more f (xs ++ ys) ≡ more f xs ++ more f ys
more-append f xs ys = ap (flat_map (λ (text : List ℕ). 44 ∷ text)) (map-append f xs ys) ∙ flat_map-append (λ (text : List ℕ). 44 ∷ text) (map f xs) (map f ys)

pub split_at : {X : Type 0} (xs : List X) (i : ℕ) (x : X) → i < length xs → x ≡ get_or xs i x → xs ≡ take i xs ++ x ∷ drop (i + 1) xs
split_at xs i x lt is = sym (take-append-drop i xs) ∙ ap (λ l. take i xs ++ l) (drop_more xs i x lt ∙ ap (λ y. y ∷ drop (i + 1) xs) (sym is))

pub take_next : {X : Type 0} (xs : List X) (i : ℕ) (x : X) → i < length xs → x ≡ get_or xs i x → take (i + 1) xs ≡ take i xs ++ x ∷ []
take_next xs i x lt is = take_more xs i x lt ∙ ap (λ y. take i xs ++ y ∷ []) (sym is)

pub more_next : {X : Type 0} (f : X → List ℕ) (xs : List X) (i : ℕ) (x : X) → i < length xs → x ≡ get_or xs i x → more f (take (i + 1) xs) ≡ more f (take i xs) ++ 44 ∷ f x
more_next f xs i x lt is = ap (more f) (take_next xs i x lt is) ∙ more-append f (take i xs) (x ∷ []) ∙ ap (λ (l : List ℕ). more f (take i xs) ++ 44 ∷ l) (append-nil (f x))

pub more_rest : {X : Type 0} (f : X → List ℕ) (xs : List X) (i : ℕ) (x : X) → i < length xs → x ≡ get_or xs i x → more f xs ≡ more f (take i xs) ++ (44 ∷ f x ++ more f (drop (i + 1) xs))
more_rest f xs i x lt is = ap (more f) (split_at xs i x lt is) ∙ more-append f (take i xs) (x ∷ drop (i + 1) xs)

-- ---- buffers

module _ {A : Type 0} where
  pub adds_nothing : (buffer : Vec ℕ A) → Adds buffer buffer []
  adds_nothing buffer = record { is = sym (append-nil buffer.items); len = omega arith; room = omega arith; utf8 = λ before. before }

  -- two texts are one text
  pub joins : {old middle new : Vec ℕ A} {s t : List ℕ} → Adds old middle s → Adds middle new t → Adds old new (s ++ t)
  joins {old} {middle} {new} {s} {t} one two = record {
    is = two.is ∙ ap (λ (l : List ℕ). l ++ t) one.is ∙ append_assoc old.items s t;
    len = omega (arith, one.len, two.len, length-append s t);
    room = omega (arith, one.room, two.room);
    utf8 = λ before. two.utf8 (one.utf8 before);
  }

  pub adds_same : {old new : Vec ℕ A} {s t : List ℕ} → s ≡ t → Adds old new s → Adds old new t
  adds_same {old} {new} {s} {t} same one = subst (λ (l : List ℕ). Adds old new l) same one

  -- room for both is room for the first, and then for the second
  pub room_first : (old : Vec ℕ A) (s t : List ℕ) → HasRoom old (length (s ++ t)) → HasRoom old (length s)
  room_first old s t h = omega (arith, h, length-append s t)

  pub room_next : {old new : Vec ℕ A} {s : List ℕ} → Adds old new s → (t : List ℕ) → HasRoom old (length (s ++ t)) → HasRoom new (length t)
  room_next {old} {new} {s} one t h = omega (arith, h, one.len, one.room, length-append s t)

  -- room for the next text with its comma
  pub room_more : {X : Type 0} (f : X → List ℕ) (xs : List X) (i : ℕ) (x : X) {old new : Vec ℕ A} → i < length xs → x ≡ get_or xs i x → Adds old new (more f (take i xs)) → HasRoom old (length (more f xs))
      → HasRoom new (length (44 ∷ f x))
  room_more f xs i x {old} {new} lt is one h =
      room_first new (44 ∷ f x) (more f (drop (i + 1) xs)) (room_next one (44 ∷ f x ++ more f (drop (i + 1) xs)) (subst (λ (l : List ℕ). HasRoom old (length l)) (more_rest f xs i x lt is) h))

  pub adds_more : {X : Type 0} (f : X → List ℕ) (xs : List X) (i : ℕ) (x : X) {old middle comma new : Vec ℕ A} → i < length xs → x ≡ get_or xs i x → Adds old middle (more f (take i xs)) → Adds middle comma (44 ∷ []) → Adds comma new (f x)
      → Adds old new (more f (take (i + 1) xs))
  adds_more f xs i x lt is one two three = adds_same (sym (more_next f xs i x lt is)) (joins one (joins two three))
