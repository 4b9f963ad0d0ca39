-- The lengths of texts, and sums that end at 2^64 - 1.
use Rattle.std.proofs.Common.{◌≡◌, ℕ, ◌+◌, ◌-◌, ◌^◌, ◌<◌, min, List, [], ◌∷◌, ◌++◌, length, map, take, get_or, refl, ap, ◌∙◌, arith, append-nil, length-append}
use Rattle.std.proofs.lemmas.Grind.{flat_map-append}
use Rattle.json.specs.Print.{quoted, escape, escape_byte}
use Rattle.shape_base.specs.declared.entry.Op.{Op}
use Rattle.shape_base.specs.declared.entry.Op.TheVariants.{Insert, Update, Delete}
use Rattle.shape_base.specs.declared.entry.Cell.{Cell}
use Rattle.shape_json.specs.Body.{value_text, cell_text, cells_text, joined, operation}
use Rattle.shape_json.specs.Body.{capped}
use Rattle.shape_json.proofs.Writing.{more, take_next, more_next}

pub length-quoted : (s : List ℕ) → length (quoted s) ≡ length (escape s) + 2
length-quoted s = omega (arith, length-append (escape s) (34 ∷ []))

pub escape_next : (s : List ℕ) (i x : ℕ) → i < length s → x ≡ get_or s i x → length (escape (take (i + 1) s)) ≡ length (escape (take i s)) + length (escape_byte x)
escape_next s i x lt is =
    ap (λ (l : List ℕ). length (escape l)) (take_next s i x lt is) ∙ ap length (flat_map-append escape_byte (take i s) (x ∷ []) ∙ ap (λ (l : List ℕ). escape (take i s) ++ l) (append-nil (escape_byte x)))
    ∙ length-append (escape (take i s)) (escape_byte x)

-- a text with its comma
pub comma_next : {X : Type 0} (f : X → List ℕ) (xs : List X) (i : ℕ) (x : X) → i < length xs → x ≡ get_or xs i x → length (more f (take (i + 1) xs)) ≡ length (more f (take i xs)) + 1 + length (f x)
comma_next f xs i x lt is = ap length (more_next f xs i x lt is) ∙ length-append (more f (take i xs)) (44 ∷ f x) ∙ (omega arith)

pub length-cell_text : (c : Cell) → length (cell_text c) ≡ length (quoted c.name) + 1 + length (value_text c.value)
length-cell_text c = omega (arith, length-append (quoted c.name ++ 58 ∷ []) (value_text c.value), length-append (quoted c.name) (58 ∷ []))

pub length-cells_text : (cs : List Cell) → length (cells_text cs) ≡ length (joined (map cell_text cs)) + 2
length-cells_text cs = omega (arith, length-append (joined (map cell_text cs)) (125 ∷ []))

length-operation : (op : Op) → length (operation op) ≡ 6
length-operation Insert = refl
length-operation Update = refl
length-operation Delete = refl

-- a sum that ends at 2^64 - 1, of parts that end there
pub capped_sum : (a b : ℕ) → min (capped a + b) (2 ^ 64 - 1) ≡ capped (a + b)
capped_sum a b = omega arith

pub capped_both : (a b : ℕ) → min (capped a + capped b) (2 ^ 64 - 1) ≡ capped (a + b)
capped_both a b = omega arith
