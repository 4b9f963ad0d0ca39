-- Bodies with one JSON value are equal, and so are those with one text.
use Rattle.std.proofs.Common.{◌≡◌, ℕ, List, [], ◌∷◌, Option, Some, refl, sym, subst, ap, ap₂, ◌∙◌, arith}
use Rattle.serde_json.specs.Data.{Data, null, string, array, object, Items, no_items, item, Members, no_members, member}
use Rattle.serde_json.specs.Read.{read}
use Rattle.shape_base.specs.declared.value.Value.{Value}
use Rattle.shape_base.specs.declared.value.Value.TheVariants.{Null, Words}
use Rattle.shape_base.specs.declared.offset.Offset.{Offset}
use Rattle.shape_base.specs.declared.entry.Op.{Op}
use Rattle.shape_base.specs.declared.entry.Op.TheVariants.{Insert, Update, Delete}
use Rattle.shape_base.specs.declared.entry.Cell.{Cell}
use Rattle.shape_base.specs.declared.entry.Entry.{Entry}
use Rattle.shape_base.specs.OffsetText.{IsOffset}
use Rattle.shape_json.specs.declared.control.Control.{Control}
use Rattle.shape_json.specs.declared.control.Control.TheVariants.{Nothing, UpToDate, MustRefetch}
use Rattle.shape_json.specs.Body.{operation, body_text}
use Rattle.shape_json.specs.Plain.{ArePlain}
use Rattle.shape_json.specs.Reading.{value_data, cells_data, entry_data, control_items, items_data, body_data, HaveOffsets}
use Rattle.shape_json.proofs.Offsets.{offset_once}
use Rattle.shape_json.proofs.Reading.{first_name, first_value, others, first_item, later_items}
use Rattle.shape_json.proofs.ReadBack.{read_back}

-- the parts of a value, where it has them
abbrev words_in : Data → List ℕ
words_in null = []
words_in (Rattle.serde_json.specs.Data.boolean b) = []
words_in (Rattle.serde_json.specs.Data.number n) = []
words_in (string s) = s
words_in (array ds) = []
words_in (object ms) = []

abbrev members_of : Data → Members
members_of null = no_members
members_of (Rattle.serde_json.specs.Data.boolean b) = no_members
members_of (Rattle.serde_json.specs.Data.number n) = no_members
members_of (string s) = no_members
members_of (array ds) = no_members
members_of (object ms) = ms

abbrev items_of : Data → Items
items_of null = no_items
items_of (Rattle.serde_json.specs.Data.boolean b) = no_items
items_of (Rattle.serde_json.specs.Data.number n) = no_items
items_of (string s) = no_items
items_of (array ds) = ds
items_of (object ms) = no_items

abbrev first_of : List ℕ → ℕ
first_of [] = 0
first_of (x ∷ xs) = x

letter : Op → ℕ
letter op = first_of (operation op)

value_once : (v w : Value) → value_data v ≡ value_data w → v ≡ w
value_once Null Null e = refl
value_once Null (Words w) e = absurd (cc)
value_once (Words v) Null e = absurd (cc)
value_once (Words v) (Words w) e = ap (λ (l : List ℕ). Words l) (ap words_in e)

cells_once : (cs ds : List Cell) → cells_data cs ≡ cells_data ds → cs ≡ ds
cells_once [] [] e = refl
cells_once [] (d ∷ ds) e = absurd (cc)
cells_once (c ∷ cs) [] e = absurd (cc)
cells_once (c ∷ cs) (d ∷ ds) e =
    let head = ap₂ (λ (n : List ℕ) (v : Value). record { name = n; value = v }) (ap first_name e) (value_once c.value d.value (ap first_value e)) in
    ap₂ (λ (x : Cell) (l : List Cell). x ∷ l) head (cells_once cs ds (ap others e))

operation_once : (a b : Op) → operation a ≡ operation b → a ≡ b
operation_once Insert Insert e = refl
operation_once Insert Update e = let no : 105 ≡ 117 = ap first_of e in absurd (omega (arith, no))
operation_once Insert Delete e = let no : 105 ≡ 100 = ap first_of e in absurd (omega (arith, no))
operation_once Update Insert e = let no : 117 ≡ 105 = ap first_of e in absurd (omega (arith, no))
operation_once Update Update e = refl
operation_once Update Delete e = let no : 117 ≡ 100 = ap first_of e in absurd (omega (arith, no))
operation_once Delete Insert e = let no : 100 ≡ 105 = ap first_of e in absurd (omega (arith, no))
operation_once Delete Update e = let no : 100 ≡ 117 = ap first_of e in absurd (omega (arith, no))
operation_once Delete Delete e = refl

entry_once : (e f : Entry) → IsOffset e.offset → IsOffset f.offset → entry_data e ≡ entry_data f → e ≡ f
entry_once e f h k same =
    let all : members_of (entry_data e) ≡ members_of (entry_data f) = ap members_of same in
    let op = operation_once e.op f.op (ap words_in (ap first_value (ap members_of (ap first_value all)))) in
    let key : e.key ≡ f.key = ap words_in (ap first_value (ap others all)) in
    let offset = offset_once e.offset f.offset h k (ap words_in (ap first_value (ap others (ap others all)))) in
    let cells = cells_once e.cells f.cells (ap members_of (ap first_value (ap others (ap others (ap others all))))) in
    ap₂ (λ (o : Offset) (rest : Op × List ℕ × List Cell). record { offset = o; op = rest.0; key = rest.1; cells = rest.2 }) offset (triple op key cells)
  where
    triple : {a b : Op} {k l : List ℕ} {c d : List Cell} → a ≡ b → k ≡ l → c ≡ d → ◌≡◌ {A = Op × List ℕ × List Cell} (a, k, c) (b, l, d)
    triple {a} {b} {k} {l} {c} {d} x y z = subst (λ (o : Op). ◌≡◌ {A = Op × List ℕ × List Cell} (a, k, c) (o, l, d)) x (ap₂ (λ (t : List ℕ) (m : List Cell). (a, t, m)) y z)

control_once : (c d : Control) → control_items c ≡ control_items d → c ≡ d
control_once Nothing Nothing e = refl
control_once Nothing UpToDate e = absurd (cc)
control_once Nothing MustRefetch e = absurd (cc)
control_once UpToDate Nothing e = absurd (cc)
control_once UpToDate UpToDate e = refl
control_once UpToDate MustRefetch e = let no : 117 ≡ 109 = ap first_of (ap words_in (ap first_value (ap members_of (ap first_value (ap members_of (ap first_item e)))))) in absurd (omega (arith, no))
control_once MustRefetch Nothing e = absurd (cc)
control_once MustRefetch UpToDate e = let no : 109 ≡ 117 = ap first_of (ap words_in (ap first_value (ap members_of (ap first_value (ap members_of (ap first_item e)))))) in absurd (omega (arith, no))
control_once MustRefetch MustRefetch e = refl

-- a control is no entry
apart : (c : Control) (f : Entry) (ds : Items) → control_items c ≡ item (entry_data f) ds → ⊥
apart Nothing f ds e = cc
apart UpToDate f ds e = let no = ap others (ap members_of (ap first_item e)) in cc
apart MustRefetch f ds e = let no = ap others (ap members_of (ap first_item e)) in cc

items_once : (es fs : List Entry) (c d : Control) → HaveOffsets es → HaveOffsets fs → items_data es c ≡ items_data fs d → (es ≡ fs) × (c ≡ d)
items_once [] [] c d h k e = (refl, control_once c d e)
items_once [] (f ∷ fs) c d h k e = absurd (apart c f (items_data fs d) e)
items_once (x ∷ es) [] c d h k e = absurd (apart d x (items_data es c) (sym e))
items_once (x ∷ es) (f ∷ fs) c d h k e =
    let rest = items_once es fs c d h.1 k.1 (ap later_items e) in
    (ap₂ (λ (y : Entry) (l : List Entry). y ∷ l) (entry_once x f h.0 k.0 (ap first_item e)) rest.0, rest.1)

some_data : (a b : Data) → ◌≡◌ {A = Option Data} (Some a) (Some b) → a ≡ b
some_data a b e = cc

pub body_once : (es fs : List Entry) (c d : Control) → ArePlain es → ArePlain fs → HaveOffsets es → HaveOffsets fs → body_text es c ≡ body_text fs d → (es ≡ fs) × (c ≡ d)
body_once es fs c d plain_es plain_fs h k e =
    items_once es fs c d h k (ap items_of (some_data (body_data es c) (body_data fs d) (sym (read_back es c plain_es) ∙ ap read e ∙ read_back fs d plain_fs)))
