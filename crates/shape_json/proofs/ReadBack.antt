-- The text of a body of plain entries reads as that body's JSON value.
use Rattle.std.proofs.Common.{◌≡◌, ℕ, ◌≤◌, List, [], ◌∷◌, true, Option, Some, option_map, option_and_then, Ordering, Less, Equal, Greater, refl, sym, ap, ◌∙◌, arith, append-nil}
use Rattle.std.specs.Ordering.{nat_cmp, is_lt, ordering_reverse}
use Rattle.std.specs.Cmp.Lexicographic.{slice_cmp}
use Rattle.std.proofs.lemmas.Cmp.{nat_list_cmp_total}
use Rattle.std.proofs.lemmas.Bool.{and_parts}
use Rattle.json.specs.Token.{Token}
use Rattle.json.specs.Json as json
use Rattle.json.specs.Tree.{json_tokens, depth, items_depth, members_depth, HasNumbers, ItemsHaveNumbers, MembersHaveNumbers}
use Rattle.json.proofs.Printed.Tokens.{tokens-print}
use Rattle.json.proofs.Printed.Trees.{value-json_tokens, ArePrintable-json_tokens}
use Rattle.serde_json.specs.Data.{Data, array, item, Members, no_members, member, put}
use Rattle.serde_json.specs.Read.{of_json, of_items, of_members, read, max_depth}
use Rattle.shape_base.specs.declared.value.Value.{Value}
use Rattle.shape_base.specs.declared.value.Value.TheVariants.{Null, Words}
use Rattle.shape_base.specs.declared.entry.Cell.{Cell}
use Rattle.shape_base.specs.declared.entry.Entry.{Entry}
use Rattle.shape_json.specs.declared.control.Control.{Control}
use Rattle.shape_json.specs.declared.control.Control.TheVariants.{Nothing, UpToDate, MustRefetch}
use Rattle.shape_json.specs.Body.{body_text}
use Rattle.shape_json.specs.Plain.{rise_by_name, is_plain, ArePlain}
use Rattle.shape_json.specs.Reading.{value_data, cells_data, entry_data, items_data, body_data}
use Rattle.shape_json.proofs.Texts.{value_json, cells_json, entry_json, items_json, body_json, printed_body}

-- ---- numbers and depth

cells_have_numbers : (cells : List Cell) → MembersHaveNumbers (cells_json cells)
cells_have_numbers [] = tt
cells_have_numbers (c ∷ cells) = (has_numbers c.value, cells_have_numbers cells)
  where
    has_numbers : (v : Value) → HasNumbers (value_json v)
    has_numbers Null = tt
    has_numbers (Words words) = tt

items_have_numbers : (es : List Entry) (control : Control) → ItemsHaveNumbers (items_json es control)
items_have_numbers [] Nothing = tt
items_have_numbers [] UpToDate = (((tt, tt), tt), tt)
items_have_numbers [] MustRefetch = (((tt, tt), tt), tt)
items_have_numbers (e ∷ es) control = (((tt, tt), (tt, (tt, (cells_have_numbers e.cells, tt)))), items_have_numbers es control)

cells_depth : (cells : List Cell) → members_depth (cells_json cells) ≤ 0
cells_depth [] = omega arith
cells_depth (c ∷ cells) = omega (arith, flat c.value, cells_depth cells)
  where
    flat : (v : Value) → depth (value_json v) ≤ 0
    flat Null = omega arith
    flat (Words words) = omega arith

entries_depth : (es : List Entry) (control : Control) → items_depth (items_json es control) ≤ 2
entries_depth [] Nothing = omega arith
entries_depth [] UpToDate = omega arith
entries_depth [] MustRefetch = omega arith
entries_depth (e ∷ es) control = omega (arith, cells_depth e.cells, entries_depth es control)

-- ---- members that rise go in one behind the other

abbrev after : Members → Members → Members
after no_members more = more
after (member k d ms) more = member k d (after ms more)

-- the name is past those of the members
abbrev AllBelow : Members → List ℕ → Type 0
AllBelow no_members name = Unit {0}
AllBelow (member k d ms) name = (slice_cmp nat_cmp k name ≡ Less) × AllBelow ms name

abbrev FirstAbove : Members → List Cell → Type 0
FirstAbove ms [] = Unit {0}
FirstAbove ms (c ∷ cells) = AllBelow ms c.name

put_last : (ms : Members) (name : List ℕ) (d : Data) → AllBelow ms name → put name d ms ≡ after ms (member name d no_members)
put_last no_members name d h = refl
put_last (member k e ms) name d h =
    let above : slice_cmp nat_cmp name k ≡ Greater = nat_list_cmp_total.antisymm name k ∙ ap ordering_reverse h.0 in
    rw above (ap (member k e) (put_last ms name d h.1))

still_below : (ms : Members) (name next : List ℕ) → AllBelow ms name → slice_cmp nat_cmp name next ≡ Less → AllBelow ms next
still_below no_members name next h lt = tt
still_below (member k d ms) name next h lt = (nat_list_cmp_total.trans k name next h.0 lt, still_below ms name next h.1 lt)

with_last : (ms : Members) (name next : List ℕ) (d : Data) → AllBelow ms next → slice_cmp nat_cmp name next ≡ Less → AllBelow (after ms (member name d no_members)) next
with_last no_members name next d h lt = (lt, tt)
with_last (member k e ms) name next d h lt = (h.0, with_last ms name next d h.1 lt)

after-after : (ms : Members) (name : List ℕ) (d : Data) (more : Members) → after (after ms (member name d no_members)) more ≡ after ms (member name d more)
after-after no_members name d more = refl
after-after (member k e ms) name d more = ap (member k e) (after-after ms name d more)

after_nothing : (ms : Members) → after ms no_members ≡ ms
after_nothing no_members = refl
after_nothing (member k d ms) = ap (member k d) (after_nothing ms)

less_from : (o : Ordering) → is_lt o ≡ true → o ≡ Less
less_from Less e = refl
less_from Equal e = absurd (cc)
less_from Greater e = absurd (cc)

read_value : (v : Value) → of_json (value_json v) ≡ Some (value_data v)
read_value Null = refl
read_value (Words words) = refl

next_above : (cells : List Cell) (c : Cell) (ms : Members) → AllBelow ms c.name → rise_by_name (c ∷ cells) ≡ true → (d : Data) → FirstAbove (after ms (member c.name d no_members)) cells × (rise_by_name cells ≡ true)
next_above [] c ms h rise d = (tt, refl)
next_above (n ∷ cells) c ms h rise d =
    let parts = and_parts (is_lt (slice_cmp nat_cmp c.name n.name)) (rise_by_name (n ∷ cells)) rise in
    let lt = less_from (slice_cmp nat_cmp c.name n.name) parts.0 in
    (with_last ms c.name n.name d (still_below ms c.name n.name h lt) lt, parts.1)

read_cells : (cells : List Cell) (ms : Members) → FirstAbove ms cells → rise_by_name cells ≡ true → of_members (cells_json cells) ms ≡ Some (after ms (cells_data cells))
read_cells [] ms h rise = ap (λ (l : Members). Some l) (sym (after_nothing ms))
read_cells (c ∷ cells) ms h rise =
    let d = value_data c.value in
    let next = next_above cells c ms h rise d in
    ap (option_and_then (λ (x : Data). of_members (cells_json cells) (put c.name x ms))) (read_value c.value)
    ∙ ap (of_members (cells_json cells)) (put_last ms c.name d h)
    ∙ read_cells cells (after ms (member c.name d no_members)) next.0 next.1
    ∙ ap (λ (l : Members). Some l) (after-after ms c.name d (cells_data cells))

read_entry : (e : Entry) → rise_by_name e.cells ≡ true → of_json (entry_json e) ≡ Some (entry_data e)
read_entry e rise = rw (read_cells e.cells no_members (first e.cells) rise)
  where
    first : (cells : List Cell) → FirstAbove no_members cells
    first [] = tt
    first (c ∷ cells) = tt

rises : (e : Entry) → is_plain e ≡ true → rise_by_name e.cells ≡ true
rises e plain = (and_parts _ _ (and_parts _ _ plain).1).0

read_items : (es : List Entry) (control : Control) → ArePlain es → of_items (items_json es control) ≡ Some (items_data es control)
read_items [] Nothing plain = refl
read_items [] UpToDate plain = refl
read_items [] MustRefetch plain = refl
read_items (e ∷ es) control plain =
    let parts = and_parts (is_plain e) _ plain in
    ap (option_and_then (λ (d : Data). option_map (item d) (of_items (items_json es control)))) (read_entry e (rises e parts.0)) ∙ ap (option_map (item (entry_data e))) (read_items es control parts.1)

-- ---- the whole text

abbrev whole : Option (json.Json × List Token) → Option Data
whole p = option_and_then of_json (option_and_then (λ (q : json.Json × List Token). json.if_last q.0 q.1) p)

pub read_back : (es : List Entry) (control : Control) → ArePlain es → read (body_text es control) ≡ Some (body_data es control)
read_back es control plain =
    let j = body_json es control in
    ap read (sym (printed_body es control))
    ∙ ap (λ (ts : List Token). whole (json.value max_depth ts)) (tokens-print (json_tokens j) (ArePrintable-json_tokens j (items_have_numbers es control)) ∙ sym (append-nil (json_tokens j)))
    ∙ ap whole (value-json_tokens j max_depth [] (omega (arith, entries_depth es control)))
    ∙ ap (option_map array) (read_items es control plain)
