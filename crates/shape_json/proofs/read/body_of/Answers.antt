use Rattle.std.proofs.Common.{◌≡◌, ◌+◌, ◌∷◌, List, Option, Some, drop, sym, subst, ap, ap₂, ◌∙◌}
use Rattle.std.proofs.lemmas.List.{drop_more, drop_all}
use Rattle.serde_json.specs.Data.{Items, no_items, item}
use Rattle.serde_json.specs.Find.{as_array}
use Rattle.serde_json.specs.View.{view, items_view}
use Rattle.serde_json.specs.declared.value.Value.{Value}
use Rattle.shape_base.specs.declared.entry.Entry.{Entry}
use Rattle.shape_json.specs.declared.control.Control.{Control}
use Rattle.shape_json.specs.declared.control.Control.TheVariants.{Nothing}
use Rattle.shape_json.specs.declared.read.BodyError.TheVariants.{OutOfMemory}
use Rattle.shape_json.specs.Reading.{items_data}
use Rattle.shape_json.proofs.Reading.{some_items, Left, all_left, advance, fails, all_done}
use Rattle.shape_json.proofs.read.body_of.Goals as goal

pub loop-item-init : goal.loop-item-init
loop-item-init c es said offsets e =
    let found : ◌≡◌ {A = Option Items} (Some (items_view c.in-Some.items.now.items)) (as_array (view c.args.value.now)) = c.in-Some.ensures in
    let items : items_view c.as_slice-item-items.result.now ≡ items_data es said = ap items_view c.as_slice-item-items.ensures.value ∙ some_items _ _ (found ∙ ap as_array e) in
    subst (λ (done : List Entry). Left es said done Nothing (items_view c.as_slice-item-items.result.now)) (sym c.in_ok-entries.ensures.items) (all_left es said (items_view c.as_slice-item-items.result.now) offsets items)

pub loop-item-preserved : goal.loop-item-preserved
loop-item-preserved c es said offsets e =
    let i = c.loop-item.item-index in
    let left : items_view (drop i c.as_slice-item-items.result.now) ≡ item (view c.item-item.result) (items_view (drop (i + 1) c.as_slice-item-items.result.now)) =
    ap items_view (drop_more c.as_slice-item-items.result.now i c.item-item.result c.loop-item-test.true ∙ ap (λ (v : Value). v ∷ drop (i + 1) c.as_slice-item-items.result.now) (sym c.item-item.is)) in
    advance es said c.loop-item.entries.items c.loop-item.control (view c.item-item.result) (items_view (drop (i + 1) c.as_slice-item-items.result.now))
    (items_view (drop i c.as_slice-item-items.result.now)) left (c.loop-item.invariant es said offsets e) c.take_item.new.entries.items c.take_item.new.control
    (record {
      entry = c.in-Ok.ensures.entry;
      up_to_date = λ h. let r = c.in-Ok.ensures.up_to_date h in (r.1, r.2);
      must_refetch = λ h. let r = c.in-Ok.ensures.must_refetch h in (r.1, r.2);
    })

pub returns-in-Err : goal.returns-in-Err
returns-in-Err c es said offsets e =
    let i = c.loop-item.item-index in
    let left : items_view (drop i c.as_slice-item-items.result.now) ≡ item (view c.item-item.result) (items_view (drop (i + 1) c.as_slice-item-items.result.now)) =
    ap items_view (drop_more c.as_slice-item-items.result.now i c.item-item.result c.loop-item-test.true ∙ ap (λ (v : Value). v ∷ drop (i + 1) c.as_slice-item-items.result.now) (sym c.item-item.is)) in
    fails es said c.loop-item.entries.items c.loop-item.control (view c.item-item.result) (items_view (drop (i + 1) c.as_slice-item-items.result.now))
    (c.in-Err.error ≡ OutOfMemory) (items_view (drop i c.as_slice-item-items.result.now)) left (c.loop-item.invariant es said offsets e)
    c.in-Err.ensures.entry (λ h. let no = (c.in-Err.ensures.up_to_date h).0 in cc) (λ h. let no = (c.in-Err.ensures.must_refetch h).0 in cc)

pub returns : goal.returns
returns c es said offsets e =
    let none : items_view (drop c.loop-item.item-index c.as_slice-item-items.result.now) ≡ no_items = ap items_view (drop_all c.loop-item.item-index c.as_slice-item-items.result.now c.loop-item-test.false) in
    let left = subst (λ (items : Items). Left es said c.loop-item.entries.items c.loop-item.control items) none (c.loop-item.invariant es said offsets e) in
    let both = all_done es said c.loop-item.entries.items c.loop-item.control left in
    ap₂ (λ (a : List Entry) (b : Control). (a, b)) (c.from_vec.ensures ∙ both.0) both.1
