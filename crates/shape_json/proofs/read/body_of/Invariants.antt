use Rattle.std.proofs.Common.{◌≡◌, List, drop}
use Rattle.serde_json.specs.View.{view, items_view}
use Rattle.shape_base.specs.declared.entry.Entry.{Entry}
use Rattle.shape_json.specs.declared.control.Control.{Control}
use Rattle.shape_json.specs.Reading.{body_data, HaveOffsets}
use Rattle.shape_json.proofs.Reading.{Left}
use Rattle.shape_json.proofs.read.body_of.Given as goal

abbrev pub invariant-loop-item : goal.invariant-loop-item
invariant-loop-item l = (es : List Entry) (said : Control) → HaveOffsets es → view l.value ≡ body_data es said → Left es said l.entries.items l.control (items_view (drop l.item-index l.item-items))
