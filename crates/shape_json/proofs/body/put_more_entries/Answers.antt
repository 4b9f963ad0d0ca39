use Rattle.std.proofs.Common.{[], ◌∷◌}
use Rattle.shape_json.specs.Body.{entry_text}
use Rattle.shape_json.proofs.Writing.{room_first, room_next, room_more, adds_more}
use Rattle.shape_json.proofs.body.put_more_entries.Goals as goal

pub put-requires : goal.put-requires
put-requires c = room_first c.loop-entry.out (44 ∷ []) (entry_text c.entry-item.result) (room_more entry_text c.args.entries.now c.loop-entry.entry-index c.entry-item.result c.loop-entry-test.true c.entry-item.is c.loop-entry.invariant.added c.requires)

pub put_entry-requires : goal.put_entry-requires
put_entry-requires c = room_next c.put.ensures (entry_text c.entry-item.result) (room_more entry_text c.args.entries.now c.loop-entry.entry-index c.entry-item.result c.loop-entry-test.true c.entry-item.is c.loop-entry.invariant.added c.requires)

pub loop-entry-preserved : goal.loop-entry-preserved
loop-entry-preserved c = record { added = adds_more entry_text c.args.entries.now c.loop-entry.entry-index c.entry-item.result c.loop-entry-test.true c.entry-item.is c.loop-entry.invariant.added c.put.ensures c.put_entry.ensures }
