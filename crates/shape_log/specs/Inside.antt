-- What each rope and each log of texts keeps.
use Rattle.std.specs.Prelude.{◌≡◌, ℕ, ◌+◌, ◌<◌, ◌≤◌, ◌^◌, true, List, length, vec_len, vec_capacity}
use Rattle.shape_base.specs.declared.offset.Offset.TheVariants.{At}
use Rattle.shape_log.specs.Roped.{ArePlaced}
use Rattle.shape_log.specs.Texts.{closed_by_commas, positions, pieces, rise_after}
use Rattle.shape_log.specs.declared.rope.Rope.TheInside as rope
use Rattle.shape_log.specs.declared.text_log.TextLog.TheInside as text_log

-- the frozen parts lie one behind the other up to the open one, the room is there, and all of it is within 64 bits
pub record IsRope (r : rope.Inside) : Type 0 where
  pub placed : ArePlaced 0 r.parts.items r.start
  pub spare : r.room ≤ r.last.spare
  pub small : r.start + length r.last.items + r.room < 2 ^ 64

abbrev pub texts_in : text_log.Inside → List (List ℕ)
texts_in l = pieces 0 l.ends.items l.rope.bytes

-- the offsets rise, there is a text for each, the bytes are these texts with their commas, and what may still be appended has room
pub record IsTextLog (l : text_log.Inside) : Type 0 where
  pub rises : rise_after (At 0 0) l.offsets.items ≡ true
  pub ends : l.ends.items ≡ positions 0 (texts_in l)
  pub bytes : l.rope.bytes ≡ closed_by_commas (texts_in l)
  pub same : length l.offsets.items ≡ length l.ends.items
  pub offset_room : vec_len l.offsets + l.spare ≤ vec_capacity l.offsets
  pub end_room : vec_len l.ends + l.spare ≤ vec_capacity l.ends
