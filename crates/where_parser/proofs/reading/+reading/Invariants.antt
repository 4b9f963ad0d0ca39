use Rattle.std.proofs.Common.{◌≡◌, map, ◌+◌, ◌*◌, length}
use Rattle.where_parser.specs.View.{tree_of}
use Rattle.where_parser.specs.Parts.{read_others, with_front}
use Rattle.where_parser.proofs.Ranks.{rank}
use Rattle.where_parser.proofs.reading.+reading.Given as goal

abbrev pub decreases-atom : goal.decreases-atom
decreases-atom l = 16 * l.room + 1

abbrev pub decreases-member : goal.decreases-member
decreases-member l = 16 * l.room + rank l.joint

abbrev pub decreases-others : goal.decreases-others
decreases-others l = 16 * l.room + rank l.joint + 1

abbrev pub decreases-bounds : goal.decreases-bounds
decreases-bounds l = 16 * l.room + 4

abbrev pub decreases-listed : goal.decreases-listed
decreases-listed l = 16 * l.room + 4

abbrev pub decreases-predicate : goal.decreases-predicate
decreases-predicate l = 16 * l.room + 5

abbrev pub decreases-range : goal.decreases-range
decreases-range l = 16 * l.room + 6

abbrev pub decreases-cmp : goal.decreases-cmp
decreases-cmp l = 16 * l.room + 7

abbrev pub decreases-is_right : goal.decreases-is_right
decreases-is_right l = 16 * l.room + 8

abbrev pub decreases-is : goal.decreases-is
decreases-is l = 16 * l.room + 8 + 1

abbrev pub decreases-not : goal.decreases-not
decreases-not l = 16 * l.room + 9 + 1

abbrev pub decreases-and : goal.decreases-and
decreases-and l = 16 * l.room + 13

abbrev pub decreases-or : goal.decreases-or
decreases-or l = 16 * l.room + 16

abbrev pub invariant-others-loop-inside : goal.invariant-others-loop-inside
invariant-others-loop-inside l = with_front (map tree_of l.members.items) (read_others l.joint l.room l.rest) ≡ read_others l.joint l.room l.fn.tokens

abbrev pub decreases-others-loop-inside : goal.decreases-others-loop-inside
decreases-others-loop-inside l = length l.rest
