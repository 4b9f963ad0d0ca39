use Rattle.std.proofs.Common.{◌≡◌, map, vec_len}
use Rattle.where_parser.specs.View.{tree_of, trees_of}
use Rattle.where_grammar.specs.Tree.{trees}
use Rattle.where_parser.proofs.Chains.{before}
use Rattle.where_parser.proofs.chain.chain.Given as goal

abbrev pub invariant-loop-member : goal.invariant-loop-member
invariant-loop-member l = before (map tree_of l.members.items) (trees_of l.rest) ≡ trees (map tree_of l.fn.members.items)

abbrev pub decreases-loop-member : goal.decreases-loop-member
decreases-loop-member l = vec_len l.members
