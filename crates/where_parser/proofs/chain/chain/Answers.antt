use Rattle.std.proofs.Common.{[], ◌∷◌, map, sym, ap, ◌∙◌}
use Rattle.std.proofs.lemmas.List.{map-append}
use Rattle.where_grammar.specs.Tree.{TreeAnd}
use Rattle.where_parser.specs.View.{tree_of, trees_of}
use Rattle.where_parser.proofs.Chains.{before, before_none, before_last}
use Rattle.where_parser.proofs.chain.chain.Goals as goal

pub loop-member-init : goal.loop-member-init
loop-member-init c = before_none (map tree_of c.args.members.items)

pub loop-member-preserved : goal.loop-member-preserved
loop-member-preserved c =
    let front = map tree_of c.pop.new.self.items in
    let rest = trees_of c.loop-member.rest in
    ap (λ e. before front (TreeAnd (tree_of e) (trees_of c.in_ok-new-2.field-0.value))) c.in_ok-new.ensures.ok
    ∙ ap (λ r. before front (TreeAnd (tree_of c.in-Some.member) (trees_of r))) c.in_ok-new-2.ensures.ok
    ∙ sym (before_last front (tree_of c.in-Some.member) rest)
    ∙ ap (λ ts. before ts rest) (sym (map-append tree_of c.pop.new.self.items (c.in-Some.member ∷ [])))
    ∙ ap (λ xs. before (map tree_of xs) rest) (sym c.in-Some.ensures.items)
    ∙ c.loop-member.invariant
