use Rattle.std.proofs.Common.{◌∙◌, ◌==◌, ap, subst, List, ℕ, nat_cmp}
use Rattle.std.specs.List.{list_any}
use Rattle.std.specs.List.Sorted.{IsBinarySearchResult}
use Rattle.shape_base.specs.Visibility.{Visibility}
use Rattle.snapshot_merge.proofs.Listed.{listed_is}
use Rattle.snapshot_merge.proofs.vis.Vis.is_listed.Goals as goal

pub returns : goal.returns
returns c = c.is_ok.ensures.value
    ∙ listed_is c.self.inside.xmin c.self.inside.xmax c.self.inside.listed.items c.args.id c.binary_search.result c.self.invariant.listed
    (subst (λ (ns : List ℕ). IsBinarySearchResult (λ y. nat_cmp y c.args.id) ns c.binary_search.result) c.deref.ensures.value c.binary_search.ensures.position)
    ∙ ap (λ (v : Visibility). list_any (λ l. c.args.id == l) v.listed) c.self.view_is
