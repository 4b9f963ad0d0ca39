use Rattle.std.proofs.Common.{◌∙◌, ap, List, ℕ, is_some}
use Rattle.cache_core.specs.Entries.{found}
use Rattle.cache_core.specs.Inside.{entries_in}
use Rattle.cache_core.proofs.Kept.{young_in, none_in}
use Rattle.cache_core.proofs.cache.has_young.Goals as goal

pub returns-in-Some : goal.returns-in-Some
returns-in-Some c =
    c.is_young.ensures
    ∙ young_in c.as_str.result.now c.args.now c.in-Some.kept.now c.args.replies.now.entries c.in-Some.ensures
    ∙ ap (λ (q : List ℕ). is_some (found q c.args.now (entries_in c.args.replies.now))) c.as_str.ensures

pub returns-in-None : goal.returns-in-None
returns-in-None c =
    none_in c.as_str.result.now c.args.now c.args.replies.now.entries c.in-None.ensures
    ∙ ap (λ (q : List ℕ). is_some (found q c.args.now (entries_in c.args.replies.now))) c.as_str.ensures
