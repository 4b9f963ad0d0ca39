use Rattle.std.proofs.Common.{◌∙◌, subst, map, slice_set, Some, Result, Ok, Err, OnErr, rules}
use Rattle.shape_registry.specs.Names.{Renames}
use Rattle.shape_registry.proofs.Parts.{renamed, stays}
use Rattle.shape_registry.proofs.names.Names.insert.Goals as goal

always : {T E P : Type 0} (r : Result T E) → P → OnErr r P
always (Ok x) p = tt
always (Err e) p = p

pub returns-in_err-insert-clause-err : goal.returns-in_err-insert-clause-err
returns-in_err-insert-clause-err c = always c.from_residual.result
    (stays c.self.inside.parts.items c.part_of-part.result c.index_mut.result.now c.insert.new.self (search rules) c.index_mut.ensures.value c.in_err-insert.ensures.err ∙ c.self.view_is)

pub returns-clause-ok : goal.returns-clause-ok
returns-clause-ok c = subst (λ s. Renames s (map (λ part. part.entries) (slice_set c.self.inside.parts.items c.part_of-part.result c.insert.new.self)) c.args.identity (Some c.args.live)) c.self.view_is
    (renamed c.self.inside.parts.items c.args.identity c.part_of-part.result c.index_mut.result.now c.part_of-part.ensures.part (search rules) c.index_mut.ensures.value c.insert.new.self (Some c.args.live) c.in_ok-insert.ensures.updates.0)
