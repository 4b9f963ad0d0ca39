use Rattle.std.proofs.Common.{subst, map, slice_set, None, rules}
use Rattle.shape_registry.specs.Names.{Renames}
use Rattle.shape_registry.proofs.Parts.{renamed}
use Rattle.shape_registry.proofs.names.Names.remove.Goals as goal

pub returns : goal.returns
returns c = subst (λ s. Renames s (map (λ part. part.entries) (slice_set c.self.inside.parts.items c.part_of.result c.remove-live.new.self)) c.args.identity.now None) c.self.view_is
    (renamed c.self.inside.parts.items c.args.identity.now c.part_of.result c.index_mut.result.now c.part_of.ensures.part (search rules) c.index_mut.ensures.value c.remove-live.new.self None c.remove-live.ensures.updates.0)
