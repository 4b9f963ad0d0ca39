use Rattle.std.proofs.Common.{◌∙◌, ap, sym, refl, subst, map, slice_set, Some, true, IsSome, rules}
use Rattle.std.specs.Option.{option_map}
use Rattle.shape_registry.specs.declared.names.Live.{Live}
use Rattle.shape_registry.specs.Names.{name_under, now_ready, Renames}
use Rattle.shape_registry.proofs.Parts.{renamed, stays, part_finds, none_ready}
use Rattle.shape_registry.proofs.names.Names.make_ready.Goals as goal

pub returns-in_default : goal.returns-in_default
returns-in_default c = subst (λ s. Renames s (map (λ part. part.entries) (slice_set c.self.inside.parts.items c.part_of.result c.get_mut.follows.lender-at-none)) c.args.identity.now (option_map now_ready (name_under s c.args.identity.now))) c.self.view_is
    (subst (λ parts. Renames (map (λ part. part.entries) c.self.inside.parts.items) parts c.args.identity.now (option_map now_ready (name_under (map (λ part. part.entries) c.self.inside.parts.items) c.args.identity.now)))
    (sym (stays c.self.inside.parts.items c.part_of.result c.index_mut.result.now c.get_mut.follows.lender-at-none (search rules) c.index_mut.ensures.value (ap (λ part. part.entries) c.get_mut.follows.holds-at-none)))
    (none_ready (map (λ part. part.entries) c.self.inside.parts.items) c.args.identity.now
    (part_finds c.self.inside.parts.items c.args.identity.now c.part_of.result c.index_mut.result.now c.part_of.ensures.part (search rules) c.index_mut.ensures.value ∙ sym c.in_default.ensures.value)))

pub returns : goal.returns
returns c = let live : Live = record { number = c.in-Some.live.now.number; is_ready = true } in
    subst (λ s. Renames s (map (λ part. part.entries) (slice_set c.self.inside.parts.items c.part_of.result (c.get_mut.follows.lender live))) c.args.identity.now (option_map now_ready (name_under s c.args.identity.now))) c.self.view_is
    (subst (λ o. Renames (map (λ part. part.entries) c.self.inside.parts.items) (map (λ part. part.entries) (slice_set c.self.inside.parts.items c.part_of.result (c.get_mut.follows.lender live))) c.args.identity.now (option_map now_ready o))
    (sym (part_finds c.self.inside.parts.items c.args.identity.now c.part_of.result c.index_mut.result.now c.part_of.ensures.part (search rules) c.index_mut.ensures.value ∙ sym c.in-Some.ensures.value))
    (renamed c.self.inside.parts.items c.args.identity.now c.part_of.result c.index_mut.result.now c.part_of.ensures.part (search rules) c.index_mut.ensures.value (c.get_mut.follows.lender live) (Some live)
    ((c.get_mut.follows.holds live).3 (subst (λ o. IsSome o) c.in-Some.ensures.value refl)).0))
