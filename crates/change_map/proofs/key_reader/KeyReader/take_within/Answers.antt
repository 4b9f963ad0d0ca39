use Rattle.std.proofs.Common.{List, [], ◌∷◌, ◌++◌, ◌≡◌, ℕ, sym, ap, subst, ◌∙◌}
use Rattle.std.specs.List.{flat_map}
use Rattle.shape_base.specs.Shape.{doubled}
use Rattle.change_map.specs.declared.key_reader.Spot.TheVariants.{Within}
use Rattle.change_map.specs.Reading.{Wants, opened}
use Rattle.change_map.proofs.ReadLaws.{part_at, text_at, none_at, no_within, one_more}
use Rattle.change_map.proofs.key_reader.KeyReader.take_within.Goals as goal

pub returns-in_default : goal.returns-in_default
returns-in_default c =
    let r = c.args.self.now in let w = c.args.wanted in
    let k : Wants r.current.items w = part_at r.spot (Within w) r.current.items c.requires.within c.requires.reading.part in
    none_at r.spot (Within w) r.done.items r.current.items c.args.byte c.requires.within
    (no_within r.done.items r.current.items c.args.byte w k (λ e. absurd (c.if-byte-eq34.false e)) (c.in_default.ensures r.current.items k))

pub returns : goal.returns
returns c =
    let r = c.args.self.now in let w = c.args.wanted in
    let k : Wants r.current.items w = part_at r.spot (Within w) r.current.items c.requires.within c.requires.reading.part in
    let more : c.push.new.self.items ≡ r.current.items ++ c.args.byte ∷ [] = c.in_ok-push.ensures.items in (
      record { done = c.requires.reading.done; part = subst (λ (bytes : List ℕ). Wants bytes c.in-Some.wanted) (sym more) (c.in-Some.ensures r.current.items k) },
      text_at r.spot (Within w) r.done.items r.current.items _ c.args.byte c.requires.within
          (ap (λ xs. opened r.done.items ++ 34 ∷ flat_map doubled xs) more ∙ one_more r.done.items r.current.items c.args.byte c.if-byte-eq34.false),
    )
