use Rattle.std.proofs.Common.{[], ◌++◌, ◌∷◌, ◌≡◌, sym, subst, ap, ◌∙◌}
use Rattle.std.specs.Str.{IsUtf8}
use Rattle.std.proofs.lemmas.Str.{IsUtf8-nil}
use Rattle.change_map.specs.declared.key_reader.Spot.TheVariants.{Before}
use Rattle.change_map.specs.Reading.{opened}
use Rattle.change_map.proofs.ReadLaws.{part_at, text_at, none_at, no_before, first_quote}
use Rattle.change_map.proofs.key_reader.KeyReader.take_before.Goals as goal

pub returns-then-byte-ne34 : goal.returns-then-byte-ne34
returns-then-byte-ne34 c = none_at c.args.self.now.spot Before c.args.self.now.done.items c.args.self.now.current.items c.args.byte c.requires.before (no_before c.args.self.now.done.items c.args.byte c.if-byte-ne34.true)

pub returns : goal.returns
returns c =
    let r = c.args.self.now in
    let none : r.current.items ≡ [] = part_at r.spot Before r.current.items c.requires.before c.requires.reading.part in (
      record { done = c.requires.reading.done; part = c.nothing.ensures r.current.items (subst IsUtf8 (sym none) IsUtf8-nil) },
      text_at r.spot Before r.done.items r.current.items _ c.args.byte c.requires.before (first_quote r.done.items r.current.items none ∙ ap (λ b. opened r.done.items ++ b ∷ []) (sym c.if-byte-ne34.false)),
    )
