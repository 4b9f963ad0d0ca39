use Rattle.std.proofs.Common.{◌-◌, arith, inl}
use Rattle.change_map.specs.declared.key_reader.Spot.TheVariants.{Within}
use Rattle.change_map.specs.Reading.{Wants}
use Rattle.change_map.proofs.Utf8Wants.{whole_of, wants_no_next}
use Rattle.change_map.proofs.ReadLaws.{part_at, text_at, none_at, no_within, last_quote}
use Rattle.change_map.proofs.key_reader.KeyReader.take_quote.Goals as goal

pub returns-then-wanted-gt0 : goal.returns-then-wanted-gt0
returns-then-wanted-gt0 c =
    let r = c.args.self.now in let w = c.args.wanted in
    let k : Wants r.current.items w = part_at r.spot (Within w) r.current.items c.requires.within c.requires.reading.part in
    none_at r.spot (Within w) r.done.items r.current.items 34 c.requires.within
    (no_within r.done.items r.current.items 34 w k (λ _. c.if-wanted-gt0.true)
    (wants_no_next r.current.items (w.left - 1) w.left w.low w.high 34 (omega arith) k (inl (omega (arith, k.no_ascii)))))

pub returns : goal.returns
returns c =
    let r = c.args.self.now in let w = c.args.wanted in
    let k : Wants r.current.items w = part_at r.spot (Within w) r.current.items c.requires.within c.requires.reading.part in (
      record { done = c.requires.reading.done; part = whole_of r.current.items w.left w.low w.high k (omega arith) },
      text_at r.spot (Within w) r.done.items r.current.items _ 34 c.requires.within (last_quote r.done.items r.current.items),
    )
