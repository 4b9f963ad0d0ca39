use Rattle.std.proofs.Common.{◌++◌, [], ◌∷◌, List, ℕ, length, subst, sym, ap, ap₂, ◌∙◌, arith}
use Rattle.shape_json.specs.Buffer.{Adds}
use Rattle.shape_json.proofs.Writing.{joins}
use Rattle.shape_json.proofs.Digits.{quoted-position, length-position}
use Rattle.shape_json.proofs.writer.put_position.Goals as goal

pub put-requires-2 : goal.put-requires-2
put-requires-2 c = omega (arith, c.requires, length-position c.args.lsn c.args.pos c.ranges.lsn.fits c.ranges.pos.fits, c.put.ensures.len, c.put.ensures.room, ap length c.format.ensures.text)

pub put-requires-3 : goal.put-requires-3
put-requires-3 c = omega (arith, c.requires, length-position c.args.lsn c.args.pos c.ranges.lsn.fits c.ranges.pos.fits, c.put.ensures.len, c.put.ensures.room, ap length c.format.ensures.text, c.put-2.ensures.len, c.put-2.ensures.room)

pub put-requires-4 : goal.put-requires-4
put-requires-4 c = omega (arith, c.requires, length-position c.args.lsn c.args.pos c.ranges.lsn.fits c.ranges.pos.fits, c.put.ensures.len, c.put.ensures.room, ap length c.format.ensures.text, c.put-2.ensures.len, c.put-2.ensures.room, c.put-3.ensures.len, c.put-3.ensures.room, ap length c.format-2.ensures.text)

pub put-requires-5 : goal.put-requires-5
put-requires-5 c = omega (arith, c.requires, length-position c.args.lsn c.args.pos c.ranges.lsn.fits c.ranges.pos.fits, c.put.ensures.len, c.put.ensures.room, ap length c.format.ensures.text, c.put-2.ensures.len, c.put-2.ensures.room, c.put-3.ensures.len, c.put-3.ensures.room, ap length c.format-2.ensures.text, c.put-4.ensures.len, c.put-4.ensures.room)

pub returns : goal.returns
returns c =
    let same = ap₂ (λ (a b : List ℕ). 34 ∷ [] ++ a ++ 95 ∷ [] ++ b ++ 34 ∷ []) c.format.ensures.text c.format-2.ensures.text ∙ sym (quoted-position c.args.lsn c.args.pos c.ranges.lsn.fits c.ranges.pos.fits) in
    subst (λ (l : List ℕ). Adds c.args.out.now c.put-5.new.out l) same (joins (joins (joins (joins c.put.ensures c.put-2.ensures) c.put-3.ensures) c.put-4.ensures) c.put-5.ensures)
