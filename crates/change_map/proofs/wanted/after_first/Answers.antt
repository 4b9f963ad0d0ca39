use Rattle.std.proofs.Common.{[], arith, inl, inr}
use Rattle.change_map.proofs.Utf8Wants.{given, wants_ascii, wants_one, wants_e0, wants_ed, wants_three_bytes, wants_f0, wants_four_bytes, wants_f4, wants_none}
use Rattle.change_map.proofs.wanted.after_first.Goals as goal

pub returns-in-224 : goal.returns-in-224
returns-in-224 c = given [] c.args.byte _ c.lacking.result c.lacking.ensures (wants_e0 c.args.byte c.in-224.is)

pub returns-in-237 : goal.returns-in-237
returns-in-237 c = given [] c.args.byte _ c.lacking-in-237.result c.lacking-in-237.ensures (wants_ed c.args.byte c.in-237.is)

pub returns-in-240 : goal.returns-in-240
returns-in-240 c = given [] c.args.byte _ c.lacking-in-240.result c.lacking-in-240.ensures (wants_f0 c.args.byte c.in-240.is)

pub returns-in-244 : goal.returns-in-244
returns-in-244 c = given [] c.args.byte _ c.lacking-in-244.result c.lacking-in-244.ensures (wants_f4 c.args.byte c.in-244.is)

pub returns-in-0-to-127 : goal.returns-in-0-to-127
returns-in-0-to-127 c = given [] c.args.byte _ c.lacking-in-0-to-127.result c.lacking-in-0-to-127.ensures (wants_ascii c.args.byte (omega arith))

pub returns-in-194-to-223 : goal.returns-in-194-to-223
returns-in-194-to-223 c = given [] c.args.byte _ c.lacking-in-194-to-223.result c.lacking-in-194-to-223.ensures (wants_one c.args.byte (omega arith) (omega arith))

pub returns-in-225-to-239 : goal.returns-in-225-to-239
returns-in-225-to-239 c = given [] c.args.byte _ c.lacking-in-225-to-239.result c.lacking-in-225-to-239.ensures (wants_three_bytes c.args.byte (omega arith) (omega arith) (omega arith))

pub returns-in-241-to-243 : goal.returns-in-241-to-243
returns-in-241-to-243 c = given [] c.args.byte _ c.lacking-in-241-to-243.result c.lacking-in-241-to-243.ensures (wants_four_bytes c.args.byte (omega arith) (omega arith))

pub returns-in_default : goal.returns-in_default
returns-in_default c = wants_none c.args.byte (omega arith) (inl (omega arith))

pub returns-in_default-2 : goal.returns-in_default-2
returns-in_default-2 c = wants_none c.args.byte (omega arith) (inr (omega arith))
