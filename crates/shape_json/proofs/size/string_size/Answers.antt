use Rattle.std.proofs.Common.{◌≡◌, ◌+◌, arith, length, take, get_or}
use Rattle.std.proofs.lemmas.List.{get_or_default}
use Rattle.json.specs.Print.{escape}
use Rattle.shape_json.proofs.Sizes.{escape_next}
use Rattle.shape_json.specs.Body.{capped}
use Rattle.shape_json.proofs.size.string_size.Goals as goal

pub loop-byte-preserved : goal.loop-byte-preserved
loop-byte-preserved c =
    let before : c.loop-byte.size ≡ capped (length (escape (take c.loop-byte.byte-index c.args.text.now)) + 2) = c.loop-byte.invariant in
    omega (arith, before, c.saturating_add-size.ensures, c.spelled_size.ensures, escape_next c.args.text.now c.loop-byte.byte-index (get_or c.args.text.now c.loop-byte.byte-index 0) c.loop-byte-test.true (get_or_default c.args.text.now c.loop-byte.byte-index 0 (get_or c.args.text.now c.loop-byte.byte-index 0) c.loop-byte-test.true))
