use Rattle.std.proofs.Common.{refl, arith}
use Rattle.script_play.proofs.Words.{value_within, limits_behind}
use Rattle.script_play.proofs.settings.limits_of.Goals as goal

pub invariant_of-result : goal.invariant_of-result
invariant_of-result c =
    let chunk = value_within _ _ 65536 _ 4096 1048576 c.requires c.value_of.ensures refl c.value_of.type_inv (omega arith) (omega arith) (omega arith) in
    let log = value_within _ _ 67108864 _ 1 67108864 c.requires c.value_of-2.ensures refl c.value_of-2.type_inv (omega arith) (omega arith) (omega arith) in
    let pending = value_within _ _ 67108864 _ 1 67108864 c.requires c.value_of-3.ensures refl c.value_of-3.type_inv (omega arith) (omega arith) (omega arith) in
    let shapes = value_within _ _ 1000 _ 1 1000 c.requires c.value_of-4.ensures refl c.value_of-4.type_inv (omega arith) (omega arith) (omega arith) in
    let hold = value_within _ _ 20000 _ 0 86400000 c.requires c.value_of-5.ensures refl c.value_of-5.type_inv (omega arith) (omega arith) (omega arith) in
    record {
      some = omega (arith, chunk.0);
      chunk_fits = omega (arith, chunk.1);
      log_fits = omega (arith, log.1);
      all_fit = omega arith;
      pending_fits = omega (arith, pending.1);
      shapes_fit = omega (arith, shapes.1);
      hold_fits = omega (arith, hold.1);
    }

pub returns : goal.returns
returns c = limits_behind _ _ c.requires (record { chunk = c.value_of.ensures; log = c.value_of-2.ensures; all = refl; pending = c.value_of-3.ensures; shapes = c.value_of-4.ensures; hold = c.value_of-5.ensures })
