use Rattle.std.proofs.Common.{◌∙◌, ap}
use Rattle.std.specs.Prelude.{length}
use Rattle.shape_registry.specs.State.{lsn_in}
use Rattle.shape_registry_cases.proofs.board.Board.write.Goals as goal

pub invariant_of-self : goal.invariant_of-self
invariant_of-self c = record {
  tables = ap (λ s. length s.catalog) (c.kept_mut.follows.holds c.args.value).0 ∙ c.args.self.now.tables;
  taken = ap lsn_in (c.kept_mut.follows.holds c.args.value).0 ∙ c.args.self.now.taken;
}
