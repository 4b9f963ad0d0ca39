use Rattle.std.proofs.Common.{◌≡◌, drop}
use Rattle.shape_base.specs.Log.{unseen}
use Rattle.shape_state.proofs.readying.unseen.Given as goal

-- all before the place are shown
abbrev pub invariant-loop-place : goal.invariant-loop-place
invariant-loop-place l = unseen l.vis (drop l.place l.txs) ≡ unseen l.vis l.txs
