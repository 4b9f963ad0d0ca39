use Rattle.std.specs.Prelude.{Some, map}
use Rattle.shape_json.specs.ShapeHistory.{Snapped}
use Rattle.shape_lock.specs.Passes.{snapshot_of}
use Rattle.shape_lock.proofs.calls.finish.Given as goal

abbrev pub ghosts-finish_held : goal.ghosts-finish_held
ghosts-finish_held g a = record { event = Some (Snapped (snapshot_of (g.T.RowTest.knows a.snap.emitter.test) a.snap.vis (map (λ r. r.value) a.rows.now.items))) }
