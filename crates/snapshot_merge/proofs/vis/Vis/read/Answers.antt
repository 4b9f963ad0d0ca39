use Rattle.std.proofs.Common.{subst}
use Rattle.snapshot_merge.specs.VisText.{visibility_of}
use Rattle.snapshot_merge.specs.Answers.{Fails}
use Rattle.snapshot_merge.specs.declared.reading.Fault.{Fault}
use Rattle.snapshot_merge.proofs.Bounds.{place_of}
use Rattle.snapshot_merge.proofs.vis.Vis.read.Goals as goal

pub returns-in-Err-Wrong : goal.returns-in-Err-Wrong
returns-in-Err-Wrong c = place_of c.args.text.now c.in-Err-Wrong.left c.saturating_sub-place.result (subst (λ (e : Fault). Fails e (visibility_of c.args.text.now)) c.in-Err-Wrong.field-0-is c.in-Err-Wrong.ensures.read) c.saturating_sub-place.ensures
