use Rattle.std.proofs.Common.{◌∙◌, sym, ap, ◌∷◌, []}
use Rattle.std.specs.Bool.{if◌then◌else◌}
use Rattle.shape_model.proofs.Checking.{touched, commit_done}
use Rattle.shape_model.proofs.checks.after_commit.Goals as goal

pub returns-then-touches : goal.returns-then-touches
returns-then-touches c = commit_done c.args.standing.def _ c.in_ok-since-in-Some.since _ c.in-Some.rows (sym c.in_ok-good_commit.ensures ∙ c.in-Some.is)
    (c.in_ok-since-in-Some.ensures ∙ sym (touched c.args.table c.args.tx.now.defs 0 c.args.tx.now.changes c.args.standing.def c.args.standing.since ∙ ap (λ b. if b then c.args.standing.def ∷ [] else c.args.standing.since) (sym c.touches.ensures ∙ c.if-touches.true)))

pub returns-else-touches : goal.returns-else-touches
returns-else-touches c = commit_done c.args.standing.def _ c.args.standing.since _ c.in-Some.rows (sym c.in_ok-good_commit.ensures ∙ c.in-Some.is)
    (sym (touched c.args.table c.args.tx.now.defs 0 c.args.tx.now.changes c.args.standing.def c.args.standing.since ∙ ap (λ b. if b then c.args.standing.def ∷ [] else c.args.standing.since) (sym c.touches.ensures ∙ c.if-touches.false)))
