use Rattle.std.proofs.Common.{◌<◌, ◌++◌, ◌∷◌, [], List, ℕ, inr, refl, sym, ap, subst, ◌∙◌, arith}
use Rattle.shape_base.specs.declared.change.Tx.{Tx}
use Rattle.snapshot_merge.specs.Buffer.{bytes_of, capped}
use Rattle.snapshot_merge.proofs.Sums.{capped_with}
use Rattle.snapshot_merge.proofs.pending.Pending.push.Goals as goal

pub returns-then-bytes-self-clause-fits : goal.returns-then-bytes-self-clause-fits
returns-then-bytes-self-clause-fits c =
    let sum = capped_with c.args.self.now.txs c.args.tx.now c.args.self.now.bytes c.saturating_add-bytes.result c.args.self.now.counted c.saturating_add-bytes.ensures in
    λ over. rw sum refl

pub returns-then-bytes-self-clause-full : goal.returns-then-bytes-self-clause-full
returns-then-bytes-self-clause-full c =
    let sum = capped_with c.args.self.now.txs c.args.tx.now c.args.self.now.bytes c.saturating_add-bytes.result c.args.self.now.counted c.saturating_add-bytes.ensures in
    inr (subst (λ (n : ℕ). c.args.self.now.limit < n) sum c.if-bytes-self.true, rw sum refl)

pub returns-in_err-twin-clause-fits : goal.returns-in_err-twin-clause-fits
returns-in_err-twin-clause-fits c =
    let sum = capped_with c.args.self.now.txs c.args.tx.now c.args.self.now.bytes c.saturating_add-bytes.result c.args.self.now.counted c.saturating_add-bytes.ensures in
    λ over. absurd (omega (arith, over, sum, c.if-bytes-self.false))

pub returns-in_err-push-clause-fits : goal.returns-in_err-push-clause-fits
returns-in_err-push-clause-fits c =
    let sum = capped_with c.args.self.now.txs c.args.tx.now c.args.self.now.bytes c.saturating_add-bytes.result c.args.self.now.counted c.saturating_add-bytes.ensures in
    λ over. absurd (omega (arith, over, sum, c.if-bytes-self.false))

pub invariant_of-self-2 : goal.invariant_of-self-2
invariant_of-self-2 c =
    let sum = capped_with c.args.self.now.txs c.args.tx.now c.args.self.now.bytes c.saturating_add-bytes.result c.args.self.now.counted c.saturating_add-bytes.ensures in
    record { counted = sum ∙ ap (λ (txs : List Tx). capped (bytes_of txs)) (sym (c.in_ok-push.ensures.ok ∙ ap (λ (tx : Tx). c.args.self.now.txs ++ tx ∷ []) c.in_ok-twin.ensures)) }
