use Rattle.std.proofs.Common.{◌≡◌, ℕ, Bool, List, sym, ap, ◌∙◌, refl}
use Rattle.std.proofs.lemmas.Result.{on_ok_weaker}
use Rattle.shape_base.specs.Tables.{same_text}
use Rattle.core_clients.proofs.QueryLaws.{table_added, columns_added, clause_added, not_known, unknown_name}
use Rattle.core_clients.proofs.query.Values.add.Goals as goal

is_name : (n : List ℕ) {k j : List ℕ} {b : Bool} → j ≡ k → same_text n j ≡ b → same_text n k ≡ b
is_name n e h = ap (same_text n) (sym e) ∙ h

pub returns-then-eq-clause-added : goal.returns-then-eq-clause-added
returns-then-eq-clause-added c = on_ok_weaker c.put.result (table_added c.args.self.now c.put.new.slot c.args.name.now c.args.value (is_name c.args.name.now c.as_slice.ensures (sym c.eq.ensures ∙ c.if-eq.true))) c.put.ensures.put

pub returns-then-eq-2-clause-added : goal.returns-then-eq-2-clause-added
returns-then-eq-2-clause-added c = on_ok_weaker c.put-then-eq-2.result (columns_added c.args.self.now c.put-then-eq-2.new.slot c.args.name.now c.args.value (is_name c.args.name.now c.as_slice-else-eq.ensures (sym c.eq-else-eq.ensures ∙ c.if-eq-2.true))) c.put-then-eq-2.ensures.put

pub returns-then-eq-3-clause-added : goal.returns-then-eq-3-clause-added
returns-then-eq-3-clause-added c = on_ok_weaker c.put-then-eq-3.result (clause_added c.args.self.now c.put-then-eq-3.new.slot c.args.name.now c.args.value (is_name c.args.name.now c.as_slice-else-eq-2.ensures (sym c.eq-else-eq-2.ensures ∙ c.if-eq-3.true))) c.put-then-eq-3.ensures.put

pub returns-else-eq-3-clause-refused : goal.returns-else-eq-3-clause-refused
returns-else-eq-3-clause-refused c = (
  refl,
  λ front rest q read is. unknown_name front rest (c.args.name.now, c.args.value) q (not_known c.args.name.now c.args.value
      (is_name c.args.name.now c.as_slice.ensures (sym c.eq.ensures ∙ c.if-eq.false))
      (is_name c.args.name.now c.as_slice-else-eq.ensures (sym c.eq-else-eq.ensures ∙ c.if-eq-2.false))
      (is_name c.args.name.now c.as_slice-else-eq-2.ensures (sym c.eq-else-eq-2.ensures ∙ c.if-eq-3.false))) is,
)
