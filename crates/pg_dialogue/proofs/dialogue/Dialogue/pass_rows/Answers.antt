use Rattle.std.proofs.Common.{◌∙◌, subst, List, Option, Ok, arith}
use Rattle.shape_base.specs.declared.value.Value as values
use Rattle.pg_dialogue.specs.Links.{to_come}
use Rattle.pg_dialogue.specs.Outcomes.{Continues}
use Rattle.pg_dialogue.proofs.Filling.{takes_then}
use Rattle.pg_dialogue.proofs.Hearing.{ends_as}
use Rattle.pg_dialogue.proofs.Rows.{row_passed, rows_over, rows_stop}
use Rattle.pg_dialogue.proofs.dialogue.Dialogue.pass_rows.Goals as goal

pub returns-in-Ok-None-clause-read : goal.returns-in-Ok-None-clause-read
returns-in-Ok-None-clause-read g c t =
    let o = rows_over _ _ _ (subst (λ (x : Option (List values.Value)). Continues (Ok x) (to_come c.rows.self (g.P.Traffic.left c.rows.link)) c.next_row.new.self (g.P.Traffic.left c.next_row.new.link)) c.in-Ok-None.field-0-is (c.in-Ok-None.ensures.read t)) in
    (o.0, c.rows.invariant.same t ∙ o.1)

pub returns-in-Err-clause-read : goal.returns-in-Err-clause-read
returns-in-Err-clause-read g c t = ends_as c.in-Err.error _ _ (c.rows.invariant.same t) (rows_stop _ c.in-Err.error (c.in-Err.ensures.read t))

pub rows-preserved-in-Ok-Some : goal.rows-preserved-in-Ok-Some
rows-preserved-in-Ok-Some g c = record {
  took = λ t. takes_then (c.rows.invariant.took t) (c.next_row.ensures.took t);
  same = λ t. c.rows.invariant.same t ∙ row_passed _ _ _ _ (subst (λ (x : Option (List values.Value)). Continues (Ok x) (to_come c.rows.self (g.P.Traffic.left c.rows.link)) c.next_row.new.self (g.P.Traffic.left c.next_row.new.link)) c.in-Ok-Some.field-0-is (c.in-Ok-Some.ensures.read t));
  later = omega (arith, c.rows.invariant.later, c.next_row.ensures.later);
  written = c.next_row.ensures.written ∙ c.rows.invariant.written;
  writes = c.next_row.ensures.writes ∙ c.rows.invariant.writes;
}
