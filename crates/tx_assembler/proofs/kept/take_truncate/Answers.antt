use Rattle.std.proofs.Common.{◌≡◌, ℕ, ◌+◌, ◌*◌, length, refl, sym, ap, subst, ◌∙◌, Ok, Bool, Option}
use Rattle.std.specs.FinMap as map
use Rattle.shape_base.specs.declared.definition.TableDef.{TableDef}
use Rattle.shape_base.specs.declared.change.Tx.{Tx}
use Rattle.tx_assembler.specs.Answers.{Answer}
use Rattle.tx_assembler.specs.Kept.{target_of}
use Rattle.tx_assembler.specs.Taking.{IsTaken, some_served}
use Rattle.tx_assembler.proofs.Targets.{truncates, truncates_none, truncates_refused}
use Rattle.tx_assembler.proofs.kept.take_truncate.Goals as goal

pub returns-in-Ok-true : goal.returns-in-Ok-true
returns-in-Ok-true c =
    let target : ℕ → Option (Option TableDef) = target_of c.args.tables.now (map.get c.args.relations.now) in
    let served : some_served target c.args.oids.now ≡ Ok c.in-Ok-true.field-0 = c.in-Ok-true.ensures in
    subst (λ (a : Answer Tx). IsTaken c.truncate.result c.args.tx.now c.truncate.new.tx a)
    (sym (truncates target c.args.oids.now c.args.tx.now (6 + 4 * length c.args.oids.now) (served ∙ ap (λ (b : Bool). Ok b) c.in-Ok-true.field-0-test))) c.truncate.ensures

pub returns-in-Ok-false : goal.returns-in-Ok-false
returns-in-Ok-false c =
    let target : ℕ → Option (Option TableDef) = target_of c.args.tables.now (map.get c.args.relations.now) in
    let served : some_served target c.args.oids.now ≡ Ok c.in-Ok-false.field-0 = c.in-Ok-false.ensures in
    truncates_none target c.args.oids.now c.args.tx.now (6 + 4 * length c.args.oids.now) (served ∙ ap (λ (b : Bool). Ok b) c.in-Ok-false.field-0-test) c.requires.small

pub returns-in-Err : goal.returns-in-Err
returns-in-Err c = (refl, truncates_refused (target_of c.args.tables.now (map.get c.args.relations.now)) c.args.oids.now c.args.tx.now (6 + 4 * length c.args.oids.now) c.in-Err.error c.in-Err.ensures)
