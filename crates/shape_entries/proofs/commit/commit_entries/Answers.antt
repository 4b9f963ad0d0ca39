use Rattle.std.proofs.Common.{◌≡◌, ◌∙◌, List, [], false, ◌==◌, sym, ap, subst}
use Rattle.std.specs.List.{list_any, flat_map}
use Rattle.shape_base.specs.declared.definition.TableDef.{TableDef}
use Rattle.shape_base.specs.declared.entry.Entry.{Entry}
use Rattle.shape_base.specs.Tables.{changes_of}
use Rattle.shape_base.specs.Shape.{emit, stops}
use Rattle.chunked_log.specs.Chunked.{Writes}
use Rattle.shape_entries.proofs.Changes.{no_changes}
use Rattle.shape_entries.proofs.commit.commit_entries.Goals as goal

pub returns-then-not-names_table-clause-entries : goal.returns-then-not-names_table-clause-entries
returns-then-not-names_table-clause-entries g c = let s = g.T.RowTest.knows c.args.emitter.now.test in
    subst (λ (es : List Entry). Writes c.new.result es) (ap (flat_map (emit s c.args.tx.now.lsn)) (sym (no_changes s.definition.table c.args.tx.now
    (ap (λ t. list_any (λ (d : TableDef). d.table == t) c.args.tx.now.defs) (sym (ap (λ (d : TableDef). d.table) (c.definition.ensures ∙ ap (λ x. (g.T.RowTest.knows x).definition) c.test.ensures)))
    ∙ ap (λ ds. list_any (λ (d : TableDef). d.table == c.definition.result.now.table) ds) (sym c.as_slice.ensures) ∙ sym c.names_table.ensures ∙ c.if-not-names_table.true)))) c.new.ensures

pub returns-then-not-names_table-clause-stops : goal.returns-then-not-names_table-clause-stops
returns-then-not-names_table-clause-stops g c = let s = g.T.RowTest.knows c.args.emitter.now.test in
    ap (list_any (stops s)) (sym (no_changes s.definition.table c.args.tx.now
    (ap (λ t. list_any (λ (d : TableDef). d.table == t) c.args.tx.now.defs) (sym (ap (λ (d : TableDef). d.table) (c.definition.ensures ∙ ap (λ x. (g.T.RowTest.knows x).definition) c.test.ensures)))
    ∙ ap (λ ds. list_any (λ (d : TableDef). d.table == c.definition.result.now.table) ds) (sym c.as_slice.ensures) ∙ sym c.names_table.ensures ∙ c.if-not-names_table.true)))
