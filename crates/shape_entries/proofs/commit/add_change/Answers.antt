use Rattle.std.proofs.Common.{◌≡◌, List, ◌∙◌, sym, ap, subst, not}
use Rattle.std.specs.Option.{option_copied}
use Rattle.shape_base.specs.declared.definition.TableDef.{TableDef}
use Rattle.shape_base.specs.declared.entry.Entry.{Entry}
use Rattle.chunked_log.specs.Chunked.{Writes}
use Rattle.shape_entries.specs.Commit.{own_at}
use Rattle.shape_entries.proofs.Changes.{own_some, own_other, own_none, adds_none, stops_none, adds_one, stops_one, wide_of, if_ok}
use Rattle.shape_entries.proofs.commit.add_change.Goals as goal

pub returns-then-def-definition-clause-kept : goal.returns-then-def-definition-clause-kept
returns-then-def-definition-clause-kept g c entries writes _ =
    let s = g.T.RowTest.knows c.args.emitter.now.test in
    let same : c.definition.result.now ≡ s.definition = c.definition.ensures ∙ ap (λ t. (g.T.RowTest.knows t).definition) c.test.ensures in
    subst (λ (es : List Entry). Writes c.args.written.now es) (sym (adds_none s c.args.tx.now.lsn _ entries (own_other s.definition.table c.args.j c.args.change.now.kind _ c.in-Some.def.now (sym c.definition_of.ensures ∙ ap option_copied c.in-Some.is) (λ e. c.if-def-definition.true (e ∙ ap (λ (d : TableDef). d.table) (sym same)))))) writes

pub returns-then-def-definition-clause-stops : goal.returns-then-def-definition-clause-stops
returns-then-def-definition-clause-stops g c =
    let s = g.T.RowTest.knows c.args.emitter.now.test in
    let same : c.definition.result.now ≡ s.definition = c.definition.ensures ∙ ap (λ t. (g.T.RowTest.knows t).definition) c.test.ensures in
    stops_none s _ (own_other s.definition.table c.args.j c.args.change.now.kind _ c.in-Some.def.now (sym c.definition_of.ensures ∙ ap option_copied c.in-Some.is) (λ e. c.if-def-definition.true (e ∙ ap (λ (d : TableDef). d.table) (sym same))))

pub add_own-requires-clause-wide : goal.add_own-requires-clause-wide
add_own-requires-clause-wide g c = wide_of c.args.tx.now.defs c.args.change.now c.in-Some.def.now c.requires.under (sym c.definition_of.ensures ∙ ap option_copied c.in-Some.is)

pub returns-in-None-clause-kept : goal.returns-in-None-clause-kept
returns-in-None-clause-kept g c entries writes _ =
    let s = g.T.RowTest.knows c.args.emitter.now.test in
    subst (λ (es : List Entry). Writes c.args.written.now es) (sym (adds_none s c.args.tx.now.lsn _ entries (own_none s.definition.table c.args.j c.args.change.now.kind _ (sym c.definition_of.ensures ∙ ap option_copied c.in-None.is)))) writes

pub returns-in-None-clause-stops : goal.returns-in-None-clause-stops
returns-in-None-clause-stops g c =
    let s = g.T.RowTest.knows c.args.emitter.now.test in
    stops_none s _ (own_none s.definition.table c.args.j c.args.change.now.kind _ (sym c.definition_of.ensures ∙ ap option_copied c.in-None.is))

pub returns-else-def-definition-clause-kept : goal.returns-else-def-definition-clause-kept
returns-else-def-definition-clause-kept g c entries writes =
    let s = g.T.RowTest.knows c.args.emitter.now.test in
    let same : c.definition.result.now ≡ s.definition = c.definition.ensures ∙ ap (λ t. (g.T.RowTest.knows t).definition) c.test.ensures in
    let one = own_some s.definition.table c.args.j c.args.change.now.kind _ c.in-Some.def.now (sym c.definition_of.ensures ∙ ap option_copied c.in-Some.is) (c.if-def-definition.false ∙ ap (λ (d : TableDef). d.table) same) in
    if_ok c.add_own.result _ _ (λ kept h e. subst (λ (es : List Entry). Writes c.add_own.new.written es) (adds_one s c.args.tx.now.lsn _ (own_at c.in-Some.def.now c.args.j c.args.change.now.kind) entries one) (h e)) (c.add_own.ensures.kept entries writes)

pub returns-else-def-definition-clause-stops : goal.returns-else-def-definition-clause-stops
returns-else-def-definition-clause-stops g c =
    let s = g.T.RowTest.knows c.args.emitter.now.test in
    let same : c.definition.result.now ≡ s.definition = c.definition.ensures ∙ ap (λ t. (g.T.RowTest.knows t).definition) c.test.ensures in
    let one = own_some s.definition.table c.args.j c.args.change.now.kind _ c.in-Some.def.now (sym c.definition_of.ensures ∙ ap option_copied c.in-Some.is) (c.if-def-definition.false ∙ ap (λ (d : TableDef). d.table) same) in
    if_ok c.add_own.result _ _ (λ kept h. stops_one s _ (own_at c.in-Some.def.now c.args.j c.args.change.now.kind) (not kept) one h) c.add_own.ensures.stops
