use Rattle.std.proofs.Common.{◌∙◌, sym, ap, List}
use Rattle.shape_base.specs.declared.definition.TableDef.{TableDef}
use Rattle.shape_base.specs.Tables.{Table}
use Rattle.shape_model.proofs.Breaking.{has_at, bad_base, table_to}
use Rattle.shape_model.proofs.good.good_table.Goals as goal

pub returns-then-not-branch : goal.returns-then-not-branch
returns-then-not-branch c =
    let h = c.args.history.now in
    bad_base h c.args.table c.at-served.result.now c.at-def.result.now c.at-base.result.now
    (has_at h c.args.table c.at-served.result.now c.at-def.result.now c.at-base.result.now c.requires.served c.requires.defined c.requires.base c.at-served.ensures c.at-def.ensures c.at-base.ensures)
    (sym c.in_ok-fit_def.ensures ∙ c.if-not-branch.true)

pub returns : goal.returns
returns c =
    let h = c.args.history.now in
    table_to h c.args.table c.args.most c.in_ok-count.count c.at-served.result.now c.at-def.result.now c.at-base.result.now _
    (has_at h c.args.table c.at-served.result.now c.at-def.result.now c.at-base.result.now c.requires.served c.requires.defined c.requires.base c.at-served.ensures c.at-def.ensures c.at-base.ensures)
    (ap (λ (d : TableDef). record { def = d; rows = c.in_ok-copy-2.field-0; since = c.in_ok-one.field-0 }) c.in_ok-copy.ensures
    ∙ ap (λ (rs : Table). record { def = c.at-def.result.now; rows = rs; since = c.in_ok-one.field-0 }) c.in_ok-copy-2.ensures
    ∙ ap (λ (ds : List TableDef). record { def = c.at-def.result.now; rows = c.at-base.result.now; since = ds }) c.in_ok-one.ensures)
    (sym c.in_ok-fit_def.ensures ∙ c.if-not-branch.false) c.in_ok-count.ensures.bound c.in_ok-count.ensures.good c.in_ok-count.ensures.broken
