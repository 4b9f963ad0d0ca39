use Rattle.std.specs.Prelude.{Result, Err}
use Rattle.change_map.specs.declared.key.KeyError.{KeyError}
use Rattle.shape_base.specs.declared.text.Text.{Text}
use Rattle.std.proofs.Common.{ap}
use Rattle.shape_entries.proofs.Changes.{null_bad}
use Rattle.shape_entries.proofs.Rows.{lacking}
use Rattle.shape_entries.proofs.start.good_key.Goals as goal

pub returns-in-Err-NullKey-clause-good : goal.returns-in-Err-NullKey-clause-good
returns-in-Err-NullKey-clause-good g c =
    let e = c.in-Err-NullKey in
    let s = g.T.RowTest.knows c.args.test.now in
    lacking s c.args.row.now (null_bad s.key c.args.row.now e.field-0-0 ((e.ensures).null e.field-0-0 (ap (λ (x : KeyError). let r : Result Text KeyError = Err x in r) e.field-0-is)).passes)
