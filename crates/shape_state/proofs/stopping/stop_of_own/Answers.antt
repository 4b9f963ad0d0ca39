use Rattle.std.proofs.Common.{◌≡◌, ◌∙◌, sym, ap, true, false}
use Rattle.std.specs.Prelude.{Result, Err}
use Rattle.change_map.specs.declared.emitting.EmitError.{EmitError}
use Rattle.change_map.specs.declared.emitting.Emitted.{Emitted}
use Rattle.shape_base.specs.Shape.{is_truncate}
use Rattle.shape_base.specs.Tables.{same_def}
use Rattle.shape_state.specs.Reading.{reader_of}
use Rattle.shape_state.proofs.Causes.{stop_bad, is_whole}
use Rattle.shape_state.proofs.stopping.stop_of_own.Goals as goal

pub returns-in-BadRow : goal.returns-in-BadRow
returns-in-BadRow g c =
    let test = c.args.emitter.now.test in
    let r = reader_of (g.T.RowTest.knows test) (g.T.RowTest.unread test) in
    let d = c.args.def.now in
    let kind = c.args.change.now.kind in
    let t : is_truncate kind ≡ false = sym c.is_truncate.ensures ∙ c.if-is_truncate.false in
    let e : same_def d r.knows.definition ≡ true = ap (same_def d) (sym (c.definition.ensures ∙ ap (λ x. (g.T.RowTest.knows x).definition) c.test.ensures)) ∙ sym c.are_same_defs.ensures ∙ c.if-not-are_same_defs.false in
    stop_bad r c.args.lsn d c.args.j kind c.in-BadRow.column (g.met.T.RowTest.reads test) (g.met.T.RowTest.lawful test) t e (is_whole r.knows.definition d kind t e c.requires.wide)
    ((c.in-Err.ensures).bad c.in-BadRow.column (ap (λ (x : EmitError). let y : Result Emitted EmitError = Err x in y) c.in-BadRow.is))
