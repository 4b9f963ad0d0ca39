use Rattle.std.proofs.Common.{refl, ◌∙◌, sym, subst}
use Rattle.std.specs.Str.{IsUtf8}
use Rattle.shape_base.proofs.Decimals.{no_handle_whole, no_handle_number, no_handle_zero, no_handle_run, run_utf8}
use Rattle.shape_base.proofs.handle.Handle.read.Goals as goal
use Rattle.shape_base.proofs.handle.Handle.read.Goals.{then-number-eq0-via-then-number-eq0, then-number-eq0-via-else-number-eq0+then-not-is_run}

pub returns-in_default-clause-refused : goal.returns-in_default-clause-refused
returns-in_default-clause-refused c _ = no_handle_whole c.args.text.now (c.in_default.ensures.absent refl)

pub returns-in_default-read_decimal-clause-refused : goal.returns-in_default-read_decimal-clause-refused
returns-in_default-read_decimal-clause-refused c _ = no_handle_number c.args.text.now _ _ c.in-Some.ensures.found (c.in_default-read_decimal.ensures.refused refl)

pub returns-then-number-eq0-clause-refused : goal.returns-then-number-eq0-clause-refused
returns-then-number-eq0-clause-refused c _ = elim c.then-number-eq0.branch [
  | then-number-eq0-via-then-number-eq0 w ↦ no_handle_zero c.args.text.now _ _ _ c.in-Some.ensures.found c.in-Some-read_decimal.ensures.read w.if-number-eq0.true
  | then-number-eq0-via-else-number-eq0+then-not-is_run w ↦ no_handle_run c.args.text.now _ _ c.in-Some.ensures.found (sym w.is_run.ensures ∙ w.if-not-is_run.true)
]

pub of_bytes-run-requires : goal.of_bytes-run-requires
of_bytes-run-requires c = subst IsUtf8 (sym c.in_ok-from_slice.ensures.items) (run_utf8 _ (sym c.is_run.ensures ∙ c.if-not-is_run.false))
