-- Rows that were taken are good.
use Rattle.std.proofs.Common.{◌≡◌, ℕ, ◌≤◌, Bool, true, false, not, ◌&&◌, ◌==◌, List, [], ◌∷◌, ◌++◌, length, refl, sym, ◌∙◌, ap, subst, arith, append_assoc, Option, None, Some, is_none}
use Rattle.std.specs.Prelude.{nat_lt}
use Rattle.std.specs.Bool.{if◌then◌else◌}
use Rattle.std.specs.List.{AllByRecursion}
use Rattle.std.proofs.lemmas.Bool.{eqb-true}
use Rattle.std.proofs.lemmas.Bool.Decides.{nat_tests}
use Rattle.std.proofs.lemmas.List.{append-nil}
use Rattle.shape_base.specs.declared.entry.Entry.{Entry}
use Rattle.shape_base.specs.declared.limits.Limits.{Limits}
use Rattle.shape_base.specs.Tables.{Values, Table, lacks_key}
use Rattle.shape_base.specs.Shape.{have_truths, key_text, picks}
use Rattle.shape_base.specs.Log.{start_from}
use Rattle.shape_json.specs.Body.{capped}
use Rattle.shape_json.specs.ShapeHistory.{Reader, bytes_of, bad_column}
use Rattle.shape_snapshot.specs.declared.faults.SnapError.{SnapError}
use Rattle.shape_snapshot.specs.declared.faults.SnapError.TheVariants as errors
use Rattle.shape_snapshot.specs.Refusals.{fault_of, is_taken_key, log_of, refusal_by, refusal_behind, refusal_of, or_else}
use Rattle.shape_snapshot.specs.Taken.{AreAllTaken}
use Rattle.shape_snapshot.specs.Laws.{TakenRowsAreGood}
use Rattle.shape_snapshot.proofs.Growing.{shown_same}

-- ---- one row

first_none : (o later : Option SnapError) → or_else o later ≡ None → (o ≡ None) × (later ≡ None)
first_none None later h = (refl, h)
first_none (Some e) later h = cc

parts_by : (a b c : Bool) (n : ℕ) → (if not a then Some errors.WrongWidth else if b then Some (errors.BadValue n) else if c then Some (errors.NullKey n) else None) ≡ None → (a ≡ true) × ((b ≡ false) × (c ≡ false))
parts_by false b c n h = cc
parts_by true true c n h = cc
parts_by true false true n h = cc
parts_by true false false n h = (refl, (refl, refl))

-- a row that can be read
one_row : (r : Reader) (l : Limits) (before : Table) (row : Values) → refusal_of r l before row ≡ None
    → ((length row == length r.knows.definition.columns) ≡ true) × ((is_none (r.knows.truth row) ≡ false) × (lacks_key r.knows.key row ≡ false))
one_row r l before row h = parts_by (length row == length r.knows.definition.columns) (is_none (r.knows.truth row)) (lacks_key r.knows.key row) (bad_column r row) (first_none (fault_of r row) (if picks r.knows row then refusal_behind r.knows l before row else None) h).0

-- ---- the bytes of the log

full_none : (l : Limits) (n : ℕ) (b : Bool) → nat_lt l.log n ≡ b → (if b then Some (errors.LogFull (capped n) l.log) else None) ≡ None → n ≤ l.log
full_none l n true e h = cc
full_none l n false e h = grind (arith, nat_tests)

by_none : (l : Limits) (came : Bool) (key : List ℕ) (n : ℕ) → refusal_by l came key n ≡ None → n ≤ l.log
by_none l true key n h = cc
by_none l false key n h = full_none l n (nat_lt l.log n) refl h

bytes_by : (r : Reader) (l : Limits) (before : Table) (row : Values) (b : Bool) → picks r.knows row ≡ b → (if b then refusal_behind r.knows l before row else None) ≡ None → bytes_of (log_of r.knows before) ≤ l.log → bytes_of (log_of r.knows (before ++ row ∷ [])) ≤ l.log
bytes_by r l before row true e h fit = by_none l (is_taken_key r.knows before (key_text r.knows row)) (key_text r.knows row) (bytes_of (log_of r.knows (before ++ row ∷ []))) h
bytes_by r l before row false e h fit = subst (λ (es : List Entry). bytes_of es ≤ l.log) (sym (ap (start_from 1) (shown_same r.knows before row e))) fit

bytes_after : (r : Reader) (l : Limits) (before rows : Table) → AreAllTaken r l before rows → bytes_of (log_of r.knows before) ≤ l.log → bytes_of (log_of r.knows (before ++ rows)) ≤ l.log
bytes_after r l before [] h fit = subst (λ (rs : Table). bytes_of (log_of r.knows rs) ≤ l.log) (sym (append-nil before)) fit
bytes_after r l before (row ∷ rows) h fit =
    let one = bytes_by r l before row (picks r.knows row) refl (first_none (fault_of r row) (if picks r.knows row then refusal_behind r.knows l before row else None) h.0).1 fit in
    subst (λ (rs : Table). bytes_of (log_of r.knows rs) ≤ l.log) (append_assoc before (row ∷ []) rows) (bytes_after r l (before ++ row ∷ []) rows h.1 one)

-- ---- all rows

wide_all : (r : Reader) (l : Limits) (before rows : Table) → AreAllTaken r l before rows → AllByRecursion (λ row. length row ≡ length r.knows.definition.columns) rows
wide_all r l before [] h = tt
wide_all r l before (row ∷ rows) h = (eqb-true (length row) (length r.knows.definition.columns) (one_row r l before row h.0).0, wide_all r l (before ++ row ∷ []) rows h.1)

truths_all : (r : Reader) (l : Limits) (before rows : Table) → AreAllTaken r l before rows → have_truths r.knows rows ≡ true
truths_all r l before [] h = refl
truths_all r l before (row ∷ rows) h = ap (λ (b : Bool). not b && have_truths r.knows rows) (one_row r l before row h.0).1.0 ∙ truths_all r l (before ++ row ∷ []) rows h.1

given_all : (r : Reader) (l : Limits) (before rows : Table) → AreAllTaken r l before rows → AllByRecursion (λ row. lacks_key r.knows.key row ≡ false) rows
given_all r l before [] h = tt
given_all r l before (row ∷ rows) h = ((one_row r l before row h.0).1.1, given_all r l (before ++ row ∷ []) rows h.1)

pub good_rows : TakenRowsAreGood
good_rows r l rows h = record {
  wide = wide_all r l [] rows h;
  truths = truths_all r l [] rows h;
  given = given_all r l [] rows h;
  fit = bytes_after r l [] rows h (omega arith);
}
