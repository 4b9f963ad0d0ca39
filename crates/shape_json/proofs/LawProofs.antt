-- The laws over bodies and over a shape's history.
use Rattle.std.proofs.Common.{◌≡◌, ℕ, ◌+◌, Bool, true, false, List, [], ◌∷◌, length, refl, sym, ap, ap₂, ◌∙◌, arith, length-append, Option, None, Some}
use Rattle.std.specs.Prelude.{not, ◌||◌, is_some}
use Rattle.std.specs.Bool.{if◌then◌else◌}
use Rattle.std.specs.List.{sum}
use Rattle.std.proofs.lemmas.List.Sums.{sum_by-cons}
use Rattle.shape_base.specs.declared.entry.Entry.{Entry}
use Rattle.shape_base.specs.declared.cause.Cause.{Cause}
use Rattle.shape_base.specs.Tables.{Values, Own, same_def}
use Rattle.shape_base.specs.Shape.{stops, is_truncate, is_bad, old_of, new_of}
use Rattle.shape_base.proofs.Lemmas.{same_meaning, same_log}
use Rattle.shape_json.specs.Body.{entry_text}
use Rattle.shape_json.specs.Page.{sizes_of}
use Rattle.shape_json.specs.ShapeHistory.{Reader, or_else, bad_row, stop_of, first_stop, taken}
use Rattle.shape_json.specs.Laws.{BodiesTell, SizesAdd, LogIsTaken, LogIsOf, StopsHaveCause}
use Rattle.shape_json.proofs.Writing.{more}
use Rattle.shape_json.proofs.Once.{body_once}

pub bodies_tell : BodiesTell
bodies_tell = body_once

sum_next : (n : ℕ) (ns : List ℕ) → sum (n ∷ ns) ≡ n + sum ns
sum_next n ns = sum_by-cons (λ x. x) n ns

more_sizes : (es : List Entry) → length (more entry_text es) ≡ sum (sizes_of es) + length es
more_sizes [] = refl
more_sizes (e ∷ es) = omega (arith, length-append (entry_text e) (more entry_text es), more_sizes es, sum_next (length (entry_text e)) (sizes_of es))

pub sizes_add : SizesAdd
sizes_add e es = omega (arith, length-append (entry_text e) (more entry_text es), more_sizes es, sum_next (length (entry_text e)) (sizes_of es))

pub log_is_taken : LogIsTaken
log_is_taken h s snapshot events q n alike = same_meaning s snapshot.visibility snapshot.rows (taken events) _ alike

pub log_is_of : LogIsOf
log_is_of h s snapshot events k q n alike honest last = log_is_taken h s snapshot events q n alike ∙ sym (same_log h s snapshot k q n honest last)

-- ---- causes

some_if : (b : Bool) (cause : Cause) → is_some {T = Cause} (if b then Some cause else None) ≡ b
some_if true cause = refl
some_if false cause = refl

some_either : (a b : Option Cause) → is_some (or_else a b) ≡ (is_some a || is_some b)
some_either None b = refl
some_either (Some cause) b = refl

some_bad : (r : Reader) (lsn : ℕ) (o : Option Values) → is_some (bad_row r lsn o) ≡ is_bad r.knows o
some_bad r lsn None = refl
some_bad r lsn (Some row) = some_if (is_bad r.knows (Some row)) _

some_stop_if : (a b : Bool) (x y : Cause) (z : Option Cause) → is_some {T = Cause} (if a then Some x else (if b then Some y else z)) ≡ (a || (b || is_some z))
some_stop_if true b x y z = refl
some_stop_if false true x y z = refl
some_stop_if false false x y z = refl

some_stop : (r : Reader) (lsn : ℕ) (c : Own) → is_some (stop_of r lsn c) ≡ stops r.knows c
some_stop r lsn c =
    some_stop_if (is_truncate c.kind) (not (same_def c.definition r.knows.definition)) _ _ (or_else (bad_row r lsn (old_of c.kind)) (bad_row r lsn (new_of c.kind)))
    ∙ ap (λ (b : Bool). is_truncate c.kind || (not (same_def c.definition r.knows.definition) || b))
    (some_either (bad_row r lsn (old_of c.kind)) (bad_row r lsn (new_of c.kind)) ∙ ap₂ (λ (a b : Bool). a || b) (some_bad r lsn (old_of c.kind)) (some_bad r lsn (new_of c.kind)))

pub stops_have_cause : StopsHaveCause
stops_have_cause r lsn [] = refl
stops_have_cause r lsn (c ∷ cs) = some_either (stop_of r lsn c) (first_stop r lsn cs) ∙ ap₂ (λ (a b : Bool). a || b) (some_stop r lsn c) (stops_have_cause r lsn cs)
