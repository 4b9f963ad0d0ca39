-- A snapshot under way: its head, its rows, and the end of its dialogue.
use Rattle.std.proofs.Common.{◌≡◌, ◌⊎◌, inl, inr, ◌<◌, ℕ, Bool, true, false, List, [], ◌∷◌, ◌++◌, length, Option, None, Some, refl, sym, ap, subst, ◌∙◌, append_assoc}
use Rattle.std.specs.Prelude.{is_some, Result, Ok, Err, IfOk}
use Rattle.std.proofs.lemmas.List.{append-nil}
use Rattle.shape_base.specs.declared.limits.Limits.{Limits}
use Rattle.shape_base.specs.Tables.{Table, Values}
use Rattle.shape_json.specs.ShapeHistory.{Reader}
use Rattle.pg_dialogue.specs.declared.login.SnapHead.{SnapHead}
use Rattle.pg_dialogue.specs.declared.wire_error.WireError.{WireError}
use Rattle.pg_dialogue.specs.declared.wire_error.WireError.TheVariants as wires
use Rattle.pg_dialogue.specs.declared.snap_reader.SnapStep.{SnapStep}
use Rattle.pg_dialogue.specs.declared.snap_reader.SnapStep.TheVariants as steps
use Rattle.pg_dialogue.specs.declared.snap_reader.Stage.{Stage}
use Rattle.pg_dialogue.specs.declared.snap_reader.Stage.TheVariants.{Opening, Rows, Closing, Over}
use Rattle.pg_dialogue.specs.Course.{Course, Refused, Done, course_of}
use Rattle.pg_dialogue.specs.Reached.{Reached}
use Rattle.pg_dialogue.specs.Pieces.{Given, with_step, MayCome, IsFront, as_given, open_stand, HasGiven, Took}
use Rattle.shape_snapshot.specs.declared.faults.SnapError.{SnapError}
use Rattle.shape_snapshot.specs.declared.faults.SnapError.TheVariants as errors
use Rattle.shape_snapshot.specs.Refusals.{start_of, refusal_of, or_else, IsCause}
use Rattle.core_law.specs.Situation.{Options, Shape, Situation}
use Rattle.core_law.specs.Steps.{id_before}
use Rattle.core_server.specs.Snapshots.{Snap, error_in, first_refused, refusal_in}
use Rattle.core_server.specs.Snapshots as server
use Rattle.core_machine.specs.declared.fault.Fault.{Fault}
use Rattle.core_machine.specs.Faults.{fault_of}
use Rattle.core_machine.specs.Snapshots.{HasBegun, IsRefusedFor}
use Rattle.sync_core.specs.declared.snapshots.Taken.{Taken}
use Rattle.sync_core.specs.declared.snapshots.Taken.TheVariants as takens
use Rattle.sync_core.specs.declared.snapshots.UnderWay as program
use Rattle.sync_core.specs.declared.snapshots.Progress.{Progress}
use Rattle.sync_core.specs.declared.snapshots.Progress.TheVariants as progresses
use Rattle.sync_core.specs.Run.{fault_for}
use Rattle.sync_core.specs.UnderWay.{IsTaken, TakenOf, TakenFor, IsUnderWay, ComesTo, Stood, Finishes, Follows, Stepped, WentOn, GoesOn}

-- ---- refusals

or_stays : (a b c : Option SnapError) (e : SnapError) → (b ≡ Some e → c ≡ Some e) → or_else a b ≡ Some e → or_else a c ≡ Some e
or_stays None b c e f h = f h
or_stays (Some x) b c e f h = h

refused_before : (r : Reader) (l : Limits) (before rows more : Table) (e : SnapError) → first_refused r l before rows ≡ Some e → first_refused r l before (rows ++ more) ≡ Some e
refused_before r l before [] more e h = cc
refused_before r l before (row ∷ rows) more e h =
    or_stays (refusal_of r l before row) (first_refused r l (before ++ row ∷ []) rows) (first_refused r l (before ++ row ∷ []) (rows ++ more)) e (refused_before r l (before ++ row ∷ []) rows more e) h

-- what is refused stays so with more rows
pub refusal_stays : (o : Options) (s : Situation) (e : ℕ) (head : SnapHead) (rows more : Table) (error : SnapError) → IsRefusedFor o s e head rows error → IsRefusedFor o s e head (rows ++ more) error
refusal_stays o s e head rows more error h = record {
  number = h.number;
  shape = h.shape;
  owns = h.owns;
  at = h.at;
  refused = or_stays (error_in (start_of h.shape.reader.knows.definition (id_before s.server.commits h.shape.before) head)) (first_refused h.shape.reader o.limits [] rows) (first_refused h.shape.reader o.limits [] (rows ++ more)) error
      (refused_before h.shape.reader o.limits [] rows more error) h.refused;
}

cause_is : {P Q : Type 0} → (P → ⊥) → P ⊎ Q → Q
cause_is not (inl p) = absurd (not p)
cause_is not (inr q) = q

-- a refusal, where it is none for want of memory
pub refused_by : {E : Type 0} (r : Result Taken E) (error : SnapError) (P : Taken → Type 0) → IfOk r (λ t. t ≡ takens.Refused error) → IfOk r (λ t. error ≡ errors.OutOfMemory → ⊥)
    → ((t : Taken) → t ≡ takens.Refused error → (error ≡ errors.OutOfMemory → ⊥) → P t) → IfOk r P
refused_by (Ok t) error P is not f = f t is not
refused_by (Err e) error P is not f = tt

-- ---- what was taken

-- a head that begins
pub head_begins : (o : Options) (s : Situation) (e : ℕ) (head : SnapHead) (snap : Snap) → length head.columns < 4294967296 → HasBegun o s e head [] snap → IsTaken o s e head [] (takens.Rows snap)
head_begins o s e head snap few h = record { few = few; holds = h }

-- one that is refused
pub head_refused : (o : Options) (s : Situation) (e : ℕ) (head : SnapHead) (error : SnapError) (taken : Taken) → length head.columns < 4294967296 → taken ≡ takens.Refused error → (error ≡ errors.OutOfMemory → ⊥)
    → (error ≡ errors.OutOfMemory) ⊎ IsRefusedFor o s e head [] error → IsTaken o s e head [] taken
head_refused o s e head error taken few is not h = subst (λ (t : Taken). IsTaken o s e head [] t) (sym is) (record { few = few; holds = cause_is not h })

-- a row that is taken
pub row_taken : (o : Options) (s : Situation) (e : ℕ) (head : SnapHead) (rows more : Table) (old new : Snap) → IsTaken o s e head rows (takens.Rows old)
    → ((x : Shape) → server.IsUnderWay o s.server.commits x head rows old → server.IsUnderWay o s.server.commits x head (rows ++ more) new) → IsTaken o s e head (rows ++ more) (takens.Rows new)
row_taken o s e head rows more old new h f = let b : HasBegun o s e head rows old = h.holds in record { few = h.few; holds = record { number = b.number; shape = b.shape; owns = b.owns; at = b.at; under_way = f b.shape b.under_way } }

-- one that is refused
pub row_refused : (o : Options) (s : Situation) (e : ℕ) (head : SnapHead) (rows more : Table) (old : Snap) (error : SnapError) (taken : Taken) → IsTaken o s e head rows (takens.Rows old) → taken ≡ takens.Refused error → (error ≡ errors.OutOfMemory → ⊥)
    → ((x : Shape) → server.IsUnderWay o s.server.commits x head rows old → IsCause (refusal_in x.reader o.limits (id_before s.server.commits x.before) head (rows ++ more)) error) → IsTaken o s e head (rows ++ more) taken
row_refused o s e head rows more old error taken h is not f =
    let b : HasBegun o s e head rows old = h.holds in
    subst (λ (t : Taken). IsTaken o s e head (rows ++ more) t) (sym is) (record { few = h.few; holds = record { number = b.number; shape = b.shape; owns = b.owns; at = b.at; refused = cause_is not (f b.shape b.under_way) } })

-- one behind a refusal
pub row_passed : (o : Options) (s : Situation) (e : ℕ) (head : SnapHead) (rows more : Table) (error : SnapError) → IsTaken o s e head rows (takens.Refused error) → IsTaken o s e head (rows ++ more) (takens.Refused error)
row_passed o s e head rows more error h = record { few = h.few; holds = refusal_stays o s e head rows more error h.holds }

-- ---- a snapshot that came at once

-- these of its rows were taken, and the others are left
pub record Gathered (o : Options) (s : Situation) (e : ℕ) (head : SnapHead) (all rest : Table) (taken : Taken) : Type 0 where
  pub before : Table
  pub is : all ≡ before ++ rest
  pub holds : IsTaken o s e head before taken

pub gathers : (o : Options) (s : Situation) (e : ℕ) (head : SnapHead) (all rest : Table) (taken : Taken) → rest ≡ all → IsTaken o s e head [] taken → Gathered o s e head all rest taken
gathers o s e head all rest taken is h = record { before = []; is = sym is; holds = h }

pub gathers_more : (o : Options) (s : Situation) (e : ℕ) (head : SnapHead) (all left rest : Table) (row : Values) (old new : Taken) → left ≡ row ∷ rest → Gathered o s e head all left old
    → ((rows : Table) → IsTaken o s e head rows old → IsTaken o s e head (rows ++ row ∷ []) new) → Gathered o s e head all rest new
gathers_more o s e head all left rest row old new is h f = record {
  before = h.before ++ row ∷ [];
  is = h.is ∙ ap (λ (rows : Table). h.before ++ rows) is ∙ sym (append_assoc h.before (row ∷ []) rest);
  holds = f h.before h.holds;
}

pub gathered_all : (o : Options) (s : Situation) (e : ℕ) (head : SnapHead) (all rest : Table) (taken : Taken) (progress : Progress) → rest ≡ [] → Gathered o s e head all rest taken
    → ((rows : Table) → IsTaken o s e head rows taken → ComesTo o s e head rows progress) → ComesTo o s e head all progress
gathered_all o s e head all rest taken progress none h f =
    subst (λ (rows : Table). ComesTo o s e head rows progress) (sym (h.is ∙ ap (λ (rows : Table). h.before ++ rows) none ∙ append-nil h.before)) (f h.before h.holds)

-- ---- one step

-- before the head there are no rows
no_rows : (stage : Stage) (g : Given) → HasGiven stage g → g.head ≡ None → g.rows ≡ []
no_rows (Opening n) g h none = ap (λ (x : Given). x.rows) h
no_rows Rows g h none = let k = h.0 in cc
no_rows (Closing n) g h none = let k = h.0 in cc
no_rows Over g h none = let k = h.0 in cc

pub took_rows : (fed : List ℕ) (g : Given) (r : Reached) → Took fed g r → g.head ≡ None → g.rows ≡ []
took_rows fed g r t none = no_rows r.stage g t.has none

pub head_follows : (o : Options) (s : Situation) (e : ℕ) (g : Given) (head : SnapHead) (taken : Taken) → g.head ≡ None → (g.head ≡ None → g.rows ≡ []) → IsTaken o s e head [] taken → Follows o s e g (steps.Head head) taken
head_follows o s e g head taken may none h = record { goes = refl; holds = subst (λ (rows : Table). IsTaken o s e head rows taken) (sym (none may)) h }

row_after : (o : Options) (s : Situation) (e : ℕ) (a : Option SnapHead) (rows more : Table) (old new : Taken) → is_some a ≡ true → TakenOf o s e a rows old → ((head : SnapHead) → IsTaken o s e head rows old → IsTaken o s e head (rows ++ more) new) → TakenOf o s e a (rows ++ more) new
row_after o s e None rows more old new is h f = cc
row_after o s e (Some head) rows more old new is h f = f head h

pub row_follows : (o : Options) (s : Situation) (e : ℕ) (g : Given) (row : Values) (old new : Taken) → MayCome g (Some (steps.Row row)) → TakenFor o s e g old → ((head : SnapHead) → IsTaken o s e head g.rows old → IsTaken o s e head (g.rows ++ row ∷ []) new)
    → Follows o s e g (steps.Row row) new
row_follows o s e g row old new may h f = record { goes = refl; holds = row_after o s e g.head g.rows (row ∷ []) old new may.0 h f }

ends_by : {P : Type 0} (o : Options) (s : Situation) (e : ℕ) (a : Option SnapHead) (rows : Table) (old : Taken) → is_some a ≡ true → TakenOf o s e a rows old → ((head : SnapHead) → a ≡ Some head → IsTaken o s e head rows old → P) → P
ends_by o s e None rows old is h go = cc
ends_by o s e (Some head) rows old is h go = go head refl h

pub finishes : (o : Options) (s : Situation) (e : ℕ) (g : Given) (old : Taken) (progress : Progress) → MayCome g (Some steps.Done) → TakenFor o s e g old → ((head : SnapHead) → IsTaken o s e head g.rows old → ComesTo o s e head g.rows progress) → Finishes o s e g steps.Done progress
finishes o s e g old progress may h f = ends_by o s e g.head g.rows old may.0 h (λ head has taken. record { last = refl; head = head; has = has; comes = f head taken })

-- ---- how it stands

pub whole_stands : (o : Options) (s : Situation) (e : ℕ) (c : Course) (progress : Progress) (head : SnapHead) → c.head ≡ Some head → c.stand ≡ Done → ComesTo o s e head c.rows progress → Stood o s e c progress
whole_stands o s e c progresses.Waits head has done comes = absurd comes
whole_stands o s e c (progresses.Refused error) head has done comes = record { head = head; has = has; done = done; comes = comes }
whole_stands o s e c (progresses.Ended fault) head has done comes = absurd comes
whole_stands o s e c (progresses.Whole snap) head has done comes = record { head = head; has = has; done = done; comes = comes }

never_waits : (o : Options) (s : Situation) (e : ℕ) (head : SnapHead) (rows : Table) (progress : Progress) → ComesTo o s e head rows progress → progress ≡ progresses.Waits → ⊥
never_waits o s e head rows progress h is = subst (λ (p : Progress). ComesTo o s e head rows p) is h

course_is : (fed : List ℕ) (c : Course) → course_of (fed ++ []) ≡ c → course_of fed ≡ c
course_is fed c h = ap course_of (sym (append-nil fed)) ∙ h

-- the dialogue gave that it is done
pub done_stands : (o : Options) (s : Situation) (e : ℕ) (fed : List ℕ) (g : Given) (step : SnapStep) (progress : Progress) (under : program.UnderWay) → IsFront (with_step g (Some step)) (course_of (fed ++ [])) → Finishes o s e g step progress → WentOn o s e fed progress under
done_stands o s e fed g step progress under front f =
    let last : IsFront (with_step g (Some steps.Done)) (course_of (fed ++ [])) = subst (λ (x : SnapStep). IsFront (with_step g (Some x)) (course_of (fed ++ []))) f.last front in
    let is : course_of fed ≡ as_given g Done = course_is fed (as_given g Done) (last.done refl) in
    record {
      stood = subst (λ (c : Course). Stood o s e c progress) (sym is) (whole_stands o s e (as_given g Done) progress f.head f.has refl f.comes);
      waits = λ waits. absurd (never_waits o s e f.head g.rows progress f.comes waits);
    }

-- it gave something else, which was taken
pub more_stands : (o : Options) (s : Situation) (e : ℕ) (fed : List ℕ) (g : Given) (step : SnapStep) (under : program.UnderWay) → Took fed (with_step g (Some step)) under.reader → g.done ≡ false → Follows o s e g step under.taken → IsUnderWay o s e fed under
more_stands o s e fed g step under took goes f = record { given = with_step g (Some step); took = took; goes = f.goes ∙ goes; taken = f.holds }

pub step_stands : (o : Options) (s : Situation) (e : ℕ) (fed : List ℕ) (g : Given) (step : SnapStep) (progress : Option Progress) (under : program.UnderWay) → IsFront (with_step g (Some step)) (course_of (fed ++ [])) → Took fed (with_step g (Some step)) under.reader
    → g.done ≡ false → Stepped o s e g step progress under.taken → GoesOn o s e fed progress under
step_stands o s e fed g step None under front took goes h = more_stands o s e fed g step under took goes h
step_stands o s e fed g step (Some progress) under front took goes h = done_stands o s e fed g step progress under front h

-- it gave nothing
pub waits_stands : (o : Options) (s : Situation) (e : ℕ) (fed : List ℕ) (g : Given) (under : program.UnderWay) → Took fed g under.reader → g.done ≡ false → TakenFor o s e g under.taken → course_of fed ≡ as_given g (open_stand g.done (length fed)) → WentOn o s e fed progresses.Waits under
waits_stands o s e fed g under took goes taken is = record {
  stood = record { place = length fed; wants = ap (λ (c : Course). c.stand) is ∙ ap (λ (b : Bool). open_stand b (length fed)) goes };
  waits = λ same. record { given = g; took = took; goes = goes; taken = taken };
}

-- it is refused
pub ended_stands : (o : Options) (s : Situation) (e : ℕ) (fed : List ℕ) (g : Given) (error : WireError) (fault : Fault) (under : program.UnderWay) → (error ≡ wires.OutOfMemory → ⊥) → fault_of fault ≡ fault_for error
    → (error ≡ wires.OutOfMemory) ⊎ (course_of (fed ++ []) ≡ as_given g (Refused error)) → WentOn o s e fed (progresses.Ended fault) under
ended_stands o s e fed g error fault under not is h = record {
  stood = record { error = error; refused = ap (λ (c : Course). c.stand) (course_is fed (as_given g (Refused error)) (cause_is not h)); is = is };
  waits = λ waits. cc;
}

-- a refusal for want of memory, or that of the course of what was fed
pub refused_here : {P : Type 0} (fed : List ℕ) (g : Given) (r : Reached) (e : WireError) → Took fed g r → P ⊎ ((f more : List ℕ) (h : Given) → Took f h r → course_of (f ++ more) ≡ as_given h (Refused e)) → P ⊎ (course_of (fed ++ []) ≡ as_given g (Refused e))
refused_here fed g r e t (inl p) = inl p
refused_here fed g r e t (inr k) = inr (k fed [] g t)
