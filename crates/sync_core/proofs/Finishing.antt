-- A machine takes what a snapshot came to.
use Rattle.std.proofs.Common.{◌≡◌, ℕ, Bool, true, false, not, List, [], refl, sym, ap, subst, ◌∙◌, Option, None, Some, Result, Ok}
use Rattle.std.specs.Prelude.{slice_get, is_some, IsSomeAnd}
use Rattle.std.specs.Bool.{if◌then◌else◌}
use Rattle.std.specs.FinMap as fin
use Rattle.std.proofs.lemmas.Bool.{and_parts}
use Rattle.shape_base.specs.RegistryHistory.{was_registered, was_removed, had_ready, is_live, is_starting}
use Rattle.shape_base.specs.Tables.{Table}
use Rattle.shape_json.specs.ShapeHistory.{snapshot_in}
use Rattle.pg_dialogue.specs.declared.login.SnapHead.{SnapHead}
use Rattle.pg_dialogue.specs.Course.{Course, Stand, Done}
use Rattle.shape_snapshot.specs.declared.faults.SnapError.{SnapError}
use Rattle.core_events.specs.declared.out.Out.{Out}
use Rattle.core_events.specs.declared.out.StepError.{StepError}
use Rattle.core_events.specs.declared.out.Unfit.TheVariants as unfit
use Rattle.core_law.specs.Situation.{Options, Shape, Situation, shape_at}
use Rattle.core_law.specs.Steps.{Fault, owned_by, id_before}
use Rattle.core_law.specs.Run.{Event, SnapshotCame, SnapshotEnded, turn_of}
use Rattle.core_server.specs.Standing.{Kept, IsKept}
use Rattle.core_server.specs.Standing as server
use Rattle.core_server.specs.Snapshots.{Snap, snapshot_of, event_for, came_by, refusal_in}
use Rattle.core_server.specs.SnapshotLaws.{IsOwner, SnapshotsEnd}
use Rattle.core_machine.specs.declared.machine.Machine.{Machine}
use Rattle.core_machine.specs.declared.fault.Fault as machine_faults
use Rattle.core_machine.specs.Faults.{fault_of, if_starting, under_way}
use Rattle.core_machine.specs.Snapshots.{HasBegun, IsRefusedFor, IsOwn, IsRefusal}
use Rattle.core_machine.specs.Standing.{Stands, IsSituated}
use Rattle.core_machine.specs.Turns.{TurnsTo}
use Rattle.sync_core.specs.declared.snapshots.Progress.{Progress}
use Rattle.sync_core.specs.declared.snapshots.Progress.TheVariants as progresses
use Rattle.sync_core.specs.Reading.{Reading, Passes, Brings, Misfits}
use Rattle.sync_core.specs.Run.{brings, by_refusal, judged, judged_some, by_stand, shape_of, course_for, snapshot_for, made_of}
use Rattle.sync_core.specs.UnderWay.{ComesTo, CameTo, WantsMore, EndsFor}
use Rattle.sync_core.specs.Finishing.{HasStood, TakesStood}
use Rattle.sync_core.proofs.Snapping.{whole_stands}

-- ---- small facts

some_same : {A : Type 0} (x y : A) → ◌≡◌ {A = Option A} (Some x) (Some y) → x ≡ y
some_same x y e = cc

some_there : {A : Type 0} (a : Option A) {P : Type 0} → is_some a ≡ true → ((x : A) → a ≡ Some x → P) → P
some_there None is go = cc
some_there (Some x) is go = go x refl

some_in : {A : Type 0} {P : Type 0} (a : Option A) (Q : A → Type 0) → IsSomeAnd a Q → ((x : A) → a ≡ Some x → P) → P
some_in None Q h go = absurd h
some_in (Some x) Q h go = go x refl

none_there : {A : Type 0} (a : Option A) → is_some a ≡ false → a ≡ None
none_there None is = refl
none_there (Some x) is = cc

not_true : (b : Bool) → not b ≡ true → b ≡ false
not_true true is = cc
not_true false is = refl

-- ---- the number whose snapshot is under way

-- it is owned and starting
owned_under_way : {P : Type 0} (s : Situation) (e : ℕ) → is_some (under_way s e) ≡ true → ((n : ℕ) → owned_by (slice_get s.exchanges e) ≡ Some n → is_starting s.server.registry n ≡ true → under_way s e ≡ Some n → P) → P
owned_under_way {P} s e is go = pick (owned_by (slice_get s.exchanges e)) refl is
  where
    inner : (n : ℕ) (b : Bool) → is_starting s.server.registry n ≡ b → owned_by (slice_get s.exchanges e) ≡ Some n → is_some (if b then Some n else None) ≡ true → P
    inner n true starting at k = go n at starting (ap (if_starting s) at ∙ ap (λ (b : Bool). if b then Some n else None) starting)
    inner n false starting at k = cc

    pick : (a : Option ℕ) → owned_by (slice_get s.exchanges e) ≡ a → is_some (if_starting s a) ≡ true → P
    pick None at k = cc
    pick (Some n) at k = inner n (is_starting s.server.registry n) refl at k

-- it has a shape, whose snapshot has not come
module _ (o : Options) (s : Situation) (m : Machine) (n : ℕ) (h : Stands o s m) (starting : is_starting s.server.registry n ≡ true) where
  live : is_live s.server.registry n ≡ true
  live = (and_parts (is_live s.server.registry n) (not (had_ready s.server.registry n)) starting).0

  unready : had_ready s.server.registry n ≡ false
  unready = not_true (had_ready s.server.registry n) (and_parts (is_live s.server.registry n) (not (had_ready s.server.registry n)) starting).1

  registered : was_registered s.server.registry n ≡ true
  registered = (and_parts (was_registered s.server.registry n) (not (was_removed s.server.registry n)) live).0

  not_removed : was_removed s.server.registry n ≡ false
  not_removed = not_true (was_removed s.server.registry n) (and_parts (was_registered s.server.registry n) (not (was_removed s.server.registry n)) live).1

  kept_if : (x : Shape) (b : Bool) → b ≡ false → server.StandsFor o s.server m.server n x b → IsSomeAnd (fin.get m.server.registry.kept n) (IsKept o s.server n x)
  kept_if x true is st = cc
  kept_if x false is st = st

  none_yet : (x : Shape) (a : Option Kept) → IsSomeAnd a (IsKept o s.server n x) → snapshot_in x.events ≡ None
  none_yet x None is = absurd is
  none_yet x (Some w) is = none_there (snapshot_in x.events) (is.ready ∙ unready)

  shape_there : {P : Type 0} → ((x : Shape) → shape_at s.server.shapes n ≡ Some x → P) → P
  shape_there {P} go = some_there (shape_at s.server.shapes n) (h.server.known n registered) go

  owner_is : (e : ℕ) (x : Shape) → owned_by (slice_get s.exchanges e) ≡ Some n → shape_at s.server.shapes n ≡ Some x → IsOwner s e n x
  owner_is e x owned at = record { owns = owned; shape = at; starting = starting; none = none_yet x (fin.get m.server.registry.kept n) (kept_if x (was_removed s.server.registry n) not_removed (h.server.shapes n x at)) }

shape_under_way : {P : Type 0} (o : Options) (s : Situation) (m : Machine) (e : ℕ) → Stands o s m → is_some (under_way s e) ≡ true → ((n : ℕ) (x : Shape) → IsOwner s e n x → shape_of s (under_way s e) ≡ Some x → P) → P
shape_under_way {P} o s m e h owns go = owned_under_way s e owns (λ n owned starting is. shape_there o s m n h starting (λ x at. go n x (owner_is o s m n h starting e x owned at) (ap (shape_of s) is ∙ at)))

-- ---- what is read

-- a whole dialogue is judged by its head and its rows
judged_is : (o : Options) (s : Situation) (e : ℕ) (c : Course) (x : Shape) (head : SnapHead) → c.head ≡ Some head → c.stand ≡ Done → course_for o s e c (Some x) ≡ judged o.limits s.server.commits e x head c.rows
judged_is o s e c x head has done = ap (λ (st : Stand). by_stand o.limits s.server.commits e x c.head c.rows st) done ∙ ap (λ (a : Option SnapHead). judged_some o.limits s.server.commits e x a c.rows) has

module _ (o : Options) (s : Situation) (m : Machine) (e : ℕ) (c : Course) (h : Stands o s m) (owns : is_some (under_way s e) ≡ true) where
  -- the shape of the number that the exchange owns is the one that is under way
  same_shape : (n k : ℕ) (x y : Shape) → owned_by (slice_get s.exchanges e) ≡ Some n → shape_at s.server.shapes n ≡ Some x → owned_by (slice_get s.exchanges e) ≡ Some k → shape_at s.server.shapes k ≡ Some y → x ≡ y
  same_shape n k x y owned at other there = some_same x y (sym at ∙ ap (shape_at s.server.shapes) (some_same n k (sym owned ∙ other)) ∙ there)

  -- nothing refuses it
  pub whole_reads : (snap : Snap) (t : CameTo o s e c (progresses.Whole snap)) → course_for o s e c (shape_of s (under_way s e)) ≡ Brings (SnapshotCame e (snapshot_of t.head snap.vis c.rows))
  whole_reads snap t =
      let b : HasBegun o s e t.head c.rows snap = t.comes in
      shape_under_way o s m e h owns (λ n x own at.
      let same : x ≡ b.shape = same_shape n b.number x b.shape own.owns own.shape b.owns b.at in
      ap (course_for o s e c) (at ∙ ap Some same) ∙ judged_is o s e c b.shape t.head t.has t.done ∙ ap (by_refusal e t.head c.rows) b.under_way.none ∙ ap (λ v. brings (came_by e t.head c.rows v)) b.under_way.shows)

  -- it is refused
  pub refused_reads : {P : Type 0} (error : SnapError) (t : CameTo o s e c (progresses.Refused error)) → SnapshotsEnd
      → ((event : Event) → event_for e t.head c.rows error ≡ Some event → course_for o s e c (shape_of s (under_way s e)) ≡ Brings event → P) → P
  refused_reads {P} error t end go =
      let r : IsRefusedFor o s e t.head c.rows error = t.comes.0 in
      shape_under_way o s m e h owns (λ n x own at.
      let same : r.shape ≡ x = same_shape r.number n r.shape x r.owns r.at own.owns own.shape in
      let refused : refusal_in x.reader o.limits (id_before s.server.commits x.before) t.head c.rows ≡ Some error = subst (λ (y : Shape). refusal_in y.reader o.limits (id_before s.server.commits y.before) t.head c.rows ≡ Some error) same r.refused in
      some_in (event_for e t.head c.rows error) _ (end o s e n x t.head c.rows error own refused) (λ event is. go event is
      (ap (course_for o s e c) at ∙ judged_is o s e c x t.head t.has t.done ∙ ap (by_refusal e t.head c.rows) refused ∙ ap brings is)))

  -- its dialogue is refused
  pub ended_reads : (fault : machine_faults.Fault) → EndsFor c fault → course_for o s e c (shape_of s (under_way s e)) ≡ Brings (SnapshotEnded e (fault_of fault))
  ended_reads fault t = shape_under_way o s m e h owns (λ n x own at.
      ap (course_for o s e c) at ∙ ap (λ (st : Stand). by_stand o.limits s.server.commits e x c.head c.rows st) t.refused ∙ ap (λ (f : Fault). Brings (SnapshotEnded e f)) (sym t.is))

  -- it wants more
  pub waits_reads : WantsMore c → course_for o s e c (shape_of s (under_way s e)) ≡ Passes
  waits_reads t = shape_under_way o s m e h owns (λ n x own at. ap (course_for o s e c) at ∙ ap (λ (st : Stand). by_stand o.limits s.server.commits e x c.head c.rows st) t.wants)

  -- ---- what is made of it

  module _ (result : Result (List Out) StepError) (new : Machine) where
    made_by : (reading : Reading) → course_for o s e c (shape_of s (under_way s e)) ≡ reading → TurnsTo o (made_of o s reading) result new → TurnsTo o (made_of o s (course_for o s e c (shape_of s (under_way s e)))) result new
    made_by reading is turns = subst (λ (r : Reading). TurnsTo o (made_of o s r) result new) (sym is) turns

    pub whole_made : (snap : Snap) → CameTo o s e c (progresses.Whole snap)
        → ((head : SnapHead) (rows : Table) → HasBegun o s e head rows snap → TurnsTo o (turn_of o s (SnapshotCame e (snapshot_of head snap.vis rows))) result new)
        → TurnsTo o (made_of o s (course_for o s e c (shape_of s (under_way s e)))) result new
    whole_made snap t turns = made_by (Brings (SnapshotCame e (snapshot_of t.head snap.vis c.rows))) (whole_reads snap t) (turns t.head c.rows t.comes)

    pub refused_made : (error : SnapError) → CameTo o s e c (progresses.Refused error) → SnapshotsEnd
        → ((head : SnapHead) (rows : Table) (event : Event) → IsRefusedFor o s e head rows error → event_for e head rows error ≡ Some event → TurnsTo o (turn_of o s event) result new)
        → TurnsTo o (made_of o s (course_for o s e c (shape_of s (under_way s e)))) result new
    refused_made error t end turns = refused_reads error t end (λ event at is. made_by (Brings event) is (turns t.head c.rows event t.comes.0 at))

    pub ended_made : (fault : machine_faults.Fault) → EndsFor c fault → TurnsTo o (turn_of o s (SnapshotEnded e (fault_of fault))) result new → TurnsTo o (made_of o s (course_for o s e c (shape_of s (under_way s e)))) result new
    ended_made fault t turns = made_by (Brings (SnapshotEnded e (fault_of fault))) (ended_reads fault t) turns

  pub waits_made : (now : List Out) → now ≡ [] → WantsMore c → TurnsTo o (made_of o s (course_for o s e c (shape_of s (under_way s e)))) (Ok now) m
  waits_made now none t = made_by (Ok now) m Passes (waits_reads t) (subst (λ (outs : List Out). TurnsTo o (made_of o s Passes) (Ok outs) m) (sym none) (tt, h))

-- ---- what a machine is given

pub stood_at : (m : Machine) (e : ℕ) (p q : Progress) → p ≡ q → HasStood m e p → HasStood m e q
stood_at m e p q is w = subst (λ (x : Progress). HasStood m e x) is w

pub whole_given : (m : Machine) (e : ℕ) (snap : Snap) → HasStood m e (progresses.Whole snap) → IsOwn m e snap
whole_given m e snap w =
    let t : CameTo w.options w.situation e w.course (progresses.Whole snap) = w.stood in
    record { options = w.options; situation = w.situation; stands = w.stands; head = t.head; rows = w.course.rows; begun = t.comes }

pub refusal_given : (m : Machine) (e : ℕ) (error : SnapError) → HasStood m e (progresses.Refused error) → IsRefusal m e error
refusal_given m e error w =
    let t : CameTo w.options w.situation e w.course (progresses.Refused error) = w.stood in
    record { options = w.options; situation = w.situation; stands = w.stands; head = t.head; rows = w.course.rows; refused = t.comes.0; few = t.comes.1 }

pub given_situated : (m : Machine) (e : ℕ) (p : Progress) → HasStood m e p → IsSituated m
given_situated m e p w = record { options = w.options; situation = w.situation; stands = w.stands }

-- ---- a snapshot that came at once

-- the course of a dialogue that gave this head and these rows, and is done
abbrev pub whole_course : SnapHead → Table → Course
whole_course head rows = record { head = Some head; rows = rows; stand = Done }

pub as_course : (o : Options) (s : Situation) (e : ℕ) (head : SnapHead) (rows : Table) (shape : Option Shape) → snapshot_for o s e head rows shape ≡ course_for o s e (whole_course head rows) shape
as_course o s e head rows None = refl
as_course o s e head rows (Some x) = refl

pub came_given : (o : Options) (s : Situation) (m : Machine) (e : ℕ) (head : SnapHead) (rows : Table) (progress : Progress) → Stands o s m → is_some (under_way s e) ≡ true → ComesTo o s e head rows progress → HasStood m e progress
came_given o s m e head rows progress h owns comes = record { options = o; situation = s; stands = h; owns = owns; course = whole_course head rows; stood = whole_stands o s e (whole_course head rows) progress head refl refl comes }

pub came_made : (o : Options) (s : Situation) (e : ℕ) (head : SnapHead) (rows : Table) (progress : Progress) (old new : Machine) (result : Result (List Out) StepError) → Stands o s old → is_some (under_way s e) ≡ true → ComesTo o s e head rows progress → TakesStood old new e progress result
    → TurnsTo o (made_of o s (snapshot_for o s e head rows (shape_of s (under_way s e)))) result new
came_made o s e head rows progress old new result h owns comes takes =
    subst (λ (r : Reading). TurnsTo o (made_of o s r) result new) (sym (as_course o s e head rows (shape_of s (under_way s e))))
    (takes o s (whole_course head rows) h owns (whole_stands o s e (whole_course head rows) progress head refl refl comes))

-- the exchange owns none
pub none_owned : (o : Options) (s : Situation) (e : ℕ) (head : SnapHead) (rows : Table) → is_some (under_way s e) ≡ false → Misfits unfit.NotASnapshot ≡ snapshot_for o s e head rows (shape_of s (under_way s e))
none_owned o s e head rows is = sym (ap (λ (n : Option ℕ). snapshot_for o s e head rows (shape_of s n)) (none_there (under_way s e) is))
