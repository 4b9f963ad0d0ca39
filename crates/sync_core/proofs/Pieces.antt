-- The pieces of a snapshot, and its end: what is kept stands for what came.
use Rattle.std.proofs.Common.{◌≡◌, ℕ, ◌≤◌, true, false, List, [], ◌∷◌, ◌++◌, length, refl, sym, ap, subst, ◌∙◌, arith, Option, None, Some}
use Rattle.std.specs.Prelude.{is_some, Result, Ok, Err}
use Rattle.shape_base.specs.Tables.{Table}
use Rattle.shape_base.specs.Visibility.{Visibility}
use Rattle.pg_dialogue.specs.declared.login.SnapHead.{SnapHead}
use Rattle.pg_dialogue.specs.Course.{Course, course_of}
use Rattle.shape_snapshot.specs.declared.faults.SnapError.{SnapError}
use Rattle.shape_snapshot.specs.declared.faults.SnapError.TheVariants as errors
use Rattle.shape_snapshot.specs.Refusals.{seen_of}
use Rattle.core_events.specs.declared.event.Event.{Event}
use Rattle.core_events.specs.declared.event.Event.TheVariants as events
use Rattle.core_events.specs.declared.out.Unfit.TheVariants as unfit
use Rattle.core_law.specs.Situation.{Options}
use Rattle.core_law.specs.Situation as law
use Rattle.core_law.specs.Steps.{Fault}
use Rattle.core_law.specs.Clients as turns
use Rattle.core_law.specs.Run.{SnapshotCame, SnapshotEnded, turn_of, next_of}
use Rattle.core_law.specs.Run as law_run
use Rattle.core_server.specs.Snapshots.{snapshot_of, event_for, came_by}
use Rattle.core_server.specs.SnapshotLaws.{SnapshotsEnd}
use Rattle.core_machine.specs.declared.machine.Machine.{Machine}
use Rattle.core_machine.specs.Faults.{fault_of, under_way}
use Rattle.core_machine.specs.Standing as machines
use Rattle.core_machine.specs.Snapshots.{EndsFor, Came, Ended, SnapshotsEndOnce, ExchangesStay}
use Rattle.sync_core.specs.declared.snapshots.Progress.{Progress}
use Rattle.sync_core.specs.declared.snapshots.Progress.TheVariants as progresses
use Rattle.sync_core.specs.declared.stepping.Core.{Core}
use Rattle.sync_core.specs.Reading.{Reading, Passes, Brings, Misfits}
use Rattle.sync_core.specs.Run.{Situation, pieces_after, said_to, shape_of, course_for, piece_for, snapshot_for, made_of}
use Rattle.sync_core.specs.UnderWay.{ComesTo, Stood}
use Rattle.sync_core.specs.Kept.{kept_for, AreKept, IsReceived, KeepsOthers, KeptStays}
use Rattle.sync_core.specs.Core.{Stands}
use Rattle.sync_core.proofs.Finishing.{whole_reads, refused_reads, ended_reads, waits_reads, whole_course, as_course}
use Rattle.sync_core.proofs.Keeping.{kept_next, owner_made, piece_ends, end_lets_go}
use Rattle.sync_core.proofs.Moves.{KeepsOn}
use Rattle.sync_core.proofs.Snapping.{whole_stands}

-- ---- what a snapshot comes to

-- it comes to an event that ends it
pub record EndsBy (e : ℕ) (reading : Reading) : Type 0 where
  pub event : law_run.Event
  pub is : reading ≡ Brings event
  pub ends : EndsFor e event

-- to nothing where it waits
abbrev pub ReadsAs : ℕ → Progress → Reading → Type 0
ReadsAs e progresses.Waits reading = reading ≡ Passes
ReadsAs e (progresses.Refused error) reading = EndsBy e reading
ReadsAs e (progresses.Ended fault) reading = EndsBy e reading
ReadsAs e (progresses.Whole snap) reading = EndsBy e reading

same_event : (x y : law_run.Event) → ◌≡◌ {A = Option law_run.Event} (Some x) (Some y) → x ≡ y
same_event x y e = cc

ended_ends : (e : ℕ) (fault : Fault) (event : law_run.Event) → ◌≡◌ {A = Option law_run.Event} (Some (SnapshotEnded e fault)) (Some event) → EndsFor e event
ended_ends e fault event is = subst (EndsFor e) (same_event (SnapshotEnded e fault) event is) (Ended fault)

came_ends : (e : ℕ) (head : SnapHead) (rows : Table) (a : Result Visibility SnapError) (event : law_run.Event) → came_by e head rows a ≡ Some event → EndsFor e event
came_ends e head rows (Ok v) event is = subst (EndsFor e) (same_event (SnapshotCame e (snapshot_of head v rows)) event is) (Came (snapshot_of head v rows))
came_ends e head rows (Err error) event is = cc

-- the event of a refusal
refusal_ends : (e : ℕ) (head : SnapHead) (rows : Table) (error : SnapError) (event : law_run.Event) → event_for e head rows error ≡ Some event → EndsFor e event
refusal_ends e head rows (errors.BadSnapshot place) event is = ended_ends e _ event is
refusal_ends e head rows (errors.DefinitionChanged have got) event is = came_ends e head rows (seen_of head) event is
refusal_ends e head rows (errors.Stale last xmax) event is = came_ends e head rows (seen_of head) event is
refusal_ends e head rows errors.WrongWidth event is = ended_ends e _ event is
refusal_ends e head rows (errors.BadValue column) event is = came_ends e head rows (seen_of head) event is
refusal_ends e head rows (errors.NullKey column) event is = ended_ends e _ event is
refusal_ends e head rows (errors.DuplicateKey key) event is = ended_ends e _ event is
refusal_ends e head rows (errors.LogFull bytes limit) event is = ended_ends e _ event is
refusal_ends e head rows errors.OutOfMemory event is = cc

stood_reads : (o : Options) (s : law.Situation) (m : Machine) (e : ℕ) (c : Course) (h : machines.Stands o s m) (owns : is_some (under_way s e) ≡ true) → SnapshotsEnd → (progress : Progress) → Stood o s e c progress → ReadsAs e progress (course_for o s e c (shape_of s (under_way s e)))
stood_reads o s m e c h owns end progresses.Waits t = waits_reads o s m e c h owns t
stood_reads o s m e c h owns end (progresses.Refused error) t = refused_reads o s m e c h owns error t end (λ event at is. record { event = event; is = is; ends = refusal_ends e t.head c.rows error event at })
stood_reads o s m e c h owns end (progresses.Ended fault) t = record { event = SnapshotEnded e (fault_of fault); is = ended_reads o s m e c h owns fault t; ends = Ended (fault_of fault) }
stood_reads o s m e c h owns end (progresses.Whole snap) t = record { event = SnapshotCame e (snapshot_of t.head snap.vis c.rows); is = whole_reads o s m e c h owns snap t; ends = Came (snapshot_of t.head snap.vis c.rows) }

-- ---- what is kept

-- the turn of a reading that goes on
goes_same : (o : Options) (s : law.Situation) (reading : Reading) (outs : List turns.Out) (core : law.Situation) → reading ≡ Passes → made_of o s reading ≡ turns.Goes outs core → s ≡ core
goes_same o s reading outs core is turn = let same : turns.Goes [] s ≡ turns.Goes outs core = ap (made_of o s) (sym is) ∙ turn in cc

goes_by_event : (o : Options) (s : law.Situation) (reading : Reading) (event : law_run.Event) (outs : List turns.Out) (core : law.Situation) → reading ≡ Brings event → made_of o s reading ≡ turns.Goes outs core → turn_of o s event ≡ turns.Goes outs core
goes_by_event o s reading event outs core is turn = ap (made_of o s) (sym is) ∙ turn

no_new_owner : ExchangesStay → (o : Options) (s : law.Situation) (event : law_run.Event) (e : ℕ) (outs : List turns.Out) (core : law.Situation) → is_some (under_way s e) ≡ true → turn_of o s event ≡ turns.Goes outs core → length core.exchanges ≤ e → ⊥
no_new_owner grow o s event e outs core owns turn past =
    let more : length s.exchanges ≤ length core.exchanges = subst (λ (x : law.Situation). length s.exchanges ≤ length x.exchanges) (ap (next_of s) turn) (grow o s event) in
    owner_made s e owns (omega (arith, more, past))

module _ (stays : KeptStays) (once : SnapshotsEndOnce) (o : Options) (s : Situation) (n : ℕ) (old new : Core) (h : Stands o s old) (others : KeepsOthers n old.dialogues.kept new.dialogues.kept) where
  -- the snapshot ends, and nothing of it is kept
  pub ends_on : (e : Event) (event : law_run.Event) → EndsFor n event → pieces_after s.pieces e ≡ s.pieces → kept_for new.dialogues.kept n ≡ None → KeepsOn o s e (turn_of o s.core event) new
  ends_on e event ends spares none outs core turn =
      subst (λ (pieces : List (ℕ × List ℕ)). AreKept o core pieces new.dialogues.kept) (sym spares)
      (end_lets_go o core s.pieces n old.dialogues.kept new.dialogues.kept (kept_next stays o s.core event s.pieces old.dialogues.kept h.machine.start h.machine.reached h.kept outs core turn) others (once o s.core event n outs core ends turn) none)

  ends_by_on : (e : Event) (reading : Reading) → EndsBy n reading → pieces_after s.pieces e ≡ s.pieces → kept_for new.dialogues.kept n ≡ None → KeepsOn o s e (made_of o s.core reading) new
  ends_by_on e reading by spares none outs core made = ends_on e by.event by.ends spares none outs core (goes_by_event o s.core reading by.event outs core by.is made)

  module _ (grow : ExchangesStay) (owns : is_some (under_way s.core n) ≡ true) (bytes : List ℕ) where
    piece_ends_on : (reading : Reading) → EndsBy n reading → KeepsOn o s (events.SnapBytes n bytes) (made_of o s.core reading) new
    piece_ends_on reading by outs core made =
        let turn = goes_by_event o s.core reading by.event outs core by.is made in
        piece_ends o core s.pieces n bytes old.dialogues.kept new.dialogues.kept (kept_next stays o s.core by.event s.pieces old.dialogues.kept h.machine.start h.machine.reached h.kept outs core turn) others
        (once o s.core by.event n outs core by.ends turn) (no_new_owner grow o s.core by.event n outs core owns turn)

    -- a piece came, and the snapshot stands so
    pub piece_on : (reading : Reading) (progress : Progress) → ReadsAs n progress reading → (progress ≡ progresses.Waits → AreKept o s.core (s.pieces ++ (n, bytes) ∷ []) new.dialogues.kept) → KeepsOn o s (events.SnapBytes n bytes) (made_of o s.core reading) new
    piece_on reading progresses.Waits is waits = λ outs core made. subst (λ (x : law.Situation). AreKept o x (s.pieces ++ (n, bytes) ∷ []) new.dialogues.kept) (goes_same o s.core reading outs core is made) (waits refl)
    piece_on reading (progresses.Refused error) by waits = piece_ends_on reading by
    piece_on reading (progresses.Ended fault) by waits = piece_ends_on reading by
    piece_on reading (progresses.Whole snap) by waits = piece_ends_on reading by

-- what a piece is read as, in a situation
abbrev pub piece_read : ℕ → List ℕ → Options → Situation → Reading
piece_read n bytes o s = piece_for o s.core n (said_to n (s.pieces ++ (n, bytes) ∷ [])) (shape_of s.core (under_way s.core n))

pub received_on : KeptStays → SnapshotsEndOnce → ExchangesStay → SnapshotsEnd → (o : Options) (s : Situation) (n : ℕ) (bytes : List ℕ) (progress : Progress) (old new : Core) → Stands o s old → is_some (under_way s.core n) ≡ true → KeepsOthers n old.dialogues.kept new.dialogues.kept
    → IsReceived o s.core s.pieces n bytes new.dialogues.kept progress → KeepsOn o s (events.SnapBytes n bytes) (made_of o s.core (piece_read n bytes o s)) new
received_on stays once grow end o s n bytes progress old new h owns others r =
    piece_on stays once o s n old new h others grow owns bytes (piece_read n bytes o s) progress
    (stood_reads o s.core old.machine n (course_of (said_to n (s.pieces ++ (n, bytes) ∷ []))) h.machine owns end progress r.stood) r.waits

-- a snapshot came whole, and nothing of it is kept
pub came_on : KeptStays → SnapshotsEndOnce → SnapshotsEnd → (o : Options) (s : Situation) (n : ℕ) (head : SnapHead) (rows : Table) (progress : Progress) (old new : Core) → Stands o s old → is_some (under_way s.core n) ≡ true → KeepsOthers n old.dialogues.kept new.dialogues.kept
    → kept_for new.dialogues.kept n ≡ None → ComesTo o s.core n head rows progress → KeepsOn o s (events.Snapshot n head rows) (made_of o s.core (snapshot_for o s.core n head rows (shape_of s.core (under_way s.core n)))) new
came_on stays once end o s n head rows progress old new h owns others none comes =
    let shape = shape_of s.core (under_way s.core n) in
    let reads : ReadsAs n progress (snapshot_for o s.core n head rows shape) = subst (ReadsAs n progress) (sym (as_course o s.core n head rows shape))
    (stood_reads o s.core old.machine n (whole_course head rows) h.machine owns end progress (whole_stands o s.core n (whole_course head rows) progress head refl refl comes)) in
    ends_by_on stays once o s n old new h others (events.Snapshot n head rows) (snapshot_for o s.core n head rows shape) (come progress comes reads) refl none
  where
    come : (p : Progress) → ComesTo o s.core n head rows p → ReadsAs n p (snapshot_for o s.core n head rows (shape_of s.core (under_way s.core n))) → EndsBy n (snapshot_for o s.core n head rows (shape_of s.core (under_way s.core n)))
    come progresses.Waits comes reads = absurd comes
    come (progresses.Refused error) comes reads = reads
    come (progresses.Ended fault) comes reads = reads
    come (progresses.Whole snap) comes reads = reads

-- the exchange owns none
none_there : {A : Type 0} (a : Option A) → is_some a ≡ false → a ≡ None
none_there None is = refl
none_there (Some x) is = cc

pub unowned_read : (o : Options) (s : Situation) (n : ℕ) (bytes : List ℕ) → is_some (under_way s.core n) ≡ false → Misfits unfit.NotASnapshot ≡ piece_read n bytes o s
unowned_read o s n bytes is = sym (ap (λ (m : Option ℕ). piece_for o s.core n (said_to n (s.pieces ++ (n, bytes) ∷ [])) (shape_of s.core m)) (none_there (under_way s.core n) is))
