-- How a dialogue's course is an event of the core.
use Rattle.std.proofs.Common.{◌≡◌, ℕ, ◌-◌, Bool, true, false, ◌&&◌, ◌==◌, not, List, [], ◌∷◌, ◌++◌, length, refl, ap, sym, ◌∙◌, subst, Option, None, Some}
use Rattle.std.specs.Bool.{if◌then◌else◌}
use Rattle.std.specs.Prelude.{IsSomeAnd, nat_lt, is_none, Result, Ok, Err}
use Rattle.std.specs.Option.{option_map}
use Rattle.std.proofs.lemmas.Bool.Decides.{Decides-eqb}
use Rattle.shape_base.specs.declared.change.Tx.{Tx}
use Rattle.shape_base.specs.declared.definition.TableDef.{TableDef}
use Rattle.shape_base.specs.declared.limits.Limits.{Limits}
use Rattle.shape_base.specs.Tables.{Values, Table, same_def, lacks_key}
use Rattle.shape_base.specs.Visibility.{Visibility, is_visible}
use Rattle.shape_base.specs.Snapshot.{Snapshot}
use Rattle.shape_base.specs.Shape.{have_truths, picks, key_text}
use Rattle.shape_base.proofs.Tests.{Decides-same_def}
use Rattle.shape_json.specs.Body.{capped}
use Rattle.shape_json.specs.ShapeHistory.{Reader, snapshot_in, bytes_of, bad_column}
use Rattle.pg_dialogue.specs.declared.login.SnapHead.{SnapHead}
use Rattle.snapshot_merge.specs.VisText.{visibility_of}
use Rattle.shape_snapshot.specs.declared.faults.SnapError.{SnapError}
use Rattle.shape_snapshot.specs.declared.faults.SnapError.TheVariants.{BadSnapshot, DefinitionChanged, Stale, WrongWidth, BadValue, NullKey, DuplicateKey, LogFull, OutOfMemory}
use Rattle.shape_snapshot.specs.Refusals.{placed, seen_of, definition_got, is_defined_so, fresh_of, started_over, start_of, fault_of, log_of, is_taken_key, full_of, refusal_behind, refusal_of}
use Rattle.shape_snapshot.specs.Refusals as snap
use Rattle.http_edge.specs.declared.error_code.ErrorCode.{ErrorCode}
use Rattle.http_edge.specs.declared.error_code.ErrorCode.TheVariants as codes
use Rattle.http_edge.specs.declared.error_code.Detail.TheVariants as details
use Rattle.core_events.specs.declared.out.Unfit.TheVariants as unfit
use Rattle.core_law.specs.Situation.{Options, Shape, Situation}
use Rattle.core_law.specs.Steps.{Fault, IsBad, TooLarge, code_of, id_before, stale_by, untrue_by, or_else, refusal_of_snapshot, changed_in, snapshot_ends, snapped}
use Rattle.core_law.specs.Clients.{is_unfit, finished, never}
use Rattle.core_law.specs.Run as run
use Rattle.core_law.specs.Run.{SnapshotCame, SnapshotEnded, turn_of}
use Rattle.core_server.specs.Snapshots.{snapshot_of, error_in, first_refused, refusal_in, code_for, definition_for, came_by, event_for}
use Rattle.core_server.specs.SnapshotLaws.{IsOwner, HeadsAreRefused, SnapshotsCome, SnapshotsEnd}

-- ---- the head

both_ways : (a b : Bool) → (a ≡ true → b ≡ true) → (b ≡ true → a ≡ true) → a ≡ b
both_ways true b f g = sym (f refl)
both_ways false true f g = g refl
both_ways false false f g = refl

-- the definitions differ for the core where they differ for the snapshot
same_is : (d : TableDef) (head : SnapHead) → same_def (definition_got d head) d ≡ is_defined_so d head
same_is d head = both_ways (same_def (definition_got d head) d) (same_def d (definition_got d head))
    (λ h. (Decides-same_def d (definition_got d head)).1 (sym ((Decides-same_def (definition_got d head) d).0 h)))
    (λ h. (Decides-same_def (definition_got d head) d).1 (sym ((Decides-same_def d (definition_got d head)).0 h)))
    ∙ ap (λ b. b && is_defined_so d head) ((Decides-eqb d.table d.table).1 refl)

stale_if : (v : Visibility) (xid : ℕ) (b : Bool) → (if b then None else Some (codes.SnapshotStale xid v.xmax)) ≡ option_map code_for (error_in (if b then Ok v else Err (Stale xid v.xmax)))
stale_if v xid true = refl
stale_if v xid false = refl

stale_is : (v : Visibility) (last : Option ℕ) → stale_by v last ≡ option_map code_for (error_in (fresh_of last v))
stale_is v None = refl
stale_is v (Some xid) = stale_if v xid (is_visible v xid)

start_if : (v : Visibility) (last : Option ℕ) (d got : TableDef) (later : Option ErrorCode) (b : Bool) → (if b then or_else (stale_by v last) later else Some codes.DefinitionChanged)
    ≡ or_else (option_map code_for (error_in (if b then fresh_of last v else Err (DefinitionChanged d got)))) later
start_if v last d got later true = ap (λ a. or_else a later) (stale_is v last)
start_if v last d got later false = refl

-- why the core refuses a snapshot: for its head, or for a row without a truth
refusal_is : (txs : List Tx) (x : Shape) (head : SnapHead) (v : Visibility) (rows : Table) → seen_of head ≡ Ok v
    → refusal_of_snapshot txs x (snapshot_of head v rows) ≡ or_else (option_map code_for (error_in (start_of x.reader.knows.definition (id_before txs x.before) head))) (untrue_by x.reader.knows (snapshot_of head v rows))
refusal_is txs x head v rows seen =
    let d = x.reader.knows.definition in
    let last = id_before txs x.before in
    let untrue = untrue_by x.reader.knows (snapshot_of head v rows) in
    ap (λ b. if b then or_else (stale_by v last) untrue else Some codes.DefinitionChanged) (same_is d head)
    ∙ start_if v last d (definition_got d head) untrue (is_defined_so d head)
    ∙ ap (λ a. or_else (option_map code_for (error_in (started_over d last head a))) untrue) (sym seen)

no_later : (a : Option ErrorCode) → or_else a None ≡ a
no_later None = refl
no_later (Some code) = refl

pub heads_are_refused : HeadsAreRefused
heads_are_refused txs x head v seen = refusal_is txs x head v [] seen ∙ no_later (option_map code_for (error_in (start_of x.reader.knows.definition (id_before txs x.before) head)))

-- ---- rows

first_none : (a later : Option SnapError) → snap.or_else a later ≡ None → (a ≡ None) × (later ≡ None)
first_none None later h = (refl, h)
first_none (Some e) later h = cc

true_if : (a none c : Bool) (n : ℕ) → (if not a then Some WrongWidth else if none then Some (BadValue n) else if c then Some (NullKey n) else None) ≡ None → none ≡ false
true_if false none c n h = cc
true_if true true c n h = cc
true_if true false c n h = refl

-- and have truths
all_true : (r : Reader) (l : Limits) (before rows : Table) → first_refused r l before rows ≡ None → have_truths r.knows rows ≡ true
all_true r l before [] h = refl
all_true r l before (row ∷ rows) h =
    let p = first_none (refusal_of r l before row) (first_refused r l (before ++ row ∷ []) rows) h in
    let f = (first_none (fault_of r row) (if picks r.knows row then refusal_behind r.knows l before row else None) p.0).0 in
    ap (λ (b : Bool). not b && have_truths r.knows rows) (true_if (length row == length r.knows.definition.columns) (is_none (r.knows.truth row)) (lacks_key r.knows.key row) (bad_column r row) f)
    ∙ all_true r l (before ++ row ∷ []) rows p.1

-- what may refuse a row
abbrev IsOfRow : SnapError → Type 0
IsOfRow (BadSnapshot place) = ⊥
IsOfRow (DefinitionChanged have got) = ⊥
IsOfRow (Stale last xmax) = ⊥
IsOfRow WrongWidth = Unit {0}
IsOfRow (BadValue column) = Unit {0}
IsOfRow (NullKey column) = Unit {0}
IsOfRow (DuplicateKey key) = Unit {0}
IsOfRow (LogFull bytes limit) = Unit {0}
IsOfRow OutOfMemory = ⊥

-- the row has no truth, where that is why
abbrev IsUntrue : Bool → SnapError → Type 0
IsUntrue none (BadSnapshot place) = Unit {0}
IsUntrue none (DefinitionChanged have got) = Unit {0}
IsUntrue none (Stale last xmax) = Unit {0}
IsUntrue none WrongWidth = Unit {0}
IsUntrue none (BadValue column) = none ≡ true
IsUntrue none (NullKey column) = Unit {0}
IsUntrue none (DuplicateKey key) = Unit {0}
IsUntrue none (LogFull bytes limit) = Unit {0}
IsUntrue none OutOfMemory = Unit {0}

record RowRefused (none : Bool) (e : SnapError) : Type 0 where
  of_row : IsOfRow e
  untrue : IsUntrue none e

here : (none : Bool) (a e : SnapError) → Some a ≡ Some e → RowRefused none a → RowRefused none e
here none a e h r = let same : a ≡ e = cc in subst (RowRefused none) same r

full_if : (none : Bool) (bytes limit : ℕ) (b : Bool) (e : SnapError) → (if b then Some (LogFull bytes limit) else None) ≡ Some e → RowRefused none e
full_if none bytes limit true e h = here none (LogFull bytes limit) e h (record { of_row = tt; untrue = tt })
full_if none bytes limit false e h = cc

came_if : (none : Bool) (l : Limits) (key : List ℕ) (bytes : ℕ) (b : Bool) (e : SnapError) → (if b then Some (DuplicateKey key) else full_of l bytes) ≡ Some e → RowRefused none e
came_if none l key bytes true e h = here none (DuplicateKey key) e h (record { of_row = tt; untrue = tt })
came_if none l key bytes false e h = full_if none (capped bytes) l.log (nat_lt l.log bytes) e h

picked_if : (none : Bool) (r : Reader) (l : Limits) (before : Table) (row : Values) (b : Bool) (e : SnapError) → (if b then refusal_behind r.knows l before row else None) ≡ Some e → RowRefused none e
picked_if none r l before row true e h = came_if none l (key_text r.knows row) (bytes_of (log_of r.knows (before ++ row ∷ []))) (is_taken_key r.knows before (key_text r.knows row)) e h
picked_if none r l before row false e h = cc

fault_if : (a none c : Bool) (n : ℕ) (later : Option SnapError) (e : SnapError) → snap.or_else (if not a then Some WrongWidth else if none then Some (BadValue n) else if c then Some (NullKey n) else None) later ≡ Some e
    → (later ≡ Some e → RowRefused none e) → RowRefused none e
fault_if false none c n later e h go = here none WrongWidth e h (record { of_row = tt; untrue = tt })
fault_if true true c n later e h go = here true (BadValue n) e h (record { of_row = tt; untrue = refl })
fault_if true false true n later e h go = here false (NullKey n) e h (record { of_row = tt; untrue = tt })
fault_if true false false n later e h go = go h

row_refused : (r : Reader) (l : Limits) (before : Table) (row : Values) (e : SnapError) → refusal_of r l before row ≡ Some e → RowRefused (is_none (r.knows.truth row)) e
row_refused r l before row e h = fault_if (length row == length r.knows.definition.columns) (is_none (r.knows.truth row)) (lacks_key r.knows.key row) (bad_column r row) (if picks r.knows row then refusal_behind r.knows l before row else None) e h
    (picked_if (is_none (r.knows.truth row)) r l before row (picks r.knows row) e)

-- rows have no truths, where that is why
untrue_here : (e : SnapError) (a b : Bool) → RowRefused a e → RowRefused (not (not a && b)) e
untrue_here (BadSnapshot place) a b h = absurd h.of_row
untrue_here (DefinitionChanged have got) a b h = absurd h.of_row
untrue_here (Stale last xmax) a b h = absurd h.of_row
untrue_here WrongWidth a b h = record { of_row = tt; untrue = tt }
untrue_here (BadValue column) a b h = record { of_row = tt; untrue = ap (λ a. not (not a && b)) h.untrue }
untrue_here (NullKey column) a b h = record { of_row = tt; untrue = tt }
untrue_here (DuplicateKey key) a b h = record { of_row = tt; untrue = tt }
untrue_here (LogFull bytes limit) a b h = record { of_row = tt; untrue = tt }
untrue_here OutOfMemory a b h = absurd h.of_row

not_both : (a b : Bool) → not b ≡ true → not (a && b) ≡ true
not_both true b h = h
not_both false b h = refl

untrue_later : (e : SnapError) (a b : Bool) → RowRefused (not b) e → RowRefused (not (not a && b)) e
untrue_later (BadSnapshot place) a b h = absurd h.of_row
untrue_later (DefinitionChanged have got) a b h = absurd h.of_row
untrue_later (Stale last xmax) a b h = absurd h.of_row
untrue_later WrongWidth a b h = record { of_row = tt; untrue = tt }
untrue_later (BadValue column) a b h = record { of_row = tt; untrue = not_both (not a) b h.untrue }
untrue_later (NullKey column) a b h = record { of_row = tt; untrue = tt }
untrue_later (DuplicateKey key) a b h = record { of_row = tt; untrue = tt }
untrue_later (LogFull bytes limit) a b h = record { of_row = tt; untrue = tt }
untrue_later OutOfMemory a b h = absurd h.of_row

first_or : (a later : Option SnapError) (e : SnapError) {P : Type 0} → snap.or_else a later ≡ Some e → (a ≡ Some e → P) → (later ≡ Some e → P) → P
first_or None later e h one two = two h
first_or (Some x) later e h one two = one h

rows_refused : (r : Reader) (l : Limits) (before rows : Table) (e : SnapError) → first_refused r l before rows ≡ Some e → RowRefused (not (have_truths r.knows rows)) e
rows_refused r l before [] e h = cc
rows_refused r l before (row ∷ rows) e h = first_or (refusal_of r l before row) (first_refused r l (before ++ row ∷ []) rows) e h
    (λ one. untrue_here e (is_none (r.knows.truth row)) (have_truths r.knows rows) (row_refused r l before row e one))
    (λ two. untrue_later e (is_none (r.knows.truth row)) (have_truths r.knows rows) (rows_refused r l (before ++ row ∷ []) rows e two))

-- ---- turns

module _ (o : Options) (s : Situation) (e n : ℕ) (x : Shape) (own : IsOwner s e n x) where
  came : (snapshot : Snapshot) (r : Option ErrorCode) → refusal_of_snapshot s.server.commits x snapshot ≡ r → turn_of o s (SnapshotCame e snapshot) ≡ finished o never s (snapped o s e n x snapshot r)
  came snapshot r is = let go = finished o never s (snapped o s e n x snapshot (refusal_of_snapshot s.server.commits x snapshot)) in
      ap (run.snap o s e snapshot) own.owns ∙ ap (run.snap_shape o s e n snapshot) own.shape
      ∙ ap (λ b. if b && is_none (snapshot_in x.events) then go else is_unfit unfit.NotASnapshot) own.starting
      ∙ ap (λ (a : Option Snapshot). if is_none a then go else is_unfit unfit.NotASnapshot) own.none
      ∙ ap (λ r. finished o never s (snapped o s e n x snapshot r)) is

  ended : (fault : Fault) → turn_of o s (SnapshotEnded e fault) ≡ finished o never s (snapshot_ends s e n (code_of fault) None)
  ended fault = ap (run.fail o s e fault) own.owns ∙ ap (λ b. if b then finished o never s (snapshot_ends s e n (code_of fault) None) else is_unfit unfit.NotASnapshot) own.starting

  module _ (head : SnapHead) (rows : Table) where
    abbrev Ends : SnapError → Type 0
    Ends error = IsSomeAnd (event_for e head rows error) (λ event. turn_of o s event ≡ finished o never s (snapshot_ends s e n (code_for error) (definition_for error)))

    abbrev d : TableDef
    d = x.reader.knows.definition

    abbrev last : Option ℕ
    last = id_before s.server.commits x.before

    came_ends : (v : Visibility) (code : ErrorCode) (new : Option TableDef) → seen_of head ≡ Ok v → refusal_of_snapshot s.server.commits x (snapshot_of head v rows) ≡ Some code → changed_in (snapshot_of head v rows) d ≡ new
        → IsSomeAnd (came_by e head rows (seen_of head)) (λ event. turn_of o s event ≡ finished o never s (snapshot_ends s e n code new))
    came_ends v code new seen is changed = subst (λ a. IsSomeAnd (came_by e head rows a) (λ event. turn_of o s event ≡ finished o never s (snapshot_ends s e n code new))) (sym seen)
        (came (snapshot_of head v rows) (Some code) is ∙ ap (λ new. finished o never s (snapshot_ends s e n code new)) changed)

    -- another definition
    changed_ends : (v : Visibility) → seen_of head ≡ Ok v → is_defined_so d head ≡ false → Ends (DefinitionChanged d (definition_got d head))
    changed_ends v seen other = came_ends v codes.DefinitionChanged (Some (definition_got d head)) seen
        (ap (λ b. if b then or_else (stale_by v last) (untrue_by x.reader.knows (snapshot_of head v rows)) else Some codes.DefinitionChanged) (same_is d head ∙ other))
        (ap (λ b. if b then None else Some (definition_got d head)) (same_is d head ∙ other))

    same_stays : (v : Visibility) → is_defined_so d head ≡ true → changed_in (snapshot_of head v rows) d ≡ None
    same_stays v same = ap (λ b. if b then None else Some (definition_got d head)) (same_is d head ∙ same)

    same_refusal : (v : Visibility) → is_defined_so d head ≡ true → refusal_of_snapshot s.server.commits x (snapshot_of head v rows) ≡ or_else (stale_by v last) (untrue_by x.reader.knows (snapshot_of head v rows))
    same_refusal v same = ap (λ b. if b then or_else (stale_by v last) (untrue_by x.reader.knows (snapshot_of head v rows)) else Some codes.DefinitionChanged) (same_is d head ∙ same)

    -- a head that is stale
    fresh_if : (v : Visibility) (xid : ℕ) (error : SnapError) (b : Bool) → is_visible v xid ≡ b → last ≡ Some xid → (if b then Ok v else Err (Stale xid v.xmax)) ≡ Err error → seen_of head ≡ Ok v → is_defined_so d head ≡ true → Ends error
    fresh_if v xid error true e is h seen same = cc
    fresh_if v xid error false e is h seen same = let stale : Stale xid v.xmax ≡ error = cc in subst Ends stale (came_ends v (codes.SnapshotStale xid v.xmax) None seen
        (same_refusal v same ∙ ap (λ a. or_else (stale_by v a) (untrue_by x.reader.knows (snapshot_of head v rows))) is ∙ ap (λ (b : Bool). or_else (if b then None else Some (codes.SnapshotStale xid v.xmax)) (untrue_by x.reader.knows (snapshot_of head v rows))) e)
        (same_stays v same))

    stale_ends : (v : Visibility) (error : SnapError) (a : Option ℕ) → last ≡ a → fresh_of a v ≡ Err error → seen_of head ≡ Ok v → is_defined_so d head ≡ true → Ends error
    stale_ends v error None is h seen same = cc
    stale_ends v error (Some xid) is h seen same = fresh_if v xid error (is_visible v xid) refl is h seen same

    -- a row that is refused
    not_false : (b : Bool) → not b ≡ true → b ≡ false
    not_false true h = cc
    not_false false h = refl

    untrue_refusal : (v : Visibility) → fresh_of last v ≡ Ok v → have_truths x.reader.knows rows ≡ false → or_else (stale_by v last) (untrue_by x.reader.knows (snapshot_of head v rows)) ≡ Some (codes.SnapshotRefused details.BadValue)
    untrue_refusal v fresh untrue = ap (λ a. or_else a (untrue_by x.reader.knows (snapshot_of head v rows))) (stale_is v last ∙ ap (λ a. option_map code_for (error_in a)) fresh)
        ∙ ap (λ (b : Bool). if b then None else Some (codes.SnapshotRefused details.BadValue)) untrue

    row_ends : (v : Visibility) (error : SnapError) → fresh_of last v ≡ Ok v → RowRefused (not (have_truths x.reader.knows rows)) error → seen_of head ≡ Ok v → is_defined_so d head ≡ true → Ends error
    row_ends v (BadSnapshot place) fresh h seen same = absurd h.of_row
    row_ends v (DefinitionChanged have got) fresh h seen same = absurd h.of_row
    row_ends v (Stale last' xmax) fresh h seen same = absurd h.of_row
    row_ends v WrongWidth fresh h seen same = ended (IsBad details.WrongWidth)
    row_ends v (BadValue column) fresh h seen same = came_ends v (codes.SnapshotRefused details.BadValue) None seen
        (same_refusal v same ∙ untrue_refusal v fresh (not_false (have_truths x.reader.knows rows) h.untrue)) (same_stays v same)
    row_ends v (NullKey column) fresh h seen same = ended (IsBad details.NullKey)
    row_ends v (DuplicateKey key) fresh h seen same = ended (IsBad details.DuplicateKey)
    row_ends v (LogFull bytes limit) fresh h seen same = ended (TooLarge bytes limit)
    row_ends v OutOfMemory fresh h seen same = absurd h.of_row

    -- the first cause that stands
    abbrev later : Option SnapError
    later = first_refused x.reader o.limits [] rows

    fresh_ok : (a : Option ℕ) (v w : Visibility) → fresh_of a v ≡ Ok w → fresh_of a v ≡ Ok v
    fresh_ok None v w h = refl
    fresh_ok (Some xid) v w h = pick (is_visible v xid) h
      where
        pick : (b : Bool) → (if b then Ok v else Err (Stale xid v.xmax)) ≡ Ok w → (if b then Ok v else Err (Stale xid v.xmax)) ≡ Ok v
        pick true h = refl
        pick false h = cc

    by_fresh : (v : Visibility) (error : SnapError) (a : Result Visibility SnapError) → fresh_of last v ≡ a → snap.or_else (error_in a) later ≡ Some error → seen_of head ≡ Ok v → is_defined_so d head ≡ true → Ends error
    by_fresh v error (Err x') is h seen same = let this : x' ≡ error = cc in subst Ends this (stale_ends v x' last refl is seen same)
    by_fresh v error (Ok w) is h seen same = row_ends v error (fresh_ok last v w is) (rows_refused x.reader o.limits [] rows error h) seen same

    by_defined : (v : Visibility) (error : SnapError) (b : Bool) → is_defined_so d head ≡ b → snap.or_else (error_in (if b then fresh_of last v else Err (DefinitionChanged d (definition_got d head)))) later ≡ Some error → seen_of head ≡ Ok v → Ends error
    by_defined v error true is h seen = by_fresh v error (fresh_of last v) refl h seen is
    by_defined v error false is h seen = let this : DefinitionChanged d (definition_got d head) ≡ error = cc in subst Ends this (changed_ends v seen is)

    unseen : (size : ℕ) (a : Result Visibility ℕ) (error : SnapError) → placed size a ≡ Err error → Ends error
    unseen size (Ok v) error h = cc
    unseen size (Err left) error h = let this : BadSnapshot (size - left) ≡ error = cc in subst Ends this (ended (IsBad details.BadSnapshot))

    by_seen : (error : SnapError) (a : Result Visibility SnapError) → seen_of head ≡ a → snap.or_else (error_in (started_over d last head a)) later ≡ Some error → Ends error
    by_seen error (Err x') is h = let this : x' ≡ error = cc in subst Ends this (unseen (length head.vis) (visibility_of head.vis) x' is)
    by_seen error (Ok v) is h = by_defined v error (is_defined_so d head) refl h is

pub snapshots_end : SnapshotsEnd
snapshots_end o s e n x head rows error own h = by_seen o s e n x own head rows error (seen_of head) refl h

-- ---- whole snapshots

-- the core does not refuse a snapshot that nothing refuses
pub not_refused : (txs : List Tx) (x : Shape) (l : Limits) (head : SnapHead) (rows : Table) (v : Visibility) → seen_of head ≡ Ok v → refusal_in x.reader l (id_before txs x.before) head rows ≡ None → refusal_of_snapshot txs x (snapshot_of head v rows) ≡ None
not_refused txs x l head rows v seen h =
    let p = first_none (error_in (start_of x.reader.knows.definition (id_before txs x.before) head)) (first_refused x.reader l [] rows) h in
    let truths = all_true x.reader l [] rows p.1 in
    refusal_is txs x head v rows seen ∙ ap (λ a. or_else (option_map code_for a) (untrue_by x.reader.knows (snapshot_of head v rows))) p.0
    ∙ ap (λ (b : Bool). if b then None else Some (codes.SnapshotRefused details.BadValue)) truths

pub snapshots_come : SnapshotsCome
snapshots_come o s e n x head rows v own seen h = came o s e n x own (snapshot_of head v rows) None (not_refused s.server.commits x o.limits head rows v seen h)
