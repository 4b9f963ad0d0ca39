-- A shape that stands stands after one event more.
use Rattle.std.proofs.Common.{◌≡◌, ℕ, ◌+◌, ◌<◌, ◌≤◌, Bool, true, false, true≢false, List, [], ◌∷◌, ◌++◌, length, refl, sym, subst, ap, ap₂, ◌∙◌, arith, append_assoc, append-nil, length-append, Option, None, Some}
use Rattle.std.specs.Prelude.{min, ◌&&◌}
use Rattle.std.specs.Bool.{if◌then◌else◌}
use Rattle.shape_base.specs.declared.cause.Cause.{Cause}
use Rattle.shape_base.specs.declared.change.Tx.{Tx}
use Rattle.shape_base.specs.declared.entry.Entry.{Entry}
use Rattle.shape_base.specs.declared.limits.Limits.{Limits}
use Rattle.shape_base.specs.Snapshot.{Snapshot}
use Rattle.shape_base.specs.Visibility.{Visibility, is_visible}
use Rattle.shape_base.specs.Shape.{shown}
use Rattle.shape_base.specs.Log.{start_from, unseen, entries_past}
use Rattle.shape_json.specs.Body.{capped}
use Rattle.shape_json.specs.ShapeHistory.{Reader, ShapeEvent, Snapped, Took, Dropped, snapshot_in, taken, log_after, or_else, entries_in, bytes_of, bytes_with, drop_by, drop_among, all_full, is_empty, is_passed, drop_at_commit, drop_at, drop_of, last_lsn, IsInOrder, MayFollow, MayAllFollow, IsLegal, ShapeState, Starting, Ready, Gone, state_by, state_after}
use Rattle.shape_json.proofs.Histories.{drop_next, took_adds, passed_none}
use Rattle.chunked_log.specs.Chunked.{Chunked, Writes, Holds}
use Rattle.shape_state.specs.Buffered.{Buffered}
use Rattle.shape_state.specs.declared.state.Logging.{Logging}
use Rattle.shape_state.specs.declared.state.Kept.{Kept}
use Rattle.shape_state.specs.declared.state.Kept.TheVariants as kept
use Rattle.shape_state.specs.declared.state.State.{State}
use Rattle.shape_state.specs.declared.prepared.Prepared.{Prepared}
use Rattle.shape_state.specs.declared.prepared.Prepared.TheVariants as prepared
use Rattle.shape_state.specs.Standing.{IsWaiting, IsLogging, Keeps, Stands, with_event, after, is_gone_in}
use Rattle.shape_state.specs.Answers.{passes, Appends, IsPreparedBy, IsSkip, IsPreparedWhere, IsPrepared}

-- ---- the parts of a longer history

pub taken_took : (events : List ShapeEvent) (tx : Tx) (others : ℕ) → taken (events ++ Took tx others ∷ []) ≡ taken events ++ tx ∷ []
taken_took [] tx others = refl
taken_took (Snapped x ∷ events) tx others = taken_took events tx others
taken_took (Took y n ∷ events) tx others = ap (λ (txs : List Tx). y ∷ txs) (taken_took events tx others)
taken_took (Dropped c ∷ events) tx others = taken_took events tx others

pub taken_snapped : (events : List ShapeEvent) (s : Snapshot) → taken (events ++ Snapped s ∷ []) ≡ taken events
taken_snapped [] s = refl
taken_snapped (Snapped x ∷ events) s = taken_snapped events s
taken_snapped (Took y n ∷ events) s = ap (λ (txs : List Tx). y ∷ txs) (taken_snapped events s)
taken_snapped (Dropped c ∷ events) s = taken_snapped events s

pub taken_dropped : (events : List ShapeEvent) (cause : Cause) → taken (events ++ Dropped cause ∷ []) ≡ taken events
taken_dropped [] cause = refl
taken_dropped (Snapped x ∷ events) cause = taken_dropped events cause
taken_dropped (Took y n ∷ events) cause = ap (λ (txs : List Tx). y ∷ txs) (taken_dropped events cause)
taken_dropped (Dropped c ∷ events) cause = taken_dropped events cause

pub snapshot_took : (events : List ShapeEvent) (tx : Tx) (others : ℕ) → snapshot_in (events ++ Took tx others ∷ []) ≡ snapshot_in events
snapshot_took [] tx others = refl
snapshot_took (Snapped x ∷ events) tx others = refl
snapshot_took (Took y n ∷ events) tx others = snapshot_took events tx others
snapshot_took (Dropped c ∷ events) tx others = snapshot_took events tx others

pub snapshot_snapped : (events : List ShapeEvent) (s : Snapshot) → snapshot_in events ≡ None → snapshot_in (events ++ Snapped s ∷ []) ≡ Some s
snapshot_snapped [] s none = refl
snapshot_snapped (Snapped x ∷ events) s none = absurd (cc)
snapshot_snapped (Took y n ∷ events) s none = snapshot_snapped events s none
snapshot_snapped (Dropped c ∷ events) s none = snapshot_snapped events s none

count_more : (old new : ℕ) (txs : List Tx) (tx : Tx) → old ≡ capped (length txs) → new ≡ capped (old + 1) → new ≡ capped (length (txs ++ tx ∷ []))
count_more old new txs tx is e = omega (arith, is, e, length-append txs (tx ∷ []))

pub count_took : (old new : ℕ) (events : List ShapeEvent) (tx : Tx) (others : ℕ) → old ≡ capped (length (taken events)) → new ≡ capped (old + 1) → new ≡ capped (length (taken (events ++ Took tx others ∷ [])))
count_took old new events tx others is e = count_more old new (taken events) tx is e ∙ ap (λ (txs : List Tx). capped (length txs)) (sym (taken_took events tx others))

-- ---- one event more

module _ (r : Reader) (l : Limits) where
  pub drop_then : (events : List ShapeEvent) (e : ShapeEvent) (o : Option Cause) → drop_of r l events ≡ None → drop_at r l events e ≡ o → drop_of r l (events ++ e ∷ []) ≡ o
  drop_then events e o none h = drop_next r l events e ∙ ap (λ (x : Option Cause). or_else x (drop_at r l events e)) none ∙ h

  pub after_is : (events : List ShapeEvent) (e : ShapeEvent) → drop_of r l events ≡ None → events ++ e ∷ [] ≡ after r l events e
  after_is events e none = ap (λ (x : Option Cause). with_event x events e) (sym none)

  pub after_gone : (events : List ShapeEvent) (e : ShapeEvent) (cause : Cause) → drop_of r l events ≡ Some cause → events ≡ after r l events e
  after_gone events e cause gone = ap (λ (x : Option Cause). with_event x events e) (sym gone)

  legal_from : (before events : List ShapeEvent) (e : ShapeEvent) → MayAllFollow r l before events → MayFollow r l (before ++ events) e → MayAllFollow r l before (events ++ e ∷ [])
  legal_from before [] e h may = (subst (λ (es : List ShapeEvent). MayFollow r l es e) (append-nil before) may, tt)
  legal_from before (x ∷ events) e h may = (h.0, legal_from (before ++ x ∷ []) events e h.1 (subst (λ (es : List ShapeEvent). MayFollow r l es e) (sym (append_assoc before (x ∷ []) events)) may))

  pub legal_then : (events : List ShapeEvent) (e : ShapeEvent) → IsLegal r l events → MayFollow r l events e → IsLegal r l (events ++ e ∷ [])
  legal_then events e h may = legal_from [] events e h may

-- a state that keeps what a shape is after the event stands for it
pub stands_next : (r : Reader) (old new : State) (events : List ShapeEvent) (e : ShapeEvent) → Stands r old events → drop_of r old.limits events ≡ None → IsInOrder events e → new.limits ≡ old.limits
    → new.took ≡ capped (length (taken (events ++ e ∷ []))) → Keeps r old.limits (events ++ e ∷ []) new.kept → Stands r new (after r old.limits events e)
stands_next r old new events e st none order same took keeps =
    subst (Stands r new) (after_is r old.limits events e none) (record {
      legal = subst (λ (l : Limits). IsLegal r l (events ++ e ∷ [])) (sym same) (legal_then r old.limits events e st.legal (record { stands = none; in_order = order }));
      took = took;
      keeps = subst (λ (l : Limits). Keeps r l (events ++ e ∷ []) new.kept) (sym same) keeps;
    })

-- a state that is the same stands for the same events
pub stands_still : (r : Reader) (old new : State) (events : List ShapeEvent) → Stands r old events → new.limits ≡ old.limits → new.took ≡ old.took → new.kept ≡ old.kept → Stands r new events
stands_still r old new events st same took keeps = record {
  legal = subst (λ (l : Limits). IsLegal r l events) (sym same) st.legal;
  took = took ∙ st.took;
  keeps = subst (λ (l : Limits). Keeps r l events new.kept) (sym same) (subst (Keeps r old.limits events) (sym keeps) st.keeps);
}

-- ---- a commit

pub prepared_now : (r : Reader) (l : Limits) (events : List ShapeEvent) (tx : Tx) (others : ℕ) (p : Prepared) → drop_of r l events ≡ None → IsPrepared r l events tx others p → IsPreparedBy r l events tx others p
prepared_now r l events tx others p none h = subst (λ (o : Option Cause). IsPreparedWhere o r l events tx others p) none h

-- the log after a commit that does not drop the shape
logged : (r : Reader) (l : Limits) (events : List ShapeEvent) (tx : Tx) (others : ℕ) (g new : Logging) (is : IsLogging r l events g) (b : Bool) → is_passed is.snapshot (taken events) tx ≡ b → drop_at r l events (Took tx others) ≡ None → new.vis ≡ g.vis → new.log.least ≡ g.log.least
    → Holds new.log (log_after r.knows is.snapshot events ++ (if b then [] else entries_in r.knows tx)) → new.all_shown ≡ b → IsLogging r l (events ++ Took tx others ∷ []) new
logged r l events tx others g new is b passed none vis least log shown =
    let goes = drop_then r l events (Took tx others) None is.stands none in
    record {
      stands = goes;
      snapshot = is.snapshot;
      came = snapshot_took events tx others ∙ is.came;
      visibility = vis ∙ is.visibility;
      log = subst (Holds new.log) (sym (took_adds r l is.snapshot events tx others is.came goes ∙ ap (λ (x : Bool). log_after r.knows is.snapshot events ++ (if x then [] else entries_in r.knows tx)) passed)) log;
      least = least ∙ is.least;
      shown = shown ∙ sym passed ∙ ap (λ (txs : List Tx). is_empty (unseen is.snapshot.visibility txs)) (sym (taken_took events tx others));
    }

passed_none_drop : (r : Reader) (l : Limits) (events : List ShapeEvent) (tx : Tx) (others : ℕ) (s : Snapshot) → snapshot_in events ≡ Some s → is_passed s (taken events) tx ≡ true → drop_at r l events (Took tx others) ≡ None
passed_none_drop r l events tx others s came passed =
    ap (λ (o : Option Snapshot). drop_at_commit r l o events tx others) came
    ∙ ap (λ (b : Bool). if b then None else or_else (drop_by r l (bytes_of (log_after r.knows s events)) tx) (all_full l (bytes_with r.knows (bytes_of (log_after r.knows s events)) tx + others))) passed

-- a commit is passed over
pub pass_stands : (r : Reader) (old new : State) (g : Logging) (events : List ShapeEvent) (tx : Tx) (others : ℕ) → old.kept ≡ kept.Logging g → new.kept ≡ old.kept → new.limits ≡ old.limits → new.took ≡ capped (old.took + 1)
    → Stands r old events → last_lsn events < tx.lsn → IsPrepared r old.limits events tx others prepared.Skip → Stands r new (after r old.limits events (Took tx others))
pass_stands r old new g events tx others was keeps same took st lt p =
    let is = subst (Keeps r old.limits events) was st.keeps in
    let by = prepared_now r old.limits events tx others prepared.Skip is.stands p in
    let passed : is_passed is.snapshot (taken events) tx ≡ true = subst (λ (o : Option Snapshot). passes o events tx ≡ true) is.came by in
    let shown : g.all_shown ≡ true = is.shown ∙ ap is_empty (passed_none is.snapshot.visibility (taken events) tx passed) in
    stands_next r old new events (Took tx others) st is.stands lt same (count_took old.took new.took events tx others st.took took)
    (subst (Keeps r old.limits (events ++ Took tx others ∷ [])) (sym (keeps ∙ was))
    (logged r old.limits events tx others g g is true passed (passed_none_drop r old.limits events tx others is.snapshot is.came passed) refl refl (subst (Holds g.log) (sym (append-nil (log_after r.knows is.snapshot events))) is.log) shown))

-- a shape that is dropped passes over each commit
pub gone_stands : (r : Reader) (old : State) (cause : Cause) (events : List ShapeEvent) (e : ShapeEvent) → old.kept ≡ kept.Gone cause → Stands r old events → Stands r old (after r old.limits events e)
gone_stands r old cause events e was st = subst (Stands r old) (after_gone r old.limits events e cause (subst (Keeps r old.limits events) was st.keeps)) st

-- a commit waits
pub keep_stands : (r : Reader) (old new : State) (commits more : Buffered) (copy : Tx) (events : List ShapeEvent) (tx : Tx) (others : ℕ) → old.kept ≡ kept.Waiting commits → new.kept ≡ kept.Waiting more → more.txs ≡ commits.txs ++ copy ∷ [] → new.limits ≡ old.limits → new.took ≡ capped (old.took + 1)
    → Stands r old events → last_lsn events < tx.lsn → IsPrepared r old.limits events tx others (prepared.Buffer copy) → Stands r new (after r old.limits events (Took tx others))
keep_stands r old new commits more copy events tx others was is_new added same took st lt p =
    let is = subst (Keeps r old.limits events) was st.keeps in
    let by = prepared_now r old.limits events tx others (prepared.Buffer copy) is.stands p in
    stands_next r old new events (Took tx others) st is.stands lt same (count_took old.took new.took events tx others st.took took)
    (subst (Keeps r old.limits (events ++ Took tx others ∷ [])) (sym is_new) (record {
      stands = drop_then r old.limits events (Took tx others) None is.stands by.1;
      none = snapshot_took events tx others ∙ by.0;
      txs = added ∙ ap₂ (λ (xs : List Tx) (x : Tx). xs ++ x ∷ []) is.txs by.2 ∙ sym (taken_took events tx others);
    }))

-- the entries of a commit are appended
pub append_stands : (r : Reader) (old new : State) (g more : Logging) (events : List ShapeEvent) (tx : Tx) (others : ℕ) → old.kept ≡ kept.Logging g → new.kept ≡ kept.Logging more → more.vis ≡ g.vis → more.log.least ≡ g.log.least → more.all_shown ≡ false
    → ((entries : List Entry) → Holds g.log entries → Holds more.log (entries ++ entries_in r.knows tx)) → new.limits ≡ old.limits → new.took ≡ capped (old.took + 1)
    → Stands r old events → last_lsn events < tx.lsn → Appends r events tx (drop_at r old.limits events (Took tx others)) → Stands r new (after r old.limits events (Took tx others))
append_stands r old new g more events tx others was is_new vis least shown held same took st lt by =
    let is = subst (Keeps r old.limits events) was st.keeps in
    let one : ◌≡◌ {A = Option Snapshot} (Some is.snapshot) (Some by.snapshot) = sym is.came ∙ by.came in
    let not_passed : is_passed is.snapshot (taken events) tx ≡ false = subst (λ (o : Option Snapshot). passes o events tx ≡ false) (sym one) by.not_passed in
    stands_next r old new events (Took tx others) st is.stands lt same (count_took old.took new.took events tx others st.took took)
    (subst (Keeps r old.limits (events ++ Took tx others ∷ [])) (sym is_new)
    (logged r old.limits events tx others g more is false not_passed by.none vis least (held (log_after r.knows is.snapshot events) is.log) shown))

drop_now : (r : Reader) (l : Limits) (events : List ShapeEvent) (tx : Tx) (others : ℕ) (cause : Cause) (o : Option Cause) → drop_of r l events ≡ o → IsPreparedWhere o r l events tx others (prepared.Drop cause) → (drop_of r l events ≡ None) × (drop_at r l events (Took tx others) ≡ Some cause)
drop_now r l events tx others cause None e h = (e, h)
drop_now r l events tx others cause (Some x) e h = absurd h

-- a commit drops the shape
pub stop_stands : (r : Reader) (old new : State) (cause : Cause) (events : List ShapeEvent) (tx : Tx) (others : ℕ) → new.kept ≡ kept.Gone cause → new.limits ≡ old.limits → new.took ≡ capped (old.took + 1)
    → Stands r old events → last_lsn events < tx.lsn → IsPrepared r old.limits events tx others (prepared.Drop cause) → Stands r new (after r old.limits events (Took tx others))
stop_stands r old new cause events tx others is_new same took st lt p =
    let by = drop_now r old.limits events tx others cause (drop_of r old.limits events) refl p in
    stands_next r old new events (Took tx others) st by.0 lt same (count_took old.took new.took events tx others st.took took)
    (subst (Keeps r old.limits (events ++ Took tx others ∷ [])) (sym is_new) (drop_then r old.limits events (Took tx others) (Some cause) by.0 by.1))

-- ---- what a shape is

pub not_gone : (r : Reader) (l : Limits) (events : List ShapeEvent) (k : Kept) → Keeps r l events k → is_gone_in k ≡ false → drop_of r l events ≡ None
not_gone r l events (kept.Waiting commits) is e = is.stands
not_gone r l events (kept.Logging g) is e = is.stands
not_gone r l events (kept.Gone cause) is e = absurd (true≢false e)

pub is_gone : (r : Reader) (old : State) (events : List ShapeEvent) (e : ShapeEvent) (k : Kept) → old.kept ≡ k → is_gone_in k ≡ true → Stands r old events → Stands r old (after r old.limits events e)
is_gone r old events e (kept.Waiting commits) was g st = absurd (true≢false (sym g))
is_gone r old events e (kept.Logging logging) was g st = absurd (true≢false (sym g))
is_gone r old events e (kept.Gone cause) was g st = gone_stands r old cause events e was st

-- it is dropped from outside
pub drop_stands : (r : Reader) (old new : State) (cause : Cause) (events : List ShapeEvent) → is_gone_in old.kept ≡ false → new.kept ≡ kept.Gone cause → new.limits ≡ old.limits → new.took ≡ old.took
    → Stands r old events → Stands r new (after r old.limits events (Dropped cause))
drop_stands r old new cause events alive is_new same took st =
    let none = not_gone r old.limits events old.kept st.keeps alive in
    stands_next r old new events (Dropped cause) st none tt same (took ∙ st.took ∙ ap (λ (txs : List Tx). capped (length txs)) (sym (taken_dropped events cause)))
    (subst (Keeps r old.limits (events ++ Dropped cause ∷ [])) (sym is_new) (drop_then r old.limits events (Dropped cause) (Some cause) none refl))

pub state_waiting : (r : Reader) (l : Limits) (events : List ShapeEvent) (commits : Buffered) → IsWaiting r l events commits → state_after r l events ≡ Starting (taken events)
state_waiting r l events commits is = ap₂ (λ (o : Option Cause) (s : Option Snapshot). state_by r o s events) is.stands is.none

pub state_logging : (r : Reader) (l : Limits) (events : List ShapeEvent) (g : Logging) → (is : IsLogging r l events g) → state_after r l events ≡ Ready (log_after r.knows is.snapshot events)
state_logging r l events g is = ap₂ (λ (o : Option Cause) (s : Option Snapshot). state_by r o s events) is.stands is.came

pub state_gone : (r : Reader) (l : Limits) (events : List ShapeEvent) (cause : Cause) → drop_of r l events ≡ Some cause → state_after r l events ≡ Gone cause
state_gone r l events cause is = ap (λ (o : Option Cause). state_by r o (snapshot_in events) events) is

-- ---- a snapshot comes

pub begins : (r : Reader) (old new : State) (commits : Buffered) (events : List ShapeEvent) (snapshot : Snapshot) → old.kept ≡ kept.Waiting commits → Stands r old events → (o : Option Cause) → o ≡ drop_among r old.limits (bytes_of (start_from 1 (shown r.knows snapshot.rows))) (unseen snapshot.visibility commits.txs)
    → new.limits ≡ old.limits → new.took ≡ old.took → (drop_of r old.limits (events ++ Snapped snapshot ∷ []) ≡ o → Keeps r old.limits (events ++ Snapped snapshot ∷ []) new.kept) → Stands r new (after r old.limits events (Snapped snapshot))
begins r old new commits events snapshot was st o is same took keeps =
    let w = subst (Keeps r old.limits events) was st.keeps in
    let at : drop_at r old.limits events (Snapped snapshot) ≡ o = ap (λ (txs : List Tx). drop_among r old.limits (bytes_of (start_from 1 (shown r.knows snapshot.rows))) (unseen snapshot.visibility txs)) (sym w.txs) ∙ sym is in
    stands_next r old new events (Snapped snapshot) st w.stands w.none same (took ∙ st.took ∙ ap (λ (txs : List Tx). capped (length txs)) (sym (taken_snapped events snapshot)))
    (keeps (drop_then r old.limits events (Snapped snapshot) o w.stands at))

-- it begins the log
pub begins_log : (r : Reader) (l : Limits) (commits : Buffered) (events : List ShapeEvent) (snapshot : Snapshot) (g : Logging) → IsWaiting r l events commits → drop_of r l (events ++ Snapped snapshot ∷ []) ≡ None → g.vis ≡ snapshot.visibility → g.log.least ≡ l.chunk
    → g.all_shown ≡ is_empty (unseen snapshot.visibility commits.txs) → Holds g.log (start_from 1 (shown r.knows snapshot.rows) ++ entries_past r.knows (unseen snapshot.visibility commits.txs)) → IsLogging r l (events ++ Snapped snapshot ∷ []) g
begins_log r l commits events snapshot g w stands vis least all log =
    let txs : commits.txs ≡ taken (events ++ Snapped snapshot ∷ []) = w.txs ∙ sym (taken_snapped events snapshot) in
    record {
      stands = stands;
      snapshot = snapshot;
      came = snapshot_snapped events snapshot w.none;
      visibility = vis;
      log = subst (λ (ts : List Tx). Holds g.log (start_from 1 (shown r.knows snapshot.rows) ++ entries_past r.knows (unseen snapshot.visibility ts))) txs log;
      least = least;
      shown = all ∙ ap (λ (ts : List Tx). is_empty (unseen snapshot.visibility ts)) txs;
    }
