-- Commits that wait, and what is prepared for one more.
use Rattle.std.proofs.Common.{◌≡◌, ℕ, ◌+◌, ◌<◌, ◌≤◌, Bool, true, false, List, [], ◌∷◌, ◌++◌, map, refl, sym, subst, ap, ap₂, ◌∙◌, arith, Option, None, Some}
use Rattle.std.specs.Prelude.{min, ◌&&◌}
use Rattle.std.specs.Bool.{if◌then◌else◌}
use Rattle.std.specs.List.{sum, AllByRecursion}
use Rattle.std.proofs.lemmas.List.{map-append}
use Rattle.std.proofs.lemmas.List.Sums.{sum_by-append}
use Rattle.shape_base.specs.declared.cause.Cause.{Cause}
use Rattle.shape_base.specs.declared.change.Tx.{Tx}
use Rattle.shape_base.specs.declared.entry.Entry.{Entry}
use Rattle.shape_base.specs.declared.limits.Limits.{Limits}
use Rattle.shape_base.specs.declared.offset.Offset.{Offset}
use Rattle.shape_base.specs.Offsets.{is_before, rises_after}
use Rattle.shape_base.specs.Snapshot.{Snapshot}
use Rattle.shape_base.specs.Visibility.{Visibility, is_visible}
use Rattle.shape_base.specs.Transactions.{IsWhole}
use Rattle.shape_base.specs.Log.{unseen}
use Rattle.shape_base.specs.Shape.{stops}
use Rattle.shape_log.specs.Texts as texts
use Rattle.shape_json.specs.Body.{capped}
use Rattle.shape_json.specs.ShapeHistory.{Reader, ShapeEvent, Took, snapshot_in, taken, log_after, or_else, first_stop, log_full, entries_in, bytes_of, bytes_with, drop_by, all_full, pending_full, pending_bytes, is_empty, is_passed, drop_at_commit, drop_at, drop_of}
use Rattle.chunked_log.specs.Chunked.{Chunked, Texts, Writes, Holds, offsets_of}
use Rattle.shape_state.specs.Buffered.{Buffered}
use Rattle.shape_state.specs.declared.state.Logging.{Logging}
use Rattle.shape_state.specs.Standing.{IsWaiting, IsLogging}
use Rattle.shape_state.specs.Answers.{passes, Appends}

-- ---- commits that wait

pub pending_more : (txs : List Tx) (tx : Tx) (bytes sum_ : ℕ) → bytes ≡ capped (pending_bytes txs) → sum_ ≡ capped (bytes + tx.bytes) → sum_ ≡ capped (pending_bytes (txs ++ tx ∷ []))
pending_more txs tx bytes sum_ is e =
    let all : pending_bytes (txs ++ tx ∷ []) ≡ pending_bytes txs + sum (tx.bytes ∷ []) = ap sum (map-append (λ (x : Tx). x.bytes) txs (tx ∷ [])) ∙ sum_by-append (λ x. x) (map (λ (x : Tx). x.bytes) txs) (tx.bytes ∷ []) in
    let one : sum (tx.bytes ∷ []) ≡ tx.bytes = omega arith in
    omega (arith, is, e, all, one)

pub whole_more : (txs : List Tx) (tx : Tx) → AllByRecursion IsWhole txs → IsWhole tx → AllByRecursion IsWhole (txs ++ tx ∷ [])
whole_more [] tx h w = (w, tt)
whole_more (x ∷ txs) tx h w = (h.0, whole_more txs tx h.1 w)

pub waiting_drop : (r : Reader) (l : Limits) (events : List ShapeEvent) (tx : Tx) (others : ℕ) (commits : Buffered) (o : Option Cause) → IsWaiting r l events commits → o ≡ pending_full l (pending_bytes commits.txs + tx.bytes) → drop_at r l events (Took tx others) ≡ o
waiting_drop r l events tx others commits o is e =
    ap (λ (s : Option Snapshot). drop_at_commit r l s events tx others) is.none ∙ ap (λ (txs : List Tx). pending_full l (pending_bytes txs + tx.bytes)) (sym is.txs) ∙ sym e

-- ---- commits that come to a log

unseen_if : (b : Bool) (v : Visibility) (x : Tx) (txs : List Tx) (tx : Tx) → is_empty (unseen v (txs ++ tx ∷ [])) ≡ (is_empty (unseen v txs) && is_visible v tx.xid)
    → is_empty (if b then unseen v (txs ++ tx ∷ []) else x ∷ (txs ++ tx ∷ [])) ≡ (is_empty (if b then unseen v txs else x ∷ txs) && is_visible v tx.xid)
unseen_if true v x txs tx h = h
unseen_if false v x txs tx h = refl

alone_if : (b : Bool) (tx : Tx) → is_empty (if b then [] else tx ∷ []) ≡ b
alone_if true tx = refl
alone_if false tx = refl

-- a commit is passed over where all before it are shown, and so is it
shown_more : (v : Visibility) (txs : List Tx) (tx : Tx) → is_empty (unseen v (txs ++ tx ∷ [])) ≡ (is_empty (unseen v txs) && is_visible v tx.xid)
shown_more v [] tx = alone_if (is_visible v tx.xid) tx
shown_more v (x ∷ txs) tx = unseen_if (is_visible v x.xid) v x txs tx (shown_more v txs tx)

pub passed_is : (r : Reader) (l : Limits) (events : List ShapeEvent) (tx : Tx) (g : Logging) (is : IsLogging r l events g) (b : Bool) → b ≡ (g.all_shown && is_visible g.vis tx.xid) → is_passed is.snapshot (taken events) tx ≡ b
passed_is r l events tx g is b e =
    shown_more is.snapshot.visibility (taken events) tx ∙ sym (e ∙ ap₂ (λ (x : Bool) (v : Visibility). x && is_visible v tx.xid) is.shown is.visibility)

pub skips : (r : Reader) (l : Limits) (events : List ShapeEvent) (tx : Tx) (g : Logging) (is : IsLogging r l events g) → true ≡ (g.all_shown && is_visible g.vis tx.xid) → passes (snapshot_in events) events tx ≡ true
skips r l events tx g is e = ap (λ (s : Option Snapshot). passes s events tx) is.came ∙ passed_is r l events tx g is true e

logging_drop : (r : Reader) (l : Limits) (events : List ShapeEvent) (tx : Tx) (others : ℕ) (g : Logging) (is : IsLogging r l events g) → is_passed is.snapshot (taken events) tx ≡ false
    → drop_at r l events (Took tx others) ≡ or_else (drop_by r l (bytes_of (log_after r.knows is.snapshot events)) tx) (all_full l (bytes_with r.knows (bytes_of (log_after r.knows is.snapshot events)) tx + others))
logging_drop r l events tx others g is not_passed =
    ap (λ (s : Option Snapshot). drop_at_commit r l s events tx others) is.came
    ∙ ap (λ (b : Bool). if b then None else or_else (drop_by r l (bytes_of (log_after r.knows is.snapshot events)) tx) (all_full l (bytes_with r.knows (bytes_of (log_after r.knows is.snapshot events)) tx + others))) not_passed

-- it drops the shape by itself
pub drops_by : (r : Reader) (l : Limits) (events : List ShapeEvent) (tx : Tx) (others : ℕ) (g : Logging) (bytes : ℕ) (cause : Cause) → IsLogging r l events g → false ≡ (g.all_shown && is_visible g.vis tx.xid) → ((entries : List Entry) → Holds g.log entries → bytes ≡ bytes_of entries)
    → drop_by r l bytes tx ≡ Some cause → drop_at r l events (Took tx others) ≡ Some cause
drops_by r l events tx others g bytes cause is e counted h =
    let n = counted (log_after r.knows is.snapshot events) is.log in
    logging_drop r l events tx others g is (passed_is r l events tx g is false e)
    ∙ ap (λ (o : Option Cause). or_else o (all_full l (bytes_with r.knows (bytes_of (log_after r.knows is.snapshot events)) tx + others))) (ap (λ (k : ℕ). drop_by r l k tx) (sym n) ∙ h)

-- it fits the log, and so the limit of all logs decides
pub drops_all : (r : Reader) (l : Limits) (events : List ShapeEvent) (tx : Tx) (others : ℕ) (g : Logging) (bytes : ℕ) (written : Texts) (o : Option Cause) → IsLogging r l events g → false ≡ (g.all_shown && is_visible g.vis tx.xid) → ((entries : List Entry) → Holds g.log entries → bytes ≡ bytes_of entries)
    → drop_by r l bytes tx ≡ None → Writes written (entries_in r.knows tx) → ((entries more : List Entry) → Holds g.log entries → Writes written more → o ≡ all_full l ((bytes_of entries + bytes_of more) + others)) → drop_at r l events (Took tx others) ≡ o
drops_all r l events tx others g bytes written o is e counted h writes found =
    let n = counted (log_after r.knows is.snapshot events) is.log in
    logging_drop r l events tx others g is (passed_is r l events tx g is false e)
    ∙ ap (λ (x : Option Cause). or_else x (all_full l (bytes_with r.knows (bytes_of (log_after r.knows is.snapshot events)) tx + others))) (ap (λ (k : ℕ). drop_by r l k tx) (sym n) ∙ h)
    ∙ sym (found (log_after r.knows is.snapshot events) (entries_in r.knows tx) is.log writes)

pub appends : (r : Reader) (l : Limits) (events : List ShapeEvent) (tx : Tx) (others : ℕ) (g : Logging) (o : Option Cause) (is : IsLogging r l events g) → false ≡ (g.all_shown && is_visible g.vis tx.xid) → drop_at r l events (Took tx others) ≡ o → o ≡ None → Appends r events tx (drop_at r l events (Took tx others))
appends r l events tx others g o is e at none = record { snapshot = is.snapshot; came = is.came; not_passed = passed_is r l events tx g is false e; none = at ∙ none }

-- a log that was changed in its room alone
pub logging_still : (r : Reader) (l : Limits) (events : List ShapeEvent) (g new : Logging) → IsLogging r l events g → new.vis ≡ g.vis → new.all_shown ≡ g.all_shown → new.log.least ≡ g.log.least → ((entries : List Entry) → Holds g.log entries → Holds new.log entries) → IsLogging r l events new
logging_still r l events g new is vis shown least held = record {
  stands = is.stands;
  snapshot = is.snapshot;
  came = is.came;
  visibility = vis ∙ is.visibility;
  log = held (log_after r.knows is.snapshot events) is.log;
  least = least ∙ is.least;
  shown = shown ∙ is.shown;
}

pub rises_is : (o : Offset) (es : List Entry) → texts.rise_after o (offsets_of es) ≡ rises_after o es
rises_is o [] = refl
rises_is o (e ∷ es) = ap (λ (b : Bool). is_before o e.offset && b) (rises_is e.offset es)
