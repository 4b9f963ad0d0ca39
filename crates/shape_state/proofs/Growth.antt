-- Logs of longer histories, and commits that come later.
use Rattle.std.proofs.Common.{◌≡◌, ℕ, ◌<◌, ◌≤◌, Bool, true, false, List, [], ◌∷◌, ◌++◌, refl, sym, subst, ap, ◌∙◌, arith, append_assoc, append-nil, Option, None, Some}
use Rattle.std.specs.Bool.{if◌then◌else◌}
use Rattle.std.proofs.lemmas.Option.{same_Some}
use Rattle.shape_base.specs.declared.cause.Cause.{Cause}
use Rattle.shape_base.specs.declared.change.Tx.{Tx}
use Rattle.shape_base.specs.declared.entry.Entry.{Entry}
use Rattle.shape_base.specs.declared.limits.Limits.{Limits}
use Rattle.shape_base.specs.declared.offset.Offset.{Offset}
use Rattle.shape_base.specs.Snapshot.{Snapshot}
use Rattle.shape_base.specs.Shape.{shown}
use Rattle.shape_base.specs.Transactions.{LsnsRise}
use Rattle.shape_base.specs.Log.{IsFront, start_from, unseen, entries_past}
use Rattle.shape_log.specs.Texts as texts
use Rattle.shape_json.specs.Page.{Part, page_of}
use Rattle.shape_json.specs.Reading.{HaveOffsets}
use Rattle.shape_json.specs.ShapeHistory.{Reader, ShapeEvent, Snapped, Took, Dropped, snapshot_in, taken, log_after, or_else, entries_in, is_passed, drop_at, drop_from, drop_of, last_lsn, MayAllFollow, IsLegal}
use Rattle.shape_json.proofs.Lemmas.{page_stays}
use Rattle.shape_json.proofs.Histories.{took_adds}
use Rattle.shape_state.specs.Later.{lsn_in, last_of}
use Rattle.shape_state.specs.declared.state.State.{State}
use Rattle.shape_state.specs.declared.state.Kept.{Kept}
use Rattle.shape_state.specs.declared.state.Kept.TheVariants as kept
use Rattle.shape_state.specs.Standing.{Stands, Keeps, IsLater}
use Rattle.shape_state.specs.Growing.{LogGrows, PageSettles, ComesLater, LogIsShort}
use Rattle.shape_state.proofs.Ends.{rise_behind, over_end}
use Rattle.shape_state.proofs.Life.{taken_took, taken_snapped, taken_dropped, snapshot_took}
use Rattle.shape_state.proofs.Waiting.{same_end}

same_log : (r : Reader) (snapshot : Snapshot) (xs ys : List ShapeEvent) → taken ys ≡ taken xs → log_after r.knows snapshot ys ≡ log_after r.knows snapshot xs
same_log r snapshot xs ys same = ap (λ (txs : List Tx). start_from 1 (shown r.knows snapshot.rows) ++ entries_past r.knows (unseen snapshot.visibility txs)) same

pub log_grows : LogGrows
log_grows r l snapshot events (Snapped x) came none = record { more = []; is = same_log r snapshot events (events ++ Snapped x ∷ []) (taken_snapped events x) ∙ sym (append-nil (log_after r.knows snapshot events)) }
log_grows r l snapshot events (Took tx others) came none = record { more = if is_passed snapshot (taken events) tx then [] else entries_in r.knows tx; is = took_adds r l snapshot events tx others came none }
log_grows r l snapshot events (Dropped cause) came none = record { more = []; is = same_log r snapshot events (events ++ Dropped cause ∷ []) (taken_dropped events cause) ∙ sym (append-nil (log_after r.knows snapshot events)) }

none_first : (a b : Option Cause) → or_else a b ≡ None → a ≡ None
none_first None b e = refl
none_first (Some x) b e = absurd (cc)

none_later : (a b : Option Cause) → or_else a b ≡ None → b ≡ None
none_later None b e = e
none_later (Some x) b e = absurd (cc)

-- a front of a history that does not drop the shape does not drop it
front_stands : (r : Reader) (l : Limits) (before xs ys : List ShapeEvent) → drop_from r l before (xs ++ ys) ≡ None → drop_from r l before xs ≡ None
front_stands r l before [] ys e = refl
front_stands r l before (x ∷ xs) ys e =
    ap (λ (o : Option Cause). or_else o (drop_from r l (before ++ x ∷ []) xs)) (none_first (drop_at r l before x) (drop_from r l (before ++ x ∷ []) (xs ++ ys)) e)
    ∙ front_stands r l (before ++ x ∷ []) xs ys (none_later (drop_at r l before x) (drop_from r l (before ++ x ∷ []) (xs ++ ys)) e)

first_in : (s : Snapshot) (events : List ShapeEvent) (event : ShapeEvent) → snapshot_in events ≡ Some s → snapshot_in (events ++ event ∷ []) ≡ Some s
first_in s [] event e = absurd (cc)
first_in s (Snapped x ∷ events) event e = e
first_in s (Took tx others ∷ events) event e = first_in s events event e
first_in s (Dropped cause ∷ events) event e = first_in s events event e

pub page_settles : PageSettles
page_settles r l snapshot events [] o came none closed = ap (λ (es : List ShapeEvent). page_of l.chunk (log_after r.knows snapshot es) o) (append-nil events)
page_settles r l snapshot events (x ∷ later) o came none closed =
    let more : drop_of r l ((events ++ x ∷ []) ++ later) ≡ None = ap (drop_of r l) (append_assoc events (x ∷ []) later) ∙ none in
    let one : drop_of r l (events ++ x ∷ []) ≡ None = front_stands r l [] (events ++ x ∷ []) later more in
    let front = log_grows r l snapshot events x came one in
    let same : page_of l.chunk (log_after r.knows snapshot (events ++ x ∷ [])) o ≡ page_of l.chunk (log_after r.knows snapshot events) o =
    ap (λ (es : List Entry). page_of l.chunk es o) front.is ∙ page_stays l.chunk (log_after r.knows snapshot events) front.more o closed in
    ap (λ (es : List ShapeEvent). page_of l.chunk (log_after r.knows snapshot es) o) (sym (append_assoc events (x ∷ []) later))
    ∙ page_settles r l snapshot (events ++ x ∷ []) later o (first_in snapshot events x came) more (ap (λ (p : Part). p.up_to_date) same ∙ closed) ∙ same

-- ---- LSNs

rise_one : (before : List ShapeEvent) (event : ShapeEvent) (r : Reader) (l : Limits) → LsnsRise 0 (taken before) → MayAllFollow r l before (event ∷ []) → LsnsRise 0 (taken (before ++ event ∷ []))
rise_one before (Snapped x) r l h may = subst (LsnsRise 0) (sym (taken_snapped before x)) h
rise_one before (Took tx others) r l h may = subst (LsnsRise 0) (sym (taken_took before tx others)) (rise_behind (taken before) None tx h (may.0).in_order)
rise_one before (Dropped cause) r l h may = subst (LsnsRise 0) (sym (taken_dropped before cause)) h

rise_from : (r : Reader) (l : Limits) (before events : List ShapeEvent) → LsnsRise 0 (taken before) → MayAllFollow r l before events → LsnsRise 0 (taken (before ++ events))
rise_from r l before [] h may = subst (λ (es : List ShapeEvent). LsnsRise 0 (taken es)) (sym (append-nil before)) h
rise_from r l before (x ∷ events) h may =
    subst (λ (es : List ShapeEvent). LsnsRise 0 (taken es)) (append_assoc before (x ∷ []) events) (rise_from r l (before ++ x ∷ []) events (rise_one before x r l h (may.0, tt)) may.1)

-- the LSNs of the commits of a legal history rise
pub legal_rise : (r : Reader) (l : Limits) (events : List ShapeEvent) → IsLegal r l events → LsnsRise 0 (taken events)
legal_rise r l events legal = rise_from r l [] events tt legal

later_by : (r : Reader) (l : Limits) (events : List ShapeEvent) (lsn : ℕ) (k : Kept) → Keeps r l events k → LsnsRise 0 (taken events) → last_lsn events < lsn → IsLater k lsn
later_by r l events lsn (kept.Waiting commits) is rise lt = subst (λ (txs : List Tx). last_of txs < lsn) (sym is.txs) lt
later_by r l events lsn (kept.Logging g) is rise lt =
    subst (λ (o : Offset). lsn_in o < lsn) (sym (same_end g.log (log_after r.knows is.snapshot events) is.log)) (omega (arith, lt, over_end r.knows is.snapshot.visibility is.snapshot.rows (taken events) rise))
later_by r l events lsn (kept.Gone cause) is rise lt = tt

pub comes_later : ComesLater
comes_later r s events lsn st lt = later_by r s.limits events lsn s.kept st.keeps (legal_rise r s.limits events st.legal) lt

-- ---- offsets

short_by : (r : Reader) (l : Limits) (events : List ShapeEvent) (snapshot : Snapshot) (k : Kept) → Keeps r l events k → drop_of r l events ≡ None → snapshot_in events ≡ Some snapshot → HaveOffsets (log_after r.knows snapshot events)
short_by r l events snapshot (kept.Waiting commits) is lives came = let none = is.none in cc
short_by r l events snapshot (kept.Logging g) is lives came = subst (λ (s : Snapshot). HaveOffsets (log_after r.knows s events)) (same_Some is.snapshot snapshot (sym is.came ∙ came)) is.log.short
short_by r l events snapshot (kept.Gone cause) is lives came = cc

pub log_is_short : LogIsShort
log_is_short r s events snapshot st lives came = short_by r s.limits events snapshot s.kept st.keeps lives came
