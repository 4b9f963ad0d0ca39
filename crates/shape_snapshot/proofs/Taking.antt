-- Rows that are taken, and why one is refused.
use Rattle.std.proofs.Common.{◌≡◌, ℕ, ◌+◌, Bool, true, false, ◌||◌, List, [], ◌∷◌, ◌++◌, length, sym, ◌∙◌, ap, subst, append_assoc, Option, None, Some}
use Rattle.std.specs.Prelude.{Result, Ok, Err, OnOk, OnErr}
use Rattle.std.specs.Bool.{if◌then◌else◌}
use Rattle.std.specs.List.{list_any}
use Rattle.std.specs.Ordering.{nat_cmp}
use Rattle.std.specs.Cmp.Lexicographic.{slice_cmp}
use Rattle.std.specs.BTreeSet.{contains}
use Rattle.std.proofs.lemmas.List.{append-nil, length-map}
use Rattle.shape_base.specs.declared.entry.Entry.{Entry}
use Rattle.shape_base.specs.declared.limits.Limits.{Limits}
use Rattle.shape_base.specs.Tables.{Values, Table, same_text}
use Rattle.shape_base.specs.Shape.{Knows, Keyed, key_text, keyed, picks, shown, insert_at}
use Rattle.shape_base.specs.Log.{start_from}
use Rattle.shape_json.specs.Body.{entry_text}
use Rattle.shape_json.specs.ShapeHistory.{Reader, bytes_of}
use Rattle.chunked_log.specs.Chunked.{Holds}
use Rattle.shape_snapshot.specs.declared.kept.Kept.{Kept}
use Rattle.shape_snapshot.specs.declared.faults.SnapError.{SnapError}
use Rattle.shape_snapshot.specs.Refusals.{fault_of, is_taken_key, log_of, refusal_by, refusal_behind, refusal_of, or_else}
use Rattle.shape_snapshot.specs.Taken.{HasTaken, AreAllTaken}
use Rattle.shape_snapshot.specs.OneRow.{IsEntryOf}
use Rattle.shape_snapshot.proofs.Growing.{shown_same, log_more, keys_more}

-- ---- why a row is refused

-- one that is not selected
pub cause_none : (r : Reader) (l : Limits) (rows : Table) (row : Values) → fault_of r row ≡ None → picks r.knows row ≡ false → refusal_of r l rows row ≡ None
cause_none r l rows row good passed =
    ap (λ (o : Option SnapError). or_else o (if picks r.knows row then refusal_behind r.knows l rows row else None)) good ∙ ap (λ (b : Bool). if b then refusal_behind r.knows l rows row else None) passed

-- the log with the entry of a selected row
log_with : (r : Reader) (l : Limits) (kept : Kept) (rows : Table) (row : Values) (pos : ℕ) (e : Entry) → HasTaken r l kept rows → pos ≡ length kept.log.texts + 1 → picks r.knows row ≡ true → e ≡ insert_at 0 pos (keyed r.knows row)
    → log_of r.knows (rows ++ row ∷ []) ≡ log_of r.knows rows ++ e ∷ []
log_with r l kept rows row pos e h at picked is =
    let place : pos ≡ length (log_of r.knows rows) + 1 = at ∙ ap (λ (n : ℕ). n + 1) (ap length h.log.texts ∙ length-map (log_of r.knows rows) entry_text) in
    log_more r.knows rows row pos picked place ∙ ap (λ (x : Entry). log_of r.knows rows ++ x ∷ []) (sym is)

-- one that is selected
pub cause_behind : (r : Reader) (l : Limits) (kept : Kept) (rows : Table) (row : Values) (pos : ℕ) (e : Entry) → HasTaken r l kept rows → pos ≡ length kept.log.texts + 1 → fault_of r row ≡ None → picks r.knows row ≡ true → e ≡ insert_at 0 pos (keyed r.knows row)
    → refusal_of r l rows row ≡ refusal_by l (contains (slice_cmp nat_cmp) kept.keys e.key) e.key (bytes_of (log_of r.knows rows ++ e ∷ []))
cause_behind r l kept rows row pos e h at good picked is =
    let s = r.knows in
    let key : key_text s row ≡ e.key = sym (ap (λ (x : Entry). x.key) is) in
    ap (λ (o : Option SnapError). or_else o (if picks s row then refusal_behind s l rows row else None)) good ∙ ap (λ (b : Bool). if b then refusal_behind s l rows row else None) picked
    ∙ ap (λ (k : List ℕ). refusal_by l (is_taken_key s rows k) k (bytes_of (log_of s (rows ++ row ∷ [])))) key
    ∙ ap (λ (b : Bool). refusal_by l b e.key (bytes_of (log_of s (rows ++ row ∷ [])))) (sym (h.keys e.key))
    ∙ ap (λ (es : List Entry). refusal_by l (contains (slice_cmp nat_cmp) kept.keys e.key) e.key (bytes_of es)) (log_with r l kept rows row pos e h at picked is)

-- ---- rows that are taken

-- one more behind the others
all_more : (r : Reader) (l : Limits) (before rows : Table) (row : Values) → AreAllTaken r l before rows → refusal_of r l (before ++ rows) row ≡ None → AreAllTaken r l before (rows ++ row ∷ [])
all_more r l before [] row h none = (ap (λ (rs : Table). refusal_of r l rs row) (sym (append-nil before)) ∙ none, tt)
all_more r l before (x ∷ rows) row h none = (h.0, all_more r l (before ++ x ∷ []) rows row h.1 (ap (λ (rs : Table). refusal_of r l rs row) (append_assoc before (x ∷ []) rows) ∙ none))

-- none was taken
pub taken_none : (r : Reader) (l : Limits) (kept : Kept) → ((q : List ℕ) → contains (slice_cmp nat_cmp) kept.keys q ≡ false) → Holds kept.log [] → HasTaken r l kept []
taken_none r l kept keys log = record { good = tt; keys = keys; log = log }

-- a row that is not selected leaves all as it is
pub taken_same : (r : Reader) (l : Limits) (kept : Kept) (rows : Table) (row : Values) → fault_of r row ≡ None → picks r.knows row ≡ false → HasTaken r l kept rows → HasTaken r l kept (rows ++ row ∷ [])
taken_same r l kept rows row good passed h =
    let same : shown r.knows (rows ++ row ∷ []) ≡ shown r.knows rows = shown_same r.knows rows row passed in
    record {
      good = all_more r l [] rows row h.good (cause_none r l rows row good passed);
      keys = λ q. h.keys q ∙ sym (ap (list_any (λ (k : Keyed). same_text q k.0)) same);
      log = subst (λ (es : List Entry). Holds kept.log es) (sym (ap (start_from 1) same)) h.log;
    }

-- the entry of a selected row was put
pub taken_more : (r : Reader) (l : Limits) (old new : Kept) (rows : Table) (row : Values) (pos : ℕ) (e : Entry) → HasTaken r l old rows → pos ≡ length old.log.texts + 1 → picks r.knows row ≡ true → e ≡ insert_at 0 pos (keyed r.knows row)
    → refusal_of r l rows row ≡ None → Holds new.log (log_of r.knows rows ++ e ∷ []) → ((q : List ℕ) → contains (slice_cmp nat_cmp) new.keys q ≡ (same_text q e.key || contains (slice_cmp nat_cmp) old.keys q)) → HasTaken r l new (rows ++ row ∷ [])
taken_more r l old new rows row pos e h at picked is none log keys =
    let s = r.knows in
    record {
      good = all_more r l [] rows row h.good none;
      keys = λ q. keys q ∙ ap (λ (k : List ℕ). same_text q k || contains (slice_cmp nat_cmp) old.keys q) (ap (λ (x : Entry). x.key) is) ∙ ap (λ (b : Bool). same_text q (key_text s row) || b) (h.keys q) ∙ sym (keys_more s rows row q picked);
      log = subst (λ (es : List Entry). Holds new.log es) (sym (log_with r l old rows row pos e h at picked is)) log;
    }

-- nothing was put
pub taken_still : (r : Reader) (l : Limits) (old new : Kept) (rows : Table) → HasTaken r l old rows → Holds new.log (log_of r.knows rows) → ((q : List ℕ) → contains (slice_cmp nat_cmp) new.keys q ≡ contains (slice_cmp nat_cmp) old.keys q) → HasTaken r l new rows
taken_still r l old new rows h log keys = record { good = h.good; keys = λ q. keys q ∙ h.keys q; log = log }

-- ---- what is answered

pub on_ok : {A E : Type 0} (r : Result A E) (P Q : Type 0) → (P → Q) → OnOk r P → OnOk r Q
on_ok (Ok x) P Q f h = f h
on_ok (Err e) P Q f h = tt

pub on_ok_three : {A E : Type 0} (r : Result A E) (P Q R S : Type 0) → (P → Q → R → S) → OnOk r P → OnOk r Q → OnOk r R → OnOk r S
on_ok_three (Ok x) P Q R S f h k m = f h k m
on_ok_three (Err e) P Q R S f h k m = tt

pub on_err_both : {A E : Type 0} (r : Result A E) (P Q R : Type 0) → (P → Q → R) → OnErr r P → OnErr r Q → OnErr r R
on_err_both (Ok x) P Q R f h k = tt
on_err_both (Err e) P Q R f h k = f h k

-- the entry that was given
pub entry_there : (s : Knows) (row : Values) (pos : ℕ) (o : Option Entry) (e : Entry) → o ≡ Some e → IsEntryOf s row pos o → (picks s row ≡ true) × (e ≡ insert_at 0 pos (keyed s row))
entry_there s row pos o e is h = subst (λ (x : Option Entry). IsEntryOf s row pos x) is h

-- none was given
pub none_there : (s : Knows) (row : Values) (pos : ℕ) (o : Option Entry) → o ≡ None → IsEntryOf s row pos o → picks s row ≡ false
none_there s row pos o is h = subst (λ (x : Option Entry). IsEntryOf s row pos x) is h
