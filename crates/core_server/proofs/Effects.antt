-- What was prepared for a commit tells what the commit does to the shape.
use Rattle.std.proofs.Common.{◌≡◌, ℕ, zero, suc, ◌+◌, ◌-◌, ◌<◌, ◌≤◌, ◌^◌, Bool, true, false, not, ◌||◌, ◌==◌, ◌&&◌, List, [], ◌∷◌, ◌++◌, length, drop, get_or, refl, ap, ap₂, sym, ◌∙◌, subst, arith, append-nil, length-append, true≢false, Option, None, Some}
use Rattle.std.specs.Bool.{if◌then◌else◌}
use Rattle.std.specs.Borrow.{Bor}
use Rattle.std.specs.Prelude.{min, map, nat_lt, is_some, IfSome, slice_get}
use Rattle.std.specs.Option.{option_and_then, option_or, option_copied}
use Rattle.std.proofs.Math.ListN.{drop_of_length-le}
use Rattle.std.specs.List.{sum, AllByRecursion}
use Rattle.std.proofs.lemmas.Bool.Decides.{Decides-eqb, nat_tests}
use Rattle.std.proofs.lemmas.List.{nil_from_length, length-map, map-append, drop_more}
use Rattle.std.proofs.lemmas.List.Sums.{sum_by-append}
use Rattle.shape_base.specs.declared.cause.Cause.{Cause}
use Rattle.shape_base.specs.declared.cause.Cause.TheVariants as causes
use Rattle.shape_base.specs.declared.change.Change.{Change}
use Rattle.shape_base.specs.declared.change.ChangeKind.{ChangeKind}
use Rattle.shape_base.specs.declared.change.Tx.{Tx}
use Rattle.shape_base.specs.declared.definition.TableDef.{TableDef}
use Rattle.shape_base.specs.declared.entry.Entry.{Entry}
use Rattle.shape_base.specs.declared.limits.Limits.{Limits}
use Rattle.shape_base.specs.Tables.{Values, Own, same_def, own_of, own_from, changes_of}
use Rattle.shape_base.specs.Snapshot.{Snapshot}
use Rattle.shape_base.specs.Shape.{Knows, is_truncate, is_bad, old_of, new_of, stops}
use Rattle.shape_json.specs.Body.{capped, entry_text}
use Rattle.shape_json.specs.ShapeHistory.{Reader, ShapeEvent, Snapped, Took, Dropped, ShapeState, Starting, Ready, Gone, snapshot_in, taken, log_after, bytes_of, bad_row, or_else, stop_of, first_stop, log_full, all_full, pending_full, entries_in, bytes_with, last_lsn, drop_by, is_passed, drop_at_commit, drop_at, drop_of, state_by, state_after}
use Rattle.shape_json.proofs.Histories.{drop_next, took_adds}
use Rattle.shape_json.proofs.LawProofs.{stops_have_cause}
use Rattle.shape_state.specs.declared.prepared.Prepared.{Prepared}
use Rattle.shape_state.specs.declared.prepared.Prepared.TheVariants as prepared
use Rattle.shape_state.specs.Standing as shape
use Rattle.shape_state.specs.Answers.{passes, IsPreparedBy, IsPreparedWhere, IsPrepared, log_bytes}
use Rattle.core_law.specs.Situation.{log_by}
use Rattle.core_law.specs.Steps.{stopping_definition, definition_by}
use Rattle.core_server.specs.declared.effect.Effect.{Effect}
use Rattle.core_server.specs.Standing.{Kept, reader_of, reader_in}
use Rattle.core_server.specs.Effects.{cause_of, tells_in, is_changed, other_definition, new_definition, log_in, IsEffect, MayTake, others_of, HasTaken}

-- ---- the definition under which the first change came that stops a shape

not_other : (w : ℕ) (b : Bool) (c : Cause) → is_changed c ≡ false → (if b then Some c else None) ≡ Some (causes.Changed w) → ⊥
not_other w true c e h = let same : c ≡ causes.Changed w = cc in let t : true ≡ false = sym (ap is_changed same) ∙ e in cc
not_other w false c e h = cc

-- a cause among two that is not this one is none of them
neither : (w : ℕ) (a b : Option Cause) → (a ≡ Some (causes.Changed w) → ⊥) → (b ≡ Some (causes.Changed w) → ⊥) → or_else a b ≡ Some (causes.Changed w) → ⊥
neither w None b f g h = g h
neither w (Some c) b f g h = f h

first_one : (w : ℕ) (a b : Option Cause) → (b ≡ Some (causes.Changed w) → ⊥) → or_else a b ≡ Some (causes.Changed w) → a ≡ Some (causes.Changed w)
first_one w None b g h = absurd (g h)
first_one w (Some c) b g h = h

bad_is_not : (r : Reader) (lsn w : ℕ) (row : Option Values) → bad_row r lsn row ≡ Some (causes.Changed w) → ⊥
bad_is_not r lsn w None h = cc
bad_is_not r lsn w (Some row) h = not_other w (is_bad r.knows (Some row)) (causes.BadRow lsn (Rattle.shape_json.specs.ShapeHistory.bad_column r row)) refl h

differs_by : (lsn w : ℕ) (t d : Bool) (bad : Option Cause) → (bad ≡ Some (causes.Changed w) → ⊥) → (if t then Some (causes.Truncated lsn) else if not d then Some (causes.Changed lsn) else bad) ≡ Some (causes.Changed w) → d ≡ false
differs_by lsn w true d bad f h = cc
differs_by lsn w false false bad f h = refl
differs_by lsn w false true bad f h = absurd (f h)

same_by : (lsn : ℕ) (t d : Bool) (bad : Option Cause) → (if t then Some (causes.Truncated lsn) else if not d then Some (causes.Changed lsn) else bad) ≡ None → d ≡ true
same_by lsn true d bad h = cc
same_by lsn false false bad h = cc
same_by lsn false true bad h = refl

-- it differs from the shape's where that is why
differs : (r : Reader) (lsn w : ℕ) (c : Own) → stop_of r lsn c ≡ Some (causes.Changed w) → same_def c.definition r.knows.definition ≡ false
differs r lsn w c h = differs_by lsn w (is_truncate c.kind) (same_def c.definition r.knows.definition) (or_else (bad_row r lsn (old_of c.kind)) (bad_row r lsn (new_of c.kind)))
    (neither w (bad_row r lsn (old_of c.kind)) (bad_row r lsn (new_of c.kind)) (bad_is_not r lsn w (old_of c.kind)) (bad_is_not r lsn w (new_of c.kind))) h

same_one : (r : Reader) (lsn : ℕ) (c : Own) → stop_of r lsn c ≡ None → same_def c.definition r.knows.definition ≡ true
same_one r lsn c h = same_by lsn (is_truncate c.kind) (same_def c.definition r.knows.definition) (or_else (bad_row r lsn (old_of c.kind)) (bad_row r lsn (new_of c.kind))) h

or_false : (a : Bool) → (a || false) ≡ a
or_false true = refl
or_false false = refl

alone : (a : Option Cause) → or_else a None ≡ a
alone None = refl
alone (Some c) = refl

-- a change stops it where it has a cause
stops_is : (r : Reader) (lsn : ℕ) (c : Own) → stops r.knows c ≡ is_some (stop_of r lsn c)
stops_is r lsn c = sym (or_false (stops r.knows c)) ∙ sym (stops_have_cause r lsn (c ∷ [])) ∙ ap is_some (alone (stop_of r lsn c))

pub first_changed : (r : Reader) (lsn w : ℕ) (cs : List Own) → first_stop r lsn cs ≡ Some (causes.Changed w) → other_definition r.knows.definition cs ≡ stopping_definition r.knows cs
first_changed r lsn w [] h = refl
first_changed r lsn w (c ∷ cs) h = pick (stop_of r lsn c) refl h (first_changed r lsn w cs)
  where
    pick : (o : Option Cause) → stop_of r lsn c ≡ o → or_else o (first_stop r lsn cs) ≡ Some (causes.Changed w) → (first_stop r lsn cs ≡ Some (causes.Changed w) → other_definition r.knows.definition cs ≡ stopping_definition r.knows cs)
        → (if same_def c.definition r.knows.definition then other_definition r.knows.definition cs else Some c.definition) ≡ (if stops r.knows c then Some c.definition else stopping_definition r.knows cs)
    pick None e h rest = ap (λ (b : Bool). if b then other_definition r.knows.definition cs else Some c.definition) (same_one r lsn c e) ∙ rest h
        ∙ ap (λ (b : Bool). if b then Some c.definition else stopping_definition r.knows cs) (sym (stops_is r lsn c ∙ ap is_some e))
    pick (Some x) e h rest = ap (λ (b : Bool). if b then other_definition r.knows.definition cs else Some c.definition) (differs r lsn w c (e ∙ h))
        ∙ ap (λ (b : Bool). if b then Some c.definition else stopping_definition r.knows cs) (sym (stops_is r lsn c ∙ ap is_some e))

-- why a commit drops a shape for another definition
changed_stop_by : (r : Reader) (l : Limits) (s : Option Snapshot) (events : List ShapeEvent) (tx : Tx) (others w : ℕ) → drop_at_commit r l s events tx others ≡ Some (causes.Changed w) → first_stop r tx.lsn (changes_of r.knows.definition.table tx) ≡ Some (causes.Changed w)
changed_stop_by r l None events tx others w h = absurd (not_other w (nat_lt l.pending (Rattle.shape_json.specs.ShapeHistory.pending_bytes (taken events) + tx.bytes)) _ refl h)
changed_stop_by r l (Some x) events tx others w h = pick (is_passed x (taken events) tx) h
  where
    stop : Option Cause
    stop = first_stop r tx.lsn (changes_of r.knows.definition.table tx)

    bytes : ℕ
    bytes = bytes_with r.knows (bytes_of (log_after r.knows x events)) tx

    pick : (b : Bool) → (if b then None else or_else (drop_by r l (bytes_of (log_after r.knows x events)) tx) (all_full l (bytes + others))) ≡ Some (causes.Changed w) → stop ≡ Some (causes.Changed w)
    pick true h = cc
    pick false h = first_one w stop (log_full l bytes) (not_other w (nat_lt l.log bytes) (causes.LogFull (capped bytes) l.log) refl)
        (first_one w (drop_by r l (bytes_of (log_after r.knows x events)) tx) (all_full l (bytes + others)) (not_other w (nat_lt l.all (bytes + others)) (causes.AllLogsFull (capped (bytes + others)) l.all) refl) h)

-- the new definition is the one of the definitions of a commit
pub definition_is : (r : Reader) (l : Limits) (events : List ShapeEvent) (tx : Tx) (others : ℕ) (c : Option Cause) → drop_at r l events (Took tx others) ≡ c → new_definition r.knows.definition tx c ≡ option_and_then (definition_by r.knows tx) c
definition_is r l events tx others None h = refl
definition_is r l events tx others (Some (causes.Changed w)) h = first_changed r tx.lsn w (changes_of r.knows.definition.table tx) (changed_stop_by r l (snapshot_in events) events tx others w h)
definition_is r l events tx others (Some (causes.Truncated w)) h = refl
definition_is r l events tx others (Some causes.Deleted) h = refl
definition_is r l events tx others (Some (causes.LogFull bytes limit)) h = refl
definition_is r l events tx others (Some (causes.AllLogsFull bytes limit)) h = refl
definition_is r l events tx others (Some (causes.PendingFull bytes limit)) h = refl
definition_is r l events tx others (Some (causes.BadRow lsn column)) h = refl
definition_is r l events tx others (Some causes.SnapshotFailed) h = refl
definition_is r l events tx others (Some causes.NoMemory) h = refl

-- ---- what was prepared

prepared_now : (r : Reader) (l : Limits) (events : List ShapeEvent) (tx : Tx) (others : ℕ) (p : Prepared) → drop_of r l events ≡ None → IsPrepared r l events tx others p → IsPreparedBy r l events tx others p
prepared_now r l events tx others p none h = subst (λ (o : Option Cause). IsPreparedWhere o r l events tx others p) none h

skipped : (r : Reader) (l : Limits) (s : Option Snapshot) (events : List ShapeEvent) (tx : Tx) (others : ℕ) → passes s events tx ≡ true → drop_at_commit r l s events tx others ≡ None
skipped r l None events tx others h = cc
skipped r l (Some x) events tx others h = ap (λ (b : Bool). if b then None else or_else (drop_by r l (bytes_of (log_after r.knows x events)) tx) (all_full l (bytes_with r.knows (bytes_of (log_after r.knows x events)) tx + others))) h

-- it has the cause that the history has
pub cause_at : (r : Reader) (l : Limits) (events : List ShapeEvent) (tx : Tx) (others : ℕ) (p : Prepared) → IsPreparedBy r l events tx others p → drop_at r l events (Took tx others) ≡ cause_of p
cause_at r l events tx others prepared.Skip h = skipped r l (snapshot_in events) events tx others h
cause_at r l events tx others (prepared.Buffer copy) h = h.1
cause_at r l events tx others (prepared.Append written) h = h.0.none
cause_at r l events tx others (prepared.Drop cause) h = h

module _ (r : Reader) (l : Limits) (events : List ShapeEvent) (tx : Tx) (others : ℕ) (none : drop_of r l events ≡ None) where
  -- the events with the commit
  abbrev later : List ShapeEvent
  later = events ++ Took tx others ∷ []

  drop_later : drop_of r l later ≡ drop_at r l events (Took tx others)
  drop_later = drop_next r l events (Took tx others) ∙ ap (λ (x : Option Cause). or_else x (drop_at r l events (Took tx others))) none

  snapshot_later : (es : List ShapeEvent) → snapshot_in (es ++ Took tx others ∷ []) ≡ snapshot_in es
  snapshot_later [] = refl
  snapshot_later (Snapped s ∷ es) = refl
  snapshot_later (Took t b ∷ es) = snapshot_later es
  snapshot_later (Dropped c ∷ es) = snapshot_later es

  -- the log with a commit that does not drop the shape
  log_later : (x : Snapshot) (b : Bool) → snapshot_in events ≡ Some x → is_passed x (taken events) tx ≡ b → drop_at r l events (Took tx others) ≡ None → log_after r.knows x later ≡ log_after r.knows x events ++ (if b then [] else entries_in r.knows tx)
  log_later x b came passed stays = took_adds r l x events tx others came (drop_later ∙ stays) ∙ ap (λ (p : Bool). log_after r.knows x events ++ (if p then [] else entries_in r.knows tx)) passed

  -- its log, by its snapshot
  in_log : (s : Option Snapshot) (es : List ShapeEvent) → snapshot_in es ≡ s → log_in r es ≡ log_by r s es
  in_log s es e = ap (λ s. log_by r s es) e

  -- its bytes
  bytes_now : (s : Option Snapshot) (es : List ShapeEvent) → drop_of r l es ≡ None → snapshot_in es ≡ s → log_bytes (state_after r l es) ≡ log_bytes (state_by r None s es)
  bytes_now s es e f = ap₂ (λ o s. log_bytes (state_by r o s es)) e f

  passed_of : (s : Option Snapshot) → passes s events tx ≡ true → {P : Type 0} → ((x : Snapshot) → s ≡ Some x → is_passed x (taken events) tx ≡ true → P) → P
  passed_of None h go = cc
  passed_of (Some x) h go = go x refl h

  zero_by : (n : ℕ) → not (n == 0) ≡ false → n ≡ 0
  zero_by n h = pick (n == 0) refl h
    where
      pick : (b : Bool) → (n == 0) ≡ b → not b ≡ false → n ≡ 0
      pick true e h = (Decides-eqb n 0).0 e
      pick false e h = cc

  empty_by : (entries : List Entry) (texts : List (List ℕ)) → texts ≡ map entry_text entries → not (length texts == 0) ≡ false → entries ≡ []
  empty_by entries texts e h = nil_from_length entries (sym (ap length e ∙ length-map entries entry_text) ∙ zero_by (length texts) h)

  -- where nothing is told the log is as it was
  log_stays : (p : Prepared) → IsPreparedBy r l events tx others p → tells_in p ≡ false → log_in r later ≡ log_in r events
  log_stays prepared.Skip h quiet = passed_of (snapshot_in events) h (λ x came passed. in_log (Some x) later (snapshot_later events ∙ came)
      ∙ log_later x true came passed (cause_at r l events tx others prepared.Skip h) ∙ append-nil (log_after r.knows x events) ∙ sym (in_log (Some x) events came))
  log_stays (prepared.Buffer copy) h quiet = in_log None later (snapshot_later events ∙ h.0) ∙ sym (in_log None events h.0)
  log_stays (prepared.Append written) h quiet = let x = h.0.snapshot in in_log (Some x) later (snapshot_later events ∙ h.0.came)
      ∙ log_later x false h.0.came h.0.not_passed h.0.none
      ∙ ap (λ (es : List Entry). log_after r.knows x events ++ es) (empty_by (entries_in r.knows tx) written.texts h.1.texts quiet) ∙ append-nil (log_after r.knows x events) ∙ sym (in_log (Some x) events h.0.came)
  log_stays (prepared.Drop cause) h quiet = cc

  -- where something is told of a shape that is not dropped, its log has grown
  log_grows : (p : Prepared) → IsPreparedBy r l events tx others p → tells_in p ≡ true → drop_at r l events (Took tx others) ≡ None → log_in r later ≡ log_in r events → ⊥
  log_grows prepared.Skip h loud stays same = cc
  log_grows (prepared.Buffer copy) h loud stays same = cc
  log_grows (prepared.Append written) h loud stays same = let x = h.0.snapshot in
      let a : log_in r later ≡ log_after r.knows x events ++ entries_in r.knows tx = in_log (Some x) later (snapshot_later events ∙ h.0.came) ∙ log_later x false h.0.came h.0.not_passed h.0.none in
      let b : log_in r events ≡ log_after r.knows x events = in_log (Some x) events h.0.came in
      let n : length (log_after r.knows x events) + length (entries_in r.knows tx) ≡ length (log_after r.knows x events) = sym (length-append (log_after r.knows x events) (entries_in r.knows tx)) ∙ ap length (sym a ∙ same ∙ b) in
      let t : length written.texts ≡ length (entries_in r.knows tx) = ap length h.1.texts ∙ length-map (entries_in r.knows tx) entry_text in
      let z : length written.texts ≡ 0 = omega (arith, n, t) in
      true≢false (sym loud ∙ ap not ((Decides-eqb (length written.texts) 0).1 z))
  log_grows (prepared.Drop cause) h loud stays same = never (sym stays ∙ h)
    where
      never : ◌≡◌ {A = Option Cause} None (Some cause) → ⊥
      never e = cc

  -- and the shape is not dropped
  stays_quiet : (p : Prepared) → tells_in p ≡ false → cause_of p ≡ None
  stays_quiet prepared.Skip quiet = refl
  stays_quiet (prepared.Buffer copy) quiet = refl
  stays_quiet (prepared.Append written) quiet = refl
  stays_quiet (prepared.Drop cause) quiet = cc

  bytes_more : (es fs : List Entry) → bytes_of (es ++ fs) ≡ bytes_of es + bytes_of fs
  bytes_more es fs = ap sum (map-append (λ (e : Entry). length (entry_text e)) es fs) ∙ sum_by-append (λ x. x) (map (λ (e : Entry). length (entry_text e)) es) (map (λ (e : Entry). length (entry_text e)) fs)

  nothing_else : (a b : Option Cause) → or_else a b ≡ None → b ≡ None
  nothing_else None b h = h
  nothing_else (Some c) b h = cc

  within_all : (bytes : ℕ) → all_full l bytes ≡ None → bytes ≤ l.all
  within_all bytes h = pick (nat_lt l.all bytes) refl h
    where
      pick : (b : Bool) → nat_lt l.all bytes ≡ b → (if b then Some (causes.AllLogsFull (capped bytes) l.all) else None) ≡ None → bytes ≤ l.all
      pick true e h = cc
      pick false e h = grind (arith, nat_tests, e)

  all_within : (x : Snapshot) → snapshot_in events ≡ Some x → is_passed x (taken events) tx ≡ false → drop_at r l events (Took tx others) ≡ None → bytes_with r.knows (bytes_of (log_after r.knows x events)) tx + others ≤ l.all
  all_within x came not_passed stays = within_all (bytes_with r.knows (bytes_of (log_after r.knows x events)) tx + others)
      (nothing_else (drop_by r l (bytes_of (log_after r.knows x events)) tx) (all_full l (bytes_with r.knows (bytes_of (log_after r.knows x events)) tx + others))
      (sym (ap (λ (s : Option Snapshot). drop_at_commit r l s events tx others) came ∙ ap (λ (b : Bool). if b then None else or_else (drop_by r l (bytes_of (log_after r.knows x events)) tx) (all_full l (bytes_with r.knows (bytes_of (log_after r.knows x events)) tx + others))) not_passed) ∙ stays))

  -- the bytes of all logs have 64 bits
  fits : (p : Prepared) → IsPreparedBy r l events tx others p → others + log_bytes (state_after r l events) < 2 ^ 64 → others + log_bytes (state_after r l later) < 2 ^ 64
  fits prepared.Skip h small = passed_of (snapshot_in events) h (λ x came passed.
      let stays = cause_at r l events tx others prepared.Skip h in
      let a = bytes_now (Some x) later (drop_later ∙ stays) (snapshot_later events ∙ came) in
      let b : bytes_of (log_after r.knows x later) ≡ bytes_of (log_after r.knows x events) = ap bytes_of (log_later x true came passed stays ∙ append-nil (log_after r.knows x events)) in
      let c = bytes_now (Some x) events none came in
      omega (arith, a, b, c, small))
  fits (prepared.Buffer copy) h small = let a = bytes_now None later (drop_later ∙ h.1) (snapshot_later events ∙ h.0) in omega (arith, a, small)
  fits (prepared.Append written) h small = let x = h.0.snapshot in
      let a = bytes_now (Some x) later (drop_later ∙ h.0.none) (snapshot_later events ∙ h.0.came) in
      let b : bytes_of (log_after r.knows x later) ≡ bytes_of (log_after r.knows x events ++ entries_in r.knows tx) = ap bytes_of (log_later x false h.0.came h.0.not_passed h.0.none) in
      let c = bytes_more (log_after r.knows x events) (entries_in r.knows tx) in
      let d = all_within x h.0.came h.0.not_passed h.0.none in
      let e : l.all < 2 ^ 63 = l.all_fit in
      omega (arith, a, b, c, d, e)
  fits (prepared.Drop cause) h small = let a : log_bytes (state_after r l later) ≡ 0 = ap (λ o. log_bytes (state_by r o (snapshot_in later) later)) (drop_later ∙ h) in omega (arith, a, small)

  pub effect_is : (p : Prepared) (e : Effect) → IsPrepared r l events tx others p → others + log_bytes (state_after r l events) < 2 ^ 64
      → e.cause ≡ cause_of p → e.definition ≡ new_definition r.knows.definition tx (cause_of p) → e.tells ≡ tells_in p → e.total ≡ min (others + log_bytes (state_after r l later)) (2 ^ 64 - 1) → IsEffect r l events tx others e
  effect_is p e prep small cause definition tells total = let by = prepared_now r l events tx others p none prep in let at = cause_at r l events tx others p by in record {
    cause = cause ∙ sym (drop_later ∙ at);
    definition = definition ∙ definition_is r l events tx others (cause_of p) at ∙ ap (option_and_then (definition_by r.knows tx)) (sym (drop_later ∙ at));
    total = let f = fits p by small in omega (arith, total, f);
    quiet = λ q. log_stays p by (sym tells ∙ q);
    loud = λ q stays same. log_grows p by (sym tells ∙ q) (sym drop_later ∙ stays) same;
    lives = λ q. drop_later ∙ at ∙ stays_quiet p (sym tells ∙ q);
  }

-- ---- a definition of a commit

stopping_all : (P : TableDef → Type 0) (k : Knows) (t : ℕ) (defs : List TableDef) (j : ℕ) (cs : List Change) → ((i : ℕ) → IfSome (slice_get defs i) P) → IfSome (stopping_definition k (own_from t defs j cs)) P
stopping_all P k t defs j [] h = tt
stopping_all P k t defs j (c ∷ cs) h = pick (slice_get defs c.def) (h c.def) (stopping_all P k t defs (j + 1) cs h)
  where
    one : (e : TableDef) (b : Bool) → P e → IfSome (stopping_definition k (own_from t defs (j + 1) cs)) P → IfSome (if b then Some e else stopping_definition k (own_from t defs (j + 1) cs)) P
    one e true p h = p
    one e false p h = h

    some : (e : TableDef) (b : Bool) → P e → IfSome (stopping_definition k (own_from t defs (j + 1) cs)) P
        → IfSome (stopping_definition k (if b then record { number = j; definition = e; kind = c.kind } ∷ own_from t defs (j + 1) cs else own_from t defs (j + 1) cs)) P
    some e true p h = one e (stops k (record { number = j; definition = e; kind = c.kind })) p h
    some e false p h = h

    pick : (o : Option TableDef) → IfSome o P → IfSome (stopping_definition k (own_from t defs (j + 1) cs)) P → IfSome (stopping_definition k (own_of t j c.kind o (own_from t defs (j + 1) cs))) P
    pick None p h = h
    pick (Some e) p h = some e (e.table == t) p h

all_at : (P : TableDef → Type 0) (defs : List TableDef) (i : ℕ) → AllByRecursion P defs → IfSome (slice_get defs i) P
all_at P [] i h = tt
all_at P (d ∷ ds) zero h = h.0
all_at P (d ∷ ds) (suc i) h = all_at P ds i h.1

-- the new definition is one of the commit's
pub definition_all : (P : TableDef → Type 0) (k : Knows) (tx : Tx) (c : Option Cause) → AllByRecursion P tx.defs → IfSome (option_and_then (definition_by k tx) c) P
definition_all P k tx None h = tt
definition_all P k tx (Some (causes.Changed w)) h = stopping_all P k k.definition.table tx.defs 0 tx.changes (λ i. all_at P tx.defs i h)
definition_all P k tx (Some (causes.Truncated w)) h = tt
definition_all P k tx (Some causes.Deleted) h = tt
definition_all P k tx (Some (causes.LogFull bytes limit)) h = tt
definition_all P k tx (Some (causes.AllLogsFull bytes limit)) h = tt
definition_all P k tx (Some (causes.PendingFull bytes limit)) h = tt
definition_all P k tx (Some (causes.BadRow lsn column)) h = tt
definition_all P k tx (Some causes.SnapshotFailed) h = tt
definition_all P k tx (Some causes.NoMemory) h = tt

-- ---- the first one that is another

other_if : (d e : TableDef) (q : Bool) → (if not q then Some e else None) ≡ (if q then None else Some e)
other_if d e true = refl
other_if d e false = refl

-- of one change
pub other_here : (d e : TableDef) (j : ℕ) (kind : ChangeKind) → (if (e.table == d.table) && not (same_def e d) then Some e else None) ≡ other_definition d (own_of d.table j kind (Some e) [])
other_here d e j kind = pick (e.table == d.table)
  where
    pick : (p : Bool) → (if p && not (same_def e d) then Some e else None) ≡ other_definition d (if p then record { number = j; definition = e; kind = kind } ∷ [] else [])
    pick true = other_if d e (same_def e d)
    pick false = refl

other_split : (d : TableDef) (j : ℕ) (kind : ChangeKind) (o : Option TableDef) (rest : List Own) → other_definition d (own_of d.table j kind o rest) ≡ option_or (other_definition d (own_of d.table j kind o [])) (other_definition d rest)
other_split d j kind None rest = refl
other_split d j kind (Some e) rest = pick (e.table == d.table)
  where
    one : (q : Bool) → (if q then other_definition d rest else Some e) ≡ option_or (if q then None else Some e) (other_definition d rest)
    one true = refl
    one false = refl

    pick : (p : Bool) → other_definition d (if p then record { number = j; definition = e; kind = kind } ∷ rest else rest) ≡ option_or (other_definition d (if p then record { number = j; definition = e; kind = kind } ∷ [] else [])) (other_definition d rest)
    pick true = one (same_def e d)
    pick false = refl

-- no change so far came under another one
pub record OthersOn (d : TableDef) (tx : Tx) (j : ℕ) : Type 0 where
  pub rest : other_definition d (own_from d.table tx.defs j (drop j tx.changes)) ≡ other_definition d (changes_of d.table tx)

cut : (d : TableDef) (tx : Tx) (j : ℕ) (c : Change) → j < length tx.changes → c ≡ get_or tx.changes j c → OthersOn d tx j
    → option_or (other_definition d (own_of d.table j c.kind (slice_get tx.defs c.def) [])) (other_definition d (own_from d.table tx.defs (j + 1) (drop (j + 1) tx.changes))) ≡ other_definition d (changes_of d.table tx)
cut d tx j c lt is on = sym (other_split d j c.kind (slice_get tx.defs c.def) (own_from d.table tx.defs (j + 1) (drop (j + 1) tx.changes)))
    ∙ ap (λ (cs : List Change). other_definition d (own_from d.table tx.defs j cs)) (sym (drop_more tx.changes j c lt ∙ ap (λ (x : Change). x ∷ drop (j + 1) tx.changes) (sym is)))
    ∙ on.rest

pub others_more : (d : TableDef) (tx : Tx) (j : ℕ) (c : Change) (found : Option TableDef) → j < length tx.changes → c ≡ get_or tx.changes j c → OthersOn d tx j
    → found ≡ other_definition d (own_of d.table j c.kind (slice_get tx.defs c.def) []) → is_some found ≡ false → OthersOn d tx (j + 1)
others_more d tx j c None lt is on e none = record { rest = ap (λ a. option_or a (other_definition d (own_from d.table tx.defs (j + 1) (drop (j + 1) tx.changes)))) e ∙ cut d tx j c lt is on }
others_more d tx j c (Some x) lt is on e none = cc

pub other_found : (d : TableDef) (tx : Tx) (j : ℕ) (c : Change) (found : Option TableDef) → j < length tx.changes → c ≡ get_or tx.changes j c → OthersOn d tx j
    → found ≡ other_definition d (own_of d.table j c.kind (slice_get tx.defs c.def) []) → is_some found ≡ true → found ≡ other_definition d (changes_of d.table tx)
other_found d tx j c None lt is on e some = cc
other_found d tx j c (Some x) lt is on e some = ap (λ a. option_or a (other_definition d (own_from d.table tx.defs (j + 1) (drop (j + 1) tx.changes)))) e ∙ cut d tx j c lt is on

pub some_copied : (r : Option (Bor TableDef)) → is_some (option_copied r) ≡ is_some r
some_copied None = refl
some_copied (Some x) = refl

pub none_other : (d : TableDef) (tx : Tx) (j : ℕ) → length tx.changes ≤ j → OthersOn d tx j → None ≡ other_definition d (changes_of d.table tx)
none_other d tx j le on = ap (λ (cs : List Change). other_definition d (own_from d.table tx.defs j cs)) (sym (drop_of_length-le tx.changes le)) ∙ on.rest

-- ---- a shape that takes a commit

-- what its calls say, from a shape to the one where the commit was prepared and to the one that has it
pub record TakesIt (k k1 k2 : Kept) (tx : Tx) (total before others bytes : ℕ) (p : Prepared) : Type 0 where
  pub before_is : (events : List ShapeEvent) → shape.Stands (reader_in k) k.state events → before ≡ log_bytes (state_after (reader_in k) k.state.limits events)
  pub others_is : others ≡ total - before
  pub prepares : (events : List ShapeEvent) → shape.Stands (reader_in k) k.state events → IsPrepared (reader_in k) k.state.limits events tx others p
  pub still : (events : List ShapeEvent) → shape.Stands (reader_in k) k.state events → shape.Stands (reader_in k) k1.state events
  pub test : k1.emitter.test ≡ k.emitter.test
  pub limits : k1.state.limits ≡ k.state.limits
  pub commits : (events : List ShapeEvent) → shape.Stands (reader_in k1) k1.state events → last_lsn events < tx.lsn → IsPrepared (reader_in k1) k1.state.limits events tx others p
      → shape.Stands (reader_in k1) k2.state (shape.after (reader_in k1) k1.state.limits events (Took tx others))
  pub test_then : k2.emitter.test ≡ k1.emitter.test
  pub limits_then : k2.state.limits ≡ k1.state.limits
  pub bytes_is : (events : List ShapeEvent) → shape.Stands (reader_in k2) k2.state events → bytes ≡ log_bytes (state_after (reader_in k2) k2.state.limits events)

module _ (k k1 k2 : Kept) (tx : Tx) (total before others bytes : ℕ) (p : Prepared) (t : TakesIt k k1 k2 tx total before others bytes p) (events : List ShapeEvent) (m : MayTake k events tx total) where
  same_reader : reader_in k1 ≡ reader_in k
  same_reader = ap reader_of t.test

  others_then : others ≡ others_of k events total
  others_then = let a = t.others_is in let b = t.before_is events m.stands in omega (arith, a, b)

  prepared_here : IsPrepared (reader_in k) k.state.limits events tx others p
  prepared_here = t.prepares events m.stands

  prepared_then : IsPrepared (reader_in k1) k1.state.limits events tx others p
  prepared_then = subst (λ r. IsPrepared r k1.state.limits events tx others p) (sym same_reader) (subst (λ l. IsPrepared (reader_in k) l events tx others p) (sym t.limits) prepared_here)

  stands_then : shape.Stands (reader_in k) k2.state (events ++ Took tx others ∷ [])
  stands_then = subst (λ es. shape.Stands (reader_in k) k2.state es) (ap (λ (c : Option Cause). shape.with_event c events (Took tx others)) m.lives)
      (subst (λ l. shape.Stands (reader_in k) k2.state (shape.after (reader_in k) l events (Took tx others))) t.limits
      (subst (λ r. shape.Stands r k2.state (shape.after r k1.state.limits events (Took tx others))) same_reader
      (t.commits events (subst (λ r. shape.Stands r k1.state events) (sym same_reader) (t.still events m.stands)) m.later prepared_then)))

  bytes_then : bytes ≡ log_bytes (state_after (reader_in k) k.state.limits (events ++ Took tx others ∷ []))
  bytes_then = t.bytes_is (events ++ Took tx others ∷ []) (subst (λ r. shape.Stands r k2.state (events ++ Took tx others ∷ [])) (sym (ap reader_of t.test_then ∙ same_reader)) stands_then)
      ∙ ap (λ r. log_bytes (state_after r k2.state.limits (events ++ Took tx others ∷ []))) (ap reader_of t.test_then ∙ same_reader)
      ∙ ap (λ l. log_bytes (state_after (reader_in k) l (events ++ Took tx others ∷ []))) (t.limits_then ∙ t.limits)

  abbrev HasTakenBy : Effect → ℕ → Type 0
  HasTakenBy e n = IsEffect (reader_in k) k.state.limits events tx n e × shape.Stands (reader_in k) k2.state (events ++ Took tx n ∷ [])

  pub has_taken : (e : Effect) → total < 2 ^ 64 → e.cause ≡ cause_of p → e.definition ≡ new_definition (reader_in k).knows.definition tx (cause_of p) → e.tells ≡ tells_in p → e.total ≡ min (others + bytes) (2 ^ 64 - 1) → HasTaken k k2 events tx total e
  has_taken e small cause definition tells sum_is = let both : HasTakenBy e (others_of k events total) = subst (HasTakenBy e) others_then (
    effect_is (reader_in k) k.state.limits events tx others m.lives p e prepared_here
        (let a = others_then in let b = m.among in omega (arith, a, b, small)) cause definition tells (sum_is ∙ ap (λ n. min (others + n) (2 ^ 64 - 1)) bytes_then),
    stands_then,
  ) in record { effect = both.0; stands = both.1 }
