-- The answers of a server are those of the world that its last state tells.
use Rattle.std.proofs.Common.{◌≡◌, ℕ, zero, suc, ◌≤◌, ◌<◌, Bool, true, false, not, ◌&&◌, ◌||◌, List, [], ◌∷◌, ◌++◌, length, map, take, drop, refl, sym, ◌∙◌, ap, subst, arith, length-append, Option, None, Some}
use Rattle.std.specs.Bool.{if◌then◌else◌}
use Rattle.std.specs.List.{slice_get}
use Rattle.std.specs.Option.{option_map}
use Rattle.std.proofs.lemmas.Bool.{and_parts}
use Rattle.std.proofs.lemmas.List.{take-take, take_at, take-append-drop}
use Rattle.shape_base.specs.declared.ask.Ask.{Ask}
use Rattle.shape_base.specs.declared.ask.Named.{Named}
use Rattle.shape_base.specs.declared.ask.Named.TheVariants.{Absent, Known, Strange}
use Rattle.shape_base.specs.declared.change.Tx.{Tx}
use Rattle.shape_base.specs.declared.entry.Entry.{Entry}
use Rattle.shape_base.specs.declared.handle.Handle.{Handle}
use Rattle.shape_base.specs.declared.history.History.{History}
use Rattle.shape_base.specs.declared.offset.Offset.TheVariants.{Start}
use Rattle.shape_base.specs.declared.registry_event.RegistryEvent.{RegistryEvent}
use Rattle.shape_base.specs.Tables.{commits_of}
use Rattle.shape_base.specs.Transactions.{meaning}
use Rattle.shape_base.specs.Visibility.{Visibility, is_visible}
use Rattle.shape_base.specs.Snapshot.{Snapshot, is_tx_visible, shows_last}
use Rattle.shape_base.specs.Log.{log_of, end_of}
use Rattle.shape_base.specs.Offsets.{is_before, past}
use Rattle.shape_base.specs.RegistryHistory.{had_ready, was_removed, was_registered_under, is_live_under, is_live_handle, ready_under, live_under}
use Rattle.shape_base.proofs.Lemmas.{had_ready-append, drop_alike, take_alike, length_alike}
use Rattle.shape_json.specs.Page.{page_of}
use Rattle.shape_json.specs.Answer as answers
use Rattle.shape_json.specs.Answer.{Answer, Paged, Gone, OffsetAhead, NotYet, Starting, Unregistered, in_run, is_empty, answer_ready, answer_first, answer_named, answer_of, gone}
use Rattle.shape_json.specs.ShapeHistory.{Reader, snapshot_in}
use Rattle.shape_json.proofs.Lemmas.{pages_are_asked}
use Rattle.shape_json.proofs.LawProofs.{log_is_of}
use Rattle.http_edge.specs.Schema.{schema_text}
use Rattle.http_edge.specs.World.{Kept, Given, log_kept, log_at, situation, schema_at}
use Rattle.http_edge.specs.Lawful.{reply_of}
use Rattle.core_law.specs.Situation.{Options, Shape, Server, shape_at, log_by, log_of_shape, answers_from, kept_by, kept_of, world_of, known_of}
use Rattle.core_law.specs.Steps.{id_before, stale_by}
use Rattle.core_law.specs.Laws.{IsHonestShape, IsTold}
use Rattle.core_law.proofs.Server.{Alike, Sound, Extends}
use Rattle.core_law.proofs.ServerSteps.{id_stays}

-- ---- a ready number of an earlier server, in the last one

record Stands (z : Server) (n : ℕ) (x : Shape) (snap : Snapshot) : Type 0 where
  now : Shape
  there : shape_at z.shapes n ≡ Some now
  alike : Alike x now
  snapshot : snapshot_in now.events ≡ Some snap

stands : (v z : Server) (n : ℕ) (x : Shape) (snap : Snapshot) → Extends v z → shape_at v.shapes n ≡ Some x → snapshot_in x.events ≡ Some snap → Stands z n x snap
stands v z n x snap on at is = let g = on.shapes n x at in record { now = g.now; there = g.there; alike = g.alike; snapshot = g.alike.snapshot snap is }

kept_is : (step : ℕ) (z : Server) (n : ℕ) (x : Shape) (snap : Snapshot) → Stands z n x snap → kept_of step (shape_at z.shapes n) ≡ Some (record { knows = x.reader.knows; snapshot = snap.rows; step = step })
kept_is step z n x snap s = ap (kept_of step) s.there ∙ ap (kept_by s.now.reader step) s.snapshot ∙ ap (λ (r : Reader). kept_by r step (Some snap)) s.alike.reader

or_first : (a b : Bool) → a ≡ true → (a || b) ≡ true
or_first true b h = refl
or_first false b h = cc

pub still_ready : (v z : Server) (n : ℕ) → Extends v z → had_ready v.registry n ≡ true → had_ready z.registry n ≡ true
still_ready v z n on h = ap (λ es. had_ready es n) on.registry ∙ had_ready-append v.registry on.events n ∙ or_first (had_ready v.registry n) (had_ready on.events n) h

honest_at : (o : Options) (h : History) (step : ℕ → ℕ) (z : Server) (n : ℕ) (x : Shape) (snap : Snapshot) → IsTold o h step z → had_ready z.registry n ≡ true → Stands z n x snap → IsHonestShape h (step n) x snap
honest_at o h step z n x snap told ready s = let is = told.honest n s.now snap ready s.there s.snapshot in record {
  honest = subst (λ (r : Reader). Rattle.shape_base.specs.Snapshot.IsHonest h r.knows.definition.table snap (step n) x.before) s.alike.reader
      (subst (λ m. Rattle.shape_base.specs.Snapshot.IsHonest h s.now.reader.knows.definition.table snap (step n) m) s.alike.before is.honest);
  offsets = λ m. subst (λ (r : Reader). Rattle.shape_json.specs.Reading.HaveOffsets (log_of h r.knows snap.rows (step n) m)) s.alike.reader (is.offsets m);
}

-- ---- commits

front_is : (v z : Server) (all : List Tx) → Extends v z → map meaning (take (length z.commits) all) ≡ map meaning z.commits → map meaning (take (length v.commits) all) ≡ map meaning v.commits
front_is v z all on shows =
    let le : length v.commits ≤ length z.commits = let e = ap length on.commits ∙ length-append v.commits on.txs in omega (arith, e) in
    ap (map meaning) (sym (take-take (length v.commits) (length z.commits) all le)) ∙ take_alike (length v.commits) (take (length z.commits) all) z.commits shows
    ∙ ap (λ txs. map meaning (take (length v.commits) txs)) on.commits ∙ ap (map meaning) (take_at v.commits on.txs (length v.commits) refl)

abbrev xid_of : Tx → ℕ
xid_of tx = tx.xid

id_alike : (xs ys : List Tx) (n : ℕ) → map meaning xs ≡ map meaning ys → id_before xs n ≡ id_before ys n
id_alike xs ys zero e = refl
id_alike [] [] (suc n) e = refl
id_alike [] (b ∷ ys) (suc n) e = cc
id_alike (a ∷ xs) [] (suc n) e = cc
id_alike (a ∷ xs) (b ∷ ys) (suc zero) e = let m : meaning a ≡ meaning b = cc in ap (λ (x : ℕ). Some x) (ap (λ x. x.0.1) m)
id_alike (a ∷ xs) (b ∷ ys) (suc (suc n)) e = let rest : map meaning xs ≡ map meaning ys = cc in id_alike xs ys (suc n) rest

visible_if : (v : Visibility) (tx : Tx) (b : Bool) (code : Rattle.http_edge.specs.declared.error_code.ErrorCode.ErrorCode) → is_visible v tx.xid ≡ b → (if b then None else Some code) ≡ None → is_visible v tx.xid ≡ true
visible_if v tx true code e h = e
visible_if v tx false code e h = cc

shown_one : (v : Visibility) (tx : Option Tx) → stale_by v (option_map xid_of tx) ≡ None → Rattle.std.specs.Prelude.is_some tx ≡ true → is_tx_visible v tx ≡ true
shown_one v None h k = cc
shown_one v (Some tx) h k = visible_if v tx (is_visible v tx.xid) _ refl h

some_within : {A : Type 0} (xs : List A) (n : ℕ) → n < length xs → Rattle.std.specs.Prelude.is_some (slice_get xs n) ≡ true
some_within [] n h = absurd (omega (arith, h))
some_within (x ∷ xs) zero h = refl
some_within (x ∷ xs) (suc n) h = some_within xs n (omega (arith, h))

shows_by : (h : History) (v : Visibility) (q : ℕ) → q ≤ length (commits_of h.steps) → stale_by v (id_before (commits_of h.steps) q) ≡ None → shows_last h v q ≡ true
shows_by h v zero le fresh = refl
shows_by h v (suc n) le fresh = shown_one v (slice_get (commits_of h.steps) n) fresh (some_within (commits_of h.steps) n (omega (arith, le)))

last_shown : (h : History) (txs : List Tx) (v : Visibility) (q : ℕ) → map meaning (take (length txs) (commits_of h.steps)) ≡ map meaning txs → q ≤ length txs → stale_by v (id_before txs q) ≡ None → shows_last h v q ≡ true
last_shown h txs v q front le fresh =
    let all = commits_of h.steps in
    let first = take (length txs) (commits_of h.steps) in
    let less : q ≤ length (take (length txs) (commits_of h.steps)) = let e = length_alike (take (length txs) (commits_of h.steps)) txs front in omega (arith, e, le) in
    let whole : first ++ drop (length txs) all ≡ all = take-append-drop (length txs) all in
    let some : q ≤ length (commits_of h.steps) = let e = sym (ap length whole) ∙ length-append first (drop (length txs) all) in omega (arith, e, less) in
    shows_by h v q some (ap (stale_by v) (ap (λ xs. id_before xs q) (sym whole) ∙ id_stays first (drop (length txs) all) q less ∙ id_alike first txs q front) ∙ fresh)

-- The log of a live shape after its events is the log of the history up to the commits shown so far.
pub log_is : (o : Options) (h : History) (step : ℕ → ℕ) (v z : Server) (n : ℕ) → IsTold o h step z → Sound o v → Extends v z → had_ready v.registry n ≡ true → was_removed v.registry n ≡ false
    → log_of_shape (shape_at v.shapes n) ≡ log_at (world_of o h step z) n (length v.commits)
log_is o h step v z n told sound on ready live =
    let st = sound.ready n ready in
    let x = st.shape in
    let snap = st.snapshot in
    let is = sound.shapes n st.shape st.at in
    let s = stands v z n st.shape st.snapshot on st.at st.is in
    let front = front_is v z (commits_of h.steps) on told.shows in
    let honest = honest_at o h step z n st.shape st.snapshot told (still_ready v z n on ready) s in
    let seen = last_shown h v.commits st.snapshot.visibility st.shape.before front is.before st.fits.last in
    ap log_of_shape st.at
    ∙ ap (λ c. log_by x.reader c x.events) st.is
    ∙ log_is_of h x.reader.knows snap x.events (step n) x.before (length v.commits) (ap (map meaning) (is.took live) ∙ sym (drop_alike x.before (take (length v.commits) (commits_of h.steps)) v.commits front)) honest.honest seen
    ∙ sym (ap (λ k. log_kept h k (length v.commits)) (kept_is (step n) z n x snap s))

-- ---- answers look at the logs of live ready numbers alone

abbrev SameLogs : List RegistryEvent → (ℕ → List Entry) → (ℕ → List Entry) → Type 0
SameLogs es f g = (n : ℕ) → had_ready es n ≡ true → was_removed es n ≡ false → f n ≡ g n

abbrev with_log : answers.Situation → (ℕ → List Entry) → answers.Situation
with_log s f = record { run = s.run; events = s.events; log = f; late = s.late; chunk = s.chunk }

not_true : (b : Bool) → not b ≡ true → b ≡ false
not_true true h = cc
not_true false h = refl

-- a number that is found ready under an identity is ready, and live under it
pub record IsReadyOne (es : List RegistryEvent) (identity : List ℕ) (n : ℕ) : Type 0 where
  pub ready : had_ready es n ≡ true
  pub under : was_registered_under es identity n ≡ true
  pub live : was_removed es n ≡ false

abbrev first_ask : List ℕ → Ask
first_ask identity = record { table = 0; columns = None; clause = None; identity = identity; named = Absent; offset = Start; live = false; cursor = 0 }

abbrev bare : List RegistryEvent → answers.Situation
bare es = record { run = []; events = es; log = λ _. []; late = false; chunk = 1 }

pub found_ready : (es : List RegistryEvent) (identity : List ℕ) (n : ℕ) → ready_under es identity ≡ Some n → IsReadyOne es identity n
found_ready es identity n e =
    let p = pages_are_asked (bare es) (first_ask identity) (in_run [] n) Start (page_of 1 [] Start) (ap (λ r. answer_first (bare es) r (live_under es identity)) e) in
    let q = and_parts (was_registered_under es identity n) (not (was_removed es n)) p.under in
    record { ready = p.ready; under = q.0; live = not_true (was_removed es n) q.1 }

same_first : (s : answers.Situation) (f g : ℕ → List Entry) (ready live : Option ℕ) → ((n : ℕ) → ready ≡ Some n → f n ≡ g n) → answer_first (with_log s f) ready live ≡ answer_first (with_log s g) ready live
same_first s f g None None h = refl
same_first s f g None (Some n) h = refl
same_first s f g (Some n) live h = ap (λ log. Paged (in_run s.run n) Start (page_of s.chunk log Start)) (h n refl)

same_ready : (s : answers.Situation) (f g : ℕ → List Entry) (ask : Ask) (h : Handle) (a b : Bool) (rest : Answer) → (a ≡ true → b ≡ true → f h.number ≡ g h.number)
    → (if a then if b then answer_ready (with_log s f) ask h (f h.number) else Starting h.number else rest) ≡ (if a then if b then answer_ready (with_log s g) ask h (g h.number) else Starting h.number else rest)
same_ready s f g ask h true true rest e = ap (λ log. if is_before (end_of log) ask.offset then OffsetAhead (end_of log) else if ask.live && (not s.late && is_empty (past ask.offset log)) then NotYet else Paged h ask.offset (page_of s.chunk log ask.offset)) (e refl refl)
same_ready s f g ask h true false rest e = refl
same_ready s f g ask h false b rest e = refl

same_named : (s : answers.Situation) (f g : ℕ → List Entry) (ask : Ask) (named : Named) → SameLogs s.events f g → answer_named (with_log s f) ask named ≡ answer_named (with_log s g) ask named
same_named s f g ask Absent same = same_first s f g (ready_under s.events ask.identity) (live_under s.events ask.identity) (λ n e. let p = found_ready s.events ask.identity n e in same n p.ready p.live)
same_named s f g ask (Known h) same = same_ready s f g ask h (is_live_handle s.run s.events ask.identity h) (had_ready s.events h.number) (gone s ask)
    (λ live ready. same h.number ready (not_true (was_removed s.events h.number) (and_parts (was_registered_under s.events ask.identity h.number) (not (was_removed s.events h.number)) (and_parts (Rattle.shape_base.specs.Tables.same_text h.run s.run) (is_live_under s.events ask.identity h.number) live).1).1))
same_named s f g ask Strange same = refl

-- what was seen of the last registry when a reply was given is the registry then
pub seen_is : (v z : Server) → Extends v z → take (length v.registry) z.registry ≡ v.registry
seen_is v z on = ap (take (length v.registry)) on.registry ∙ take_at v.registry on.events (length v.registry) refl

pub answer_is : (o : Options) (h : History) (step : ℕ → ℕ) (v z : Server) (late : Bool) (g : Given) (ask : Ask) → g.seen ≡ length v.registry → g.shown ≡ length v.commits → IsTold o h step z → Sound o v → Extends v z
    → answer_of (answers_from o v late) ask ≡ answer_of (situation (world_of o h step z) g late) ask
answer_is o h step v z late g ask seen shown told sound on =
    let w = world_of o h step z in
    same_named (answers_from o v late) (λ n. log_of_shape (shape_at v.shapes n)) (λ n. log_at w n (length v.commits)) ask ask.named (λ n ready live. log_is o h step v z n told sound on ready live)
    ∙ ap (λ (es : List RegistryEvent). answer_of (record { run = o.run; events = es; log = λ n. log_at w n (length v.commits); late = late; chunk = o.limits.chunk }) ask) (sym (seen_is v z on) ∙ ap (λ k. take k z.registry) (sym seen))
    ∙ ap (λ k. answer_of (record { run = o.run; events = take g.seen z.registry; log = λ n. log_at w n k; late = late; chunk = o.limits.chunk }) ask) (sym shown)

-- ---- replies

-- the schema of a ready number is what the server itself knows
schema_is : (o : Options) (h : History) (step : ℕ → ℕ) (v z : Server) (n : ℕ) → Sound o v → Extends v z → had_ready v.registry n ≡ true → schema_at (known_of o v) n ≡ schema_at (world_of o h step z) n
schema_is o h step v z n sound on ready =
    let st = sound.ready n ready in
    let s = stands v z n st.shape st.snapshot on st.at st.is in
    let here : kept_of 0 (shape_at v.shapes n) ≡ Some (record { knows = st.shape.reader.knows; snapshot = st.snapshot.rows; step = 0 }) = ap (kept_of 0) st.at ∙ ap (kept_by st.shape.reader 0) st.is in
    ap (option_map (λ (s : Kept). schema_text s.knows)) here ∙ sym (ap (option_map (λ (s : Kept). schema_text s.knows)) (kept_is (step n) z n st.shape st.snapshot s))

pub reply_is : (o : Options) (h : History) (step : ℕ → ℕ) (v z : Server) (late : Bool) (ask : Ask) (answer : Answer) → answer_of (answers_from o v late) ask ≡ answer → Sound o v → Extends v z → reply_of (known_of o v) ask answer ≡ reply_of (world_of o h step z) ask answer
reply_is o h step v z late ask (Paged handle from page) e sound on =
    let p = pages_are_asked (answers_from o v late) ask handle from page e in
    ap (λ schema. Some (Rattle.http_edge.specs.Lawful.page_reply ask handle schema page)) (schema_is o h step v z handle.number sound on p.ready)
reply_is o h step v z late ask (Gone named) e sound on = refl
reply_is o h step v z late ask (OffsetAhead end) e sound on = refl
reply_is o h step v z late ask NotYet e sound on = refl
reply_is o h step v z late ask (Starting n) e sound on = refl
reply_is o h step v z late ask Unregistered e sound on = refl
